-- The worked histories are as stated.
use Rattle.histories.proofs.Histories.{worked, worked-locking}
use Rattle.histories.proofs.law_worked.Goals as goal

pub returns : goal.returns
returns c = (worked, worked-locking)
