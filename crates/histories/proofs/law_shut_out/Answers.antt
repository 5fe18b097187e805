-- Each wrong card is told apart.
use Rattle.histories.proofs.Histories.{shut_out}
use Rattle.histories.proofs.law_shut_out.Goals as goal

pub returns : goal.returns
returns c = shut_out
