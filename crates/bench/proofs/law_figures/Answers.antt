-- The starred figures hold.
use Rattle.bench.proofs.Figured.{all_hold}
use Rattle.bench.proofs.law_figures.Goals as goal

pub returns : goal.returns
returns c = all_hold
