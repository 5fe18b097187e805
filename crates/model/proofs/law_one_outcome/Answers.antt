-- What comes back is one outcome.
use Rattle.model.proofs.Single.{one-outcome}
use Rattle.model.proofs.law_one_outcome.Goals as goal

pub returns : goal.returns
returns c = one-outcome
