-- `law_tries` holds.
use Rattle.model.proofs.Counted.{tries-counted}
use Rattle.model.proofs.law_tries.Goals as goal

pub returns : goal.returns
returns c = tries-counted
