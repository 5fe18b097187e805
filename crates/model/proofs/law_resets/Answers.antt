-- `law_resets` holds.
use Rattle.model.proofs.Tsns.{resets-as-said}
use Rattle.model.proofs.law_resets.Goals as goal

pub returns : goal.returns
returns c = resets-as-said
