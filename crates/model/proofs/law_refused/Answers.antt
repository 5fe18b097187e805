-- `law_refused` holds.
use Rattle.model.proofs.Refused.{refused-keeps}
use Rattle.model.proofs.law_refused.Goals as goal

pub returns : goal.returns
returns c = refused-keeps
