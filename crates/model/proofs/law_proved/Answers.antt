-- `law_proved` holds.
use Rattle.model.proofs.Counted.{proved-as-told}
use Rattle.model.proofs.law_proved.Goals as goal

pub returns : goal.returns
returns c = proved-as-told
