-- `law_pins` holds.
use Rattle.model.proofs.Stored.{pins-as-told}
use Rattle.model.proofs.law_pins.Goals as goal

pub returns : goal.returns
returns c = pins-as-told
