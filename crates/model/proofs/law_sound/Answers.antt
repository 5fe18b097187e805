-- Every record that a run reaches is sound.
use Rattle.model.proofs.Reached.{always-sound}
use Rattle.model.proofs.law_sound.Goals as goal

pub returns : goal.returns
returns c = always-sound
