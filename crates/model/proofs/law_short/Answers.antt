-- An answer never exceeds 2,048 bytes.
use Rattle.model.proofs.Framed.{answers-short}
use Rattle.model.proofs.law_short.Goals as goal

pub returns : goal.returns
returns c = answers-short
