-- The test decides the clauses.
use Rattle.model.proofs.Soundness.{sound-decides}
use Rattle.model.proofs.law_sound_clauses.Goals as goal

pub returns : goal.returns
returns c = sound-decides
