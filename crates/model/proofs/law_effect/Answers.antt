-- Each call does to the record what is said of its end.
use Rattle.model.proofs.Effects.{effects-as-said}
use Rattle.model.proofs.law_effect.Goals as goal

pub returns : goal.returns
returns c = effects-as-said
