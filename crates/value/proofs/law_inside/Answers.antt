-- A value lies within the input, from `Inside`.
use Rattle.value.proofs.Inside.{value-inside}
use Rattle.value.proofs.law_inside.Goals as goal

pub returns : goal.returns
returns c = value-inside
