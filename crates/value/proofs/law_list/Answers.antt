-- The step of a list, from `Inside`.
use Rattle.value.proofs.Inside.{values-step}
use Rattle.value.proofs.law_list.Goals as goal

pub returns : goal.returns
returns c = values-step
