-- The law of a step, from `Steps`.
use Rattle.item.proofs.Steps.{found}
use Rattle.item.proofs.law_step.Goals as goal

pub returns : goal.returns
returns c = found
