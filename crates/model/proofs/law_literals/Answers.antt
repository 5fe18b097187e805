-- The rules go by the numbers in figures.
use Rattle.model.proofs.Known.{as-in-figures}
use Rattle.model.proofs.law_literals.Goals as goal

pub returns : goal.returns
returns c = as-in-figures
