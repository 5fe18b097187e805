-- The number that comes back is the lowest that applies.
use Rattle.model.proofs.Numbered.{numbers-in-order}
use Rattle.model.proofs.law_numbers.Goals as goal

pub returns : goal.returns
returns c = numbers-in-order
