-- `tape::law_shortest` holds: no bytes that are read as a value are fewer than those that are written for it.
use Rattle.tape.proofs.Least.{value-least}
use Rattle.tape.proofs.law_shortest.Goals as goal

pub returns : goal.returns
returns c = value-least
