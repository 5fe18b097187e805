-- `token::law_shortest` holds: no form that is read is shorter than the one that is written, and none runs past the input.
use Rattle.token.proofs.Least.{least}
use Rattle.token.proofs.law_shortest.Goals as goal

pub returns : goal.returns
returns c = least
