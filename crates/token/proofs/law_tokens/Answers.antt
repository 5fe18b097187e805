-- `token::law_tokens` holds: what has the form of a token is read as what it says, and nothing else is.
use Rattle.token.proofs.Taken.{taken, ends}
use Rattle.token.proofs.Only.{only}
use Rattle.token.proofs.law_tokens.Goals as goal

pub returns : goal.returns
returns c = record { taken = taken; only = only; ends = ends }
