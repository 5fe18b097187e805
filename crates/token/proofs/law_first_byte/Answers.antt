-- `token::law_first_byte` states `FirstByte`, which `first_byte_lem` shows.
use Rattle.token.proofs.Table.{first_byte_lem}
use Rattle.token.proofs.law_first_byte.Goals as goal

pub returns : goal.returns
returns c = first_byte_lem
