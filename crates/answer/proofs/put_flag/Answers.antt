-- `put_flag` meets its contract: a flag is a tiny integer.
use native.Mathlib.Omega.{arith}
use Rattle.answer.proofs.Written.{said}
use Rattle.answer.proofs.Spelled.{flag_is}
use Rattle.answer.proofs.put_flag.Goals as goal

pub returns : goal.returns
returns c = said c.put_byte.ensures (flag_is _ _ c.from.ensures) (omega arith)
