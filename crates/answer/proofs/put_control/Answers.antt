-- `put_control` meets its contract: two bytes.
use native.Mathlib.Omega.{arith}
use Rattle.answer.proofs.Written.{behind}
use Rattle.answer.proofs.put_control.Goals as goal

pub returns : goal.returns
returns c = behind c.put_byte-p.ensures c.put_byte.ensures (omega arith)
