-- `put_byte` meets its contract: one store.
use native.Mathlib.Omega.{arith}
use Rattle.answer.proofs.Written.{stored}
use Rattle.answer.proofs.put_byte.Goals as goal

pub returns : goal.returns
returns c = stored _ _ _ (omega arith)
