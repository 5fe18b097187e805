-- `put_ending` meets its contract: seven bytes in a row.
use mathlib.Core.Path.{refl}
use native.Mathlib.Omega.{arith}
use Rattle.answer.proofs.Written.{said, copied}
use Rattle.answer.proofs.put_ending.Goals as goal

pub returns : goal.returns
returns c = said (copied _ _ _ _ _ c.copy_from_slice.ensures.after (omega arith)) (rw c.status_number.ensures refl) (omega arith)
