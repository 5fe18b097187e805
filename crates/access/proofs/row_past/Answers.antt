-- `row_past` meets its contract: a user's row is at most the last.
use native.Mathlib.Omega.{arith}
use Rattle.access.proofs.Nth.{nth-least}
use Rattle.access.proofs.row_past.Goals as goal

pub overflow_add-result : goal.overflow_add-result
overflow_add-result c = omega (arith, nth-least _ _ _ _ c.in_ok-u.ensures)
