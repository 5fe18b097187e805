-- `put_pin_cell` meets its contract, column by column.
use native.Mathlib.Omega.{arith}
use Rattle.model.specs.Answer.{pin_cell}
use Rattle.answer.proofs.Written.{said}
use Rattle.answer.proofs.Spelled.{tiny-is, number_is, at-column}
use Rattle.answer.proofs.put_pin_cell.Goals as goal

pub returns-in-5 : goal.returns-in-5
returns-in-5 c =
    let a = c.args in
    said c.put_byte.ensures (at-column (pin_cell a.c a.row) 5 _ _ (tiny-is 5 (omega arith)) c.in-5.is) (omega arith)

pub returns-in-6 : goal.returns-in-6
returns-in-6 c =
    let a = c.args in
    said c.put_int.ensures (at-column (pin_cell a.c a.row) 6 _ _ (rw (c.from.ensures, c.tries_at.ensures) (number_is _)) c.in-6.is) (omega arith)
