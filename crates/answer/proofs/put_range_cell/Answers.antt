-- `put_range_cell` meets its contract, column by column.
use native.Mathlib.Omega.{arith}
use Rattle.model.specs.Answer.{range_cell}
use Rattle.answer.proofs.Written.{said}
use Rattle.answer.proofs.Spelled.{number_is, at-column}
use Rattle.answer.proofs.put_range_cell.Goals as goal

pub returns-in-3 : goal.returns-in-3
returns-in-3 c =
    said c.put_int.ensures (at-column (range_cell c.args.row) 3 _ _ (number_is _) c.in-3.is) (omega arith)

pub returns-in-4 : goal.returns-in-4
returns-in-4 c =
    said c.put_int-in-4.ensures (at-column (range_cell c.args.row) 4 _ _ (number_is _) c.in-4.is) (omega arith)
