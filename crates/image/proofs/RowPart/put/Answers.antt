-- A range row is written part behind part.
use native.Mathlib.Omega.{arith}
use Rattle.image.specs.Write.{row_of}
use Rattle.image.proofs.Puts.{behind}
use Rattle.image.proofs.RowPart.put.Goals as goal

pub returns : goal.returns
unfolding row_of
returns c = let one = behind _ _ _ _ _ _ _ _ 8 8 c.put_number-a.ensures c.put_number-b.ensures (omega arith) in
    behind _ _ _ _ _ _ _ _ 16 5 one c.put_each.ensures (omega arith)
