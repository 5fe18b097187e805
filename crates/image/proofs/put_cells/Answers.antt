-- `put_cells` writes every cell that is no PIN, part behind part.
use native.Mathlib.Omega.{arith}
use Rattle.model.proofs.Fields.{mapped}
use Rattle.image.proofs.Puts.{behind, sized}
use mathlib.Core.Path.{◌≡◌}
use lib.ListN.{length}
use borrow.Author.Rules.{rules}
use Rattle.image.specs.Write.{cells_of}
use Rattle.image.proofs.put_cells.Goals as goal

pub returns : goal.returns
unfolding cells_of
returns c = let many : length c.args.c.pins ≡ 13 = search (rules, mapped) in
    let one = behind _ _ _ _ _ _ _ _ 43 123 c.put_head-a.ensures c.put_tables-b.ensures (omega arith) in
    let two = behind _ _ _ _ _ _ _ _ 166 13 one (sized _ _ _ _ _ _ _ (omega arith) c.put_each-d.ensures) (omega arith) in
    let three = behind _ _ _ _ _ _ _ _ 179 23 two c.put_session-e.ensures (omega arith) in
    let four = behind _ _ _ _ _ _ _ _ 202 4 three (rw c.from.ensures at c.put_number-f.ensures) (omega arith) in
    behind _ _ _ _ _ _ _ _ 206 124 four c.put_undo.ensures (omega arith)
