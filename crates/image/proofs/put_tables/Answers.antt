-- `put_tables` writes the tables, part behind part.
use native.Mathlib.Omega.{arith}
use Rattle.image.specs.Write.{tables_of}
use Rattle.model.proofs.Fields.{mapped}
use Rattle.image.proofs.Puts.{behind, sized}
use mathlib.Core.Path.{◌≡◌}
use lib.ListN.{length}
use borrow.Author.Rules.{rules}
use Rattle.image.proofs.put_tables.Goals as goal

pub returns : goal.returns
unfolding tables_of
returns c = let many : length c.args.t.enabled ≡ 13 = search rules in
    let rows : length c.args.t.rows ≡ 5 = search (rules, mapped) in
    let one = behind _ _ _ _ _ _ _ _ 1 105 c.put-a.ensures (sized _ _ _ _ _ _ _ (omega arith) c.put_each-b.ensures) (omega arith) in
    let two = behind _ _ _ _ _ _ _ _ 106 3 one c.put_each-c.ensures (omega arith) in
    let three = behind _ _ _ _ _ _ _ _ 109 13 two (sized _ _ _ _ _ _ _ (omega arith) c.put_each-d.ensures) (omega arith) in
    behind _ _ _ _ _ _ _ _ 122 1 three c.put.ensures (omega arith)
