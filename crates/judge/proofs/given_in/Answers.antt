-- `given_in` asks each column.
use Prim.Native.Nat.{ℕ}
use mathlib.Core.Path.{refl, ◌∙◌}
use mathlib.Core.Bool.{Bool, not}
use borrow.Author.Rules.{rules}
use Rattle.std.proofs.Common.{tests}
use Rattle.std.proofs.lemmas.Iterator.{YieldsList-from_range}
use Rattle.std.proofs.lemmas.Iterator.Search.{all_from_yields_List}
use Rattle.ranges.specs.Decides.{imp}
use Rattle.params.specs.Columns.{column_at, column_count, free}
use Rattle.model.specs.Access.{has_column}
use Rattle.judge.proofs.Known.{each_below}
use Rattle.judge.proofs.given_in.Goals as goal

pub returns : goal.returns
returns c =
    let a = c.args in
    let test : ℕ → Bool = λ k. imp (not (free (column_at a.t k))) (has_column a.set k) in
    all_from_yields_List test _ _ c.all.result c.all.ensures.ran (YieldsList-from_range 0 column_count column_count refl refl) (λ x b q k. search (rules, tests)) ∙ each_below test column_count
