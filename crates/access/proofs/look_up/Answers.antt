use Prim.Native.Nat.{◌<◌}
use mathlib.Core.Path.{◌≡◌, ap}
use mathlib.Core.List.{List}
use native.Mathlib.Numerals.{add-one}
use native.Mathlib.Omega.{arith}
use lib.ListN.{length, get_or, length-take}
use Rattle.model.specs.declared.Access.{Access}
use Rattle.access.proofs.Search.{count, no_access, says_none, says_all, says-more}
use Rattle.access.proofs.look_up.Goals as goal

pub returns : goal.returns
returns c =
    let e : c.loop-row.row-index ≡ 29 = omega (arith, length-take {A = Access}, ap length c.table-rows.ensures, count) in
    let w = says_all _ _ _ _ _ (rw e at c.loop-row.invariant) in
    record {
      listed = rw (← c.kind_of-kind.ensures) w.listed;
      held = rw (← c.kind_of-kind.ensures, ← c.self_of-own.ensures) w.held;
      columns = λ k. rw (← c.kind_of-kind.ensures, ← c.self_of-own.ensures) (w.columns k);
    }

pub loop-row-init : goal.loop-row-init
loop-row-init c = says_none _ _ _ _

pub loop-row-preserved : goal.loop-row-preserved
loop-row-preserved c =
    let row = ap (λ (l : List Access). get_or l c.loop-row.row-index no_access) c.table-rows.ensures in
    let inside : c.loop-row.row-index < 29 = omega (arith, ap length c.table-rows.ensures, count) in
    rw (add-one, c.with_row-found.ensures) (says-more _ _ _ _ c.loop-row.row-index _ c.loop-row.found inside row c.loop-row.invariant)
