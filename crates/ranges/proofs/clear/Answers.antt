use Prim.Native.Nat.{◌<◌}
use mathlib.Core.Path.{sym, ◌∙◌}
use native.Mathlib.Omega.{arith}
use Rattle.ranges.specs.Row.{row_count}
use Rattle.ranges.proofs.Owners.{owns}
use Rattle.ranges.proofs.Verdicts.{barred-at, run-passed, all-passed}
use Rattle.ranges.proofs.clear.Goals as goal
use Rattle.ranges.proofs.clear.Goals.{After-owner-o}

-- the owner is a row
owner-lt : (c : After-owner-o) → c.owner-o.result < row_count
owner-lt c =
    omega (arith, c.owner-o.ensures, (owns c.args.rows c.loop-at.at (omega arith)).within)

pub offset_bounds-rows-o : goal.offset_bounds-rows-o
offset_bounds-rows-o c = omega (arith, owner-lt c)

pub bounds-rows-o : goal.bounds-rows-o
bounds-rows-o c = owner-lt c

pub returns-then-barred : goal.returns-then-barred
returns-then-barred c =
    barred-at _ _ _ _ c.loop-at.at (omega arith) (omega arith) _ c.owner-o.ensures (sym c.barred.ensures ∙ c.if-barred.true)

pub loop-at-preserved : goal.loop-at-preserved
loop-at-preserved c =
    let got = c.run_end-at.ensures in (
      omega (arith, got.0),
      got.1,
      run-passed _ _ _ _ _ c.loop-at.invariant.2 got.2 _ c.owner-o.ensures (sym c.barred.ensures ∙ c.if-barred.false),
    )

pub returns : goal.returns
returns c = all-passed _ _ _ _ _ (omega arith) c.loop-at.invariant.2
