-- `run_end` meets its contract. Up to `end` all sectors have one owner among the rows that the loop passed.
use Prim.Native.Nat.{ℕ, ◌+◌, ◌≤◌, ◌<◌}
use mathlib.Core.Path.{◌≡◌}
use Rattle.ranges.specs.Owner.{owner_below}
use Rattle.ranges.proofs.run_end.Given as goal

abbrev pub invariant-loop-a : goal.invariant-loop-a
invariant-loop-a l = (l.at < l.end) × (l.end ≤ l.e) × ((s : ℕ) → l.at ≤ s → s < l.end → owner_below l.fn.rows s (l.a-index + 1) ≡ owner_below l.fn.rows l.at (l.a-index + 1))
