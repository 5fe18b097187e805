-- `fits` meets its contract. The outer loop has shown what is asked of each row that it passed, and the inner one that row i is apart from those that it passed.
use Prim.Native.Nat.{ℕ, ◌+◌, ◌≤◌, ◌<◌}
use mathlib.Core.Path.{◌≡◌}
use mathlib.Core.Bool.{true}
use Rattle.ranges.specs.Row.{row_at}
use Rattle.ranges.specs.Fit.{Apart}
use Rattle.ranges.proofs.Fitted.{FitAt}
use Rattle.ranges.proofs.fits.Given as goal

abbrev pub invariant-loop-b : goal.invariant-loop-b
invariant-loop-b l = (l.ok ≡ true) × ((k : ℕ) → k < l.b-index + 1 → 1 ≤ k → Apart l.a (row_at l.fn.rows k))

abbrev pub invariant-pairs : goal.invariant-pairs
invariant-pairs l = (l.ok ≡ true) × ((k : ℕ) → k < l.i → FitAt l.rows l.n k)
