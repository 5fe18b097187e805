-- What decides whether the rows fit is their test.
use mathlib.Core.Path.{◌≡◌}
use mathlib.Core.Bool.{Bool}
use mathlib.Core.List.{List}
use Prim.Native.Nat.{ℕ}
use Rattle.ranges.specs.Decides.{Decides}
use Rattle.ranges.specs.Fit.{Fit, fit_b}
use Rattle.ranges.specs.declared.Row.{Row}
use Rattle.ranges.proofs.Decide.{same}
use Rattle.ranges.proofs.Fitted.{fit-decides}

pub fits_told : (b : Bool) (rows : List Row) (n : ℕ) → Decides b (Fit rows n) → b ≡ fit_b rows n
fits_told b rows n d = same b _ d (fit-decides rows n)
