-- A Set that is kept, and one that is dropped. Over any number of rows.
use Prim.Native.Nat.{ℕ, ◌≤◌, ◌<◌}
use mathlib.Core.Path.{◌≡◌, refl}
use mathlib.Core.Bool.{Bool, true, false, ◌&&◌}
use mathlib.Core.List.{List}
use lib.ListN.{length}
use lib.Dec.{ltb}
use borrow.Author.Tests.{lt-ltb, le-ltb}
use Rattle.std.specs.Prelude.{None, unwrap_or}
use Rattle.std.specs.Bool.{then_some}
use Rattle.ranges.specs.declared.Row.{Row}
use Rattle.ranges.specs.declared.Edit.{Edit}
use Rattle.ranges.specs.Decides.{Decides, imp}
use Rattle.ranges.specs.Fit.{Fit, fit_b}
use Rattle.ranges.specs.Set.{edited, keeps_span, set_ok, set_rows, judged_of}
use Rattle.ranges.proofs.Decide.{same}
use Rattle.ranges.proofs.Fitted.{fit-decides}

-- what holds of x where c is true, and of y, holds of the one that is chosen
chosen : (P : List Row → Type 0) (a b c : Bool) (x y : List Row) → (c ≡ true → P x) → P y → P (unwrap_or (then_some (a && (b && c)) x) y)
chosen P true true true x y f p = f refl
chosen P true true false x y f p = p
chosen P true false c x y f p = p
chosen P false b c x y f p = p

module _ (rows : List Row) (k : ℕ) (e : Edit) (n : ℕ) where
  pub set-fits : Fit rows n → Fit (set_rows rows k e n) n
  unfolding set_ok set_rows
  set-fits f =
      chosen (λ x. Fit x n) (ltb k (length rows)) (imp (ltb k 1) (keeps_span e)) (fit_b (edited rows k e) n) _ _
      (fit-decides (edited rows k e) n).holds
      f

  pub no-row : length rows ≤ k → None ≡ judged_of rows k e n
  unfolding set_ok
  no-row l = rw (le-ltb k (length rows) l) refl

  module _ (l : k < length rows) (b : Bool) (s : b ≡ imp (ltb k 1) (keeps_span e)) where
    pub moved : b ≡ false → None ≡ judged_of rows k e n
    unfolding set_ok
    moved t = rw (lt-ltb k (length rows) l, ← s, t) refl

    pub judged : b ≡ true → (x : List Row) → x ≡ edited rows k e → (f : Bool) → Decides f (Fit x n) → then_some f x ≡ judged_of rows k e n
    unfolding set_ok
    judged t x q f d = rw (lt-ltb k (length rows) l, ← s, t, ← q, same _ _ (fit-decides x n) d) refl
