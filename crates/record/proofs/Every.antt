-- `all` over the rows of a list, as a chain asks it of the elements. Over any test and any count.
use Prim.Native.Nat.{ℕ, zero, suc, ◌+◌, ◌-◌, ◌≤◌, ◌<◌}
use mathlib.Core.Path.{◌≡◌, refl, sym, ap, ap₂, ◌∙◌}
use mathlib.Core.Bool.{Bool, true, false, true≢false, ◌&&◌}
use mathlib.Core.List.{List}
use mathlib.Core.Logic.{⊎_elim}
use native.Mathlib.Omega.{arith}
use borrow.Author.Tests.{le-leb, lt-leb}
use lib.Dec.{leb}
use lib.ListN.{length, get_or, take, drop}
use Rattle.std.specs.List.{list_all}
use Rattle.std.proofs.Math.Bool.{and_comm}
use Rattle.std.proofs.Math.Nat.{add-suc}
use Rattle.std.proofs.Math.Numerals.{suc-eq-add-one}
use Rattle.std.proofs.lemmas.List.{get_or-drop, length-drop, take_all, drop_all}
use Rattle.std.proofs.lemmas.List.Folds.{list_all_more}
use Rattle.ranges.specs.Decides.{Decides, imp, all}
use Rattle.ranges.proofs.Decide.{is_true, is_false, dec-all, le-or-lt}
use Rattle.model.proofs.Soundness.{dec-on}

-- the test holds of every number below i
abbrev pub Below : (ℕ → Bool) → ℕ → Type 0
Below f i = (k : ℕ) → k < i → f k ≡ true

-- which is what `all` decides
decided : (f : ℕ → Bool) (n : ℕ) → Decides (all f n) (Below f n)
decided f n = dec-all f _ (λ k. dec-on (f k)) n

-- it holds of them all
pub passed : (f : ℕ → Bool) (n i : ℕ) → n ≤ i → Below f i → true ≡ all f n
passed f n i l h = sym (is_true _ (decided f n) (λ k m. h k (omega arith)))

-- and one fails
pub failed : (f : ℕ → Bool) (n i : ℕ) → i < n → f i ≡ false → false ≡ all f n
failed f n i l e = sym (is_false _ (decided f n) (λ h. true≢false (sym (h i l) ∙ e)))

-- a test that is only asked from a number on: below it, and from it on
not-asked : (first : ℕ) (g : ℕ → Bool) → Below (λ k. imp (leb first k) (g k)) first
not-asked first g k l = rw (lt-leb first k l) refl

asked : (first k : ℕ) {b v : Bool} → first ≤ k → b ≡ v → imp (leb first k) b ≡ v
asked first k l e = rw (le-leb first k l) e

-- p of the rows of a list, d past its end, and from a row on
module _ {X : Type 0} (p : X → Bool) (d : X) (l : List X) where
  abbrev from : ℕ → ℕ → Bool
  from first r = imp (leb first r) (p (get_or l r d))

  some : (first m : ℕ) → m ≤ length (drop first l) → list_all p (take m (drop first l)) ≡ all (from first) (first + m)
  unfolding all
  some first zero h = passed _ (first + 0) first (omega arith) (not-asked first _)
  some first (suc m) h =
      let here : imp (leb first (first + m)) (p (get_or l (first + m) d)) ≡ p (get_or (drop first l) m d) = asked first (first + m) (omega arith) (sym (ap p (get_or-drop first l m d))) in
      ap (λ k. list_all p (take k (drop first l))) (suc-eq-add-one m)
      ∙ list_all_more p (drop first l) m d (omega arith)
      ∙ ap₂ ◌&&◌ (some first m (omega arith)) (sym here)
      ∙ and_comm (all (from first) (first + m)) (from first (first + m))
      ∙ ap (all (from first)) (sym (add-suc first m))

  pub all_from : (first n : ℕ) → length l ≡ n → list_all p (drop first l) ≡ all (from first) n
  all_from first n e =
      ⊎_elim
      (λ (h : first ≤ n).
      let long : length (drop first l) ≡ n - first = rw (length-drop first l, e) refl in
      let sum : first + (n - first) ≡ n = omega arith in
      ap (list_all p) (sym (take_all (n - first) (drop first l) (omega arith))) ∙ some first (n - first) (omega arith) ∙ ap (all (from first)) sum)
      (λ (h : n < first). ap (list_all p) (drop_all first l (omega arith)) ∙ passed _ n first (omega arith) (not-asked first _))
      (le-or-lt first n)

  pub all_rows : (n : ℕ) → length l ≡ n → list_all p l ≡ all (λ r. p (get_or l r d)) n
  all_rows n e = all_from 0 n e ∙ (λ i. all (λ r. imp (le-leb 0 r (omega arith) i) (p (get_or l r d))) n)
