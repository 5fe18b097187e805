-- Two rows of bytes compared byte by byte.
use Prim.Native.Nat.{ℕ, ◌+◌, ◌≤◌, ◌<◌}
use mathlib.Core.Path.{◌≡◌, refl, sym, ap}
use mathlib.Core.Bool.{Bool, ◌&&◌}
use mathlib.Core.List.{List, [], ◌∷◌}
use native.Mathlib.Nat.{suc-ne-zero}
use native.Mathlib.Omega.{arith}
use lib.ListN.{length, get_or}
use lib.Seq.{ext_get_or}
use lib.Dec.{eqb}
use borrow.Author.Count.{below_more}
use borrow.Author.Tests.{eqb-true, eqb-false}
use Rattle.ranges.specs.Decides.{Decides}
use Rattle.ranges.proofs.Decide as Dec
use Rattle.model.specs.Vault.{same}

-- the test tells whether they are one
dec-same : (xs ys : List ℕ) → Decides (same xs ys) (xs ≡ ys)
unfolding same
dec-same [] [] = Dec.from-true refl refl
dec-same [] (y ∷ ys) = Dec.from_false refl (λ e. suc-ne-zero (length ys) (sym (ap length e)))
dec-same (x ∷ xs) [] = Dec.from_false refl (λ e. suc-ne-zero (length xs) (ap length e))
dec-same (x ∷ xs) (y ∷ ys) =
    Dec.map
    (λ h i. h.0 i ∷ h.1 i)
    (λ e. (cc, cc))
    (Dec.dec-and (eqb x y) (same xs ys) (record { holds = eqb-true x y; fails = eqb-false x y }) (dec-same xs ys))

-- as long as each other, and alike in the first i bytes
abbrev pub Alike : List ℕ → List ℕ → ℕ → Type 0
Alike xs ys i = (length xs ≡ length ys) × ((k : ℕ) → k < i → get_or xs k 0 ≡ get_or ys k 0)

-- the lengths compared, and no byte yet
pub alike-none : (xs ys : List ℕ) → Decides (eqb (length xs) (length ys)) (Alike xs ys 0)
alike-none xs ys = record { holds = λ e. (eqb-true _ _ e, λ k l. absurd (omega arith)); fails = λ e h. eqb-false _ _ e h.0 }

-- one byte more, where b is the answer so far
pub alike-more : (xs ys : List ℕ) (i : ℕ) (b : Bool) → Decides b (Alike xs ys i) → Decides (b && eqb (get_or xs i 0) (get_or ys i 0)) (Alike xs ys (i + 1))
alike-more xs ys i b d =
    Dec.map
    (λ h. (h.0.0, below_more _ _ h.0.1 h.1))
    (λ h. ((h.0, λ j l. h.1 j (omega arith)), h.1 i (omega arith)))
    (Dec.dec-and b _ d (record { holds = eqb-true _ _; fails = eqb-false _ _ }))

-- all bytes compared
pub alike_all : (xs ys : List ℕ) (n : ℕ) (b : Bool) → length xs ≤ n → Decides b (Alike xs ys n) → b ≡ same xs ys
alike_all xs ys n b l d =
    Dec.same b (same xs ys)
    (Dec.map (λ h. ext_get_or 0 xs ys h.0 (λ k m. h.1 k (omega arith))) (λ e. (ap length e, λ k m. ap (λ zs. get_or zs k 0) e)) d)
    (dec-same xs ys)
