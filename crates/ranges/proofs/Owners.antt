-- Who owns a sector. Over any number of rows.
use Prim.Native.Nat.{ℕ, zero, suc, ◌+◌, ◌≤◌, ◌<◌}
use mathlib.Core.Path.{◌≡◌, refl}
use mathlib.Core.Bool.{Bool, true, false, cond}
use mathlib.Core.List.{List}
use mathlib.Core.Logic.{⊎_elim, ◌⊎◌, inl, inr}
use lib.ListN.{length}
use native.Mathlib.Nat.{le_of_suc-le-suc, not-suc-le-zero, eq-or-lt_of_le, lt-suc_self}
use native.Mathlib.Numerals.{add-one}
use native.Mathlib.Omega.{arith}
use Rattle.ranges.specs.declared.Row.{Row}
use Rattle.ranges.specs.Decides.{Decides}
use Rattle.ranges.specs.Row.{row_at, Holds, holds_b}
use Rattle.ranges.specs.Fit.{Fit}
use Rattle.ranges.specs.Owner.{owner_below, owner_of, Owns}
use Rattle.ranges.proofs.Decide.{le-or-lt, dec-le, dec-and}
use Rattle.ranges.proofs.Fitted.{holds-decides}

-- one row more, for two sectors that the row holds both or neither
pub owner-alike : (rows : List Row) (s t i : ℕ) → holds_b (row_at rows i) s ≡ holds_b (row_at rows i) t → owner_below rows s i ≡ owner_below rows t i
    → owner_below rows s (i + 1) ≡ owner_below rows t (i + 1)
unfolding owner_below
owner-alike rows s t i e f = rw (add-one, e, f) refl

-- all rows passed
pub owner-done : (rows : List Row) (s t i : ℕ) → i ≡ length rows → owner_below rows s i ≡ owner_below rows t i → owner_of rows s ≡ owner_of rows t
unfolding owner_of
owner-done rows s t i e f = rw e at f

module _ (rows : List Row) (s : ℕ) where
  abbrev Found : ℕ → ℕ → Type 0
  Found m o =
      ((o ≡ 0) × ((i : ℕ) → 1 ≤ i → i < m → Holds (row_at rows i) s → ⊥))
      ⊎ ((1 ≤ o) × (o < m) × Holds (row_at rows o) s)

  found-more : (m o : ℕ) (b : Bool) → Decides b ((1 ≤ m) × Holds (row_at rows m) s) → Found m o → Found (suc m) (cond b m o)
  found-more m o true d f = inr ((d.holds refl).0, lt-suc_self m, (d.holds refl).1)
  found-more m o false d (inl x) =
      inl (x.0, (λ i p l h. ⊎_elim (λ e. d.fails refl (omega arith, rw e at h)) (λ lt. x.1 i p lt h) (eq-or-lt_of_le (le_of_suc-le-suc l))))
  found-more m o false d (inr y) = inr (y.0, omega arith, y.2)

  found : (m : ℕ) → Found m (owner_below rows s m)
  unfolding owner_below
  found zero = inl (refl, (λ i o l. absurd (not-suc-le-zero l)))
  found (suc m) = found-more m _ _ (dec-and _ _ (dec-le 1 m) (holds-decides (row_at rows m) s)) (found m)

  -- each sector has an owner
  pub owns : 1 ≤ length rows → Owns rows s (owner_of rows s)
  unfolding owner_of
  owns long =
      ⊎_elim
      (λ x. record { within = omega (arith, x.0); held = λ o. absurd (omega arith); else = λ _. x.1 })
      (λ y. record { within = y.1; held = λ _. y.2; else = λ e. absurd (omega arith) })
      (found (length rows))

  -- where the rows fit, two that own it are one
  module _ (n : ℕ) (f : Fit rows n) where
    no-later : (o p : ℕ) → o < p → Owns rows s o → Owns rows s p → ⊥
    no-later o p l x y =
        ⊎_elim
        (λ u. f.apart p o u l y.within s (y.held (omega arith)) (x.held u))
        (λ u. x.else (omega arith) p (omega arith) y.within (y.held (omega arith)))
        (le-or-lt 1 o)

    pub owns-once : (o p : ℕ) → Owns rows s o → Owns rows s p → o ≡ p
    owns-once o p x y =
        ⊎_elim
        (λ a. ⊎_elim (λ b. omega arith) (λ l. absurd (no-later o p l x y)) (le-or-lt p o))
        (λ l. absurd (no-later p o l y x))
        (le-or-lt o p)

    -- a sector of a range is owned by it
    pub owner-range : (i : ℕ) → 1 ≤ i → i < length rows → Holds (row_at rows i) s → owner_of rows s ≡ i
    owner-range i o l h =
        owns-once (owner_of rows s) i (owns (omega arith)) (record { within = l; held = λ _. h; else = λ e. absurd (omega arith) })
