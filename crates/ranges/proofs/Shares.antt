-- The rows' shares, each counted sector by sector, sum to the number of sectors. Over any number of rows.
use Prim.Native.Nat.{ℕ, zero, suc, ◌+◌, ◌-◌, ◌≤◌, ◌<◌}
use mathlib.Core.Path.{◌≡◌, refl, ◌∙◌}
use mathlib.Core.Bool.{Bool, true, false, cond}
use mathlib.Core.List.{List}
use mathlib.Core.Logic.{⊎_elim, ◌⊎◌, inl, inr}
use lib.ListN.{length}
use lib.Dec.{eqb}
use native.Mathlib.Nat.{le_of_suc-le-suc, not-suc-le-zero, eq-or-lt_of_le}
use native.Mathlib.Omega.{arith}
use borrow.Author.Tests.{eq-eqb, ne_eqb}
use Rattle.ranges.specs.declared.Row.{Row}
use Rattle.ranges.specs.Row.{row_at}
use Rattle.ranges.specs.Fit.{Fit}
use Rattle.ranges.proofs.Decide.{le-or-lt}
use Rattle.ranges.specs.Owner.{owner_of, count, sum, share}
use Rattle.ranges.proofs.Owners.{owns, owner-range}

sum-zero : (m : ℕ) → sum (λ i. 0) m ≡ 0
unfolding sum
sum-zero zero = refl
sum-zero (suc m) = omega (arith, sum-zero m)

sum-add : (f g : ℕ → ℕ) (m : ℕ) → sum (λ i. f i + g i) m ≡ sum f m + sum g m
unfolding sum
sum-add f g zero = refl
sum-add f g (suc m) = omega (arith, sum-add f g m)

abbrev hit : ℕ → ℕ → ℕ
hit o i = cond (eqb o i) 1 0

sum-none : (o m : ℕ) → m ≤ o → sum (hit o) m ≡ 0
unfolding sum
sum-none o zero h = refl
sum-none o (suc m) h = rw (ne_eqb o m (λ e. omega arith)) (omega (arith, sum-none o m (omega arith)))

sum_one : (o m : ℕ) → o < m → sum (hit o) m ≡ 1
unfolding sum
sum_one o zero h = absurd (not-suc-le-zero h)
sum_one o (suc m) h =
    ⊎_elim
    (λ e. rw (eq-eqb o m e) (omega (arith, sum-none o m (omega arith))))
    (λ l. rw (ne_eqb o m (λ e. omega arith)) (omega (arith, sum_one o m l)))
    (eq-or-lt_of_le (le_of_suc-le-suc h))

-- every sector below n has one owner, so the shares sum to n
pub shares-total : (rows : List Row) → 1 ≤ length rows → (n : ℕ) → sum (share rows n) (length rows) ≡ n
unfolding share count
shares-total rows long zero = sum-zero (length rows)
shares-total rows long (suc n) =
    sum-add (hit (owner_of rows n)) (share rows n) (length rows)
    ∙ omega (arith, sum_one (owner_of rows n) (length rows) (owns rows n long).within, shares-total rows long n)

-- a test that passes from a up to a + l, and nowhere else, passes l times
module _ (p : ℕ → Bool) (a l : ℕ) (here : (s : ℕ) → a ≤ s → s < a + l → p s ≡ true) (there : (s : ℕ) → (a ≤ s → s < a + l → ⊥) → p s ≡ false) where
  count-more : (m : ℕ) → count p m ≡ (m - a) - (m - (a + l)) → (a ≤ m) ⊎ (m < a) → (a + l ≤ m) ⊎ (m < a + l) → count p (suc m) ≡ (suc m - a) - (suc m - (a + l))
  unfolding count
  count-more m e (inr x) y = rw (there m (λ q r. omega arith)) (omega arith)
  count-more m e (inl x) (inl y) = rw (there m (λ q r. omega arith)) (omega arith)
  count-more m e (inl x) (inr y) = rw (here m x y) (omega arith)

  count-span : (m : ℕ) → count p m ≡ (m - a) - (m - (a + l))
  unfolding count
  count-span zero = omega arith
  count-span (suc m) = count-more m (count-span m) (le-or-lt a m) (le-or-lt (a + l) m)

-- where the rows fit, a range's share is its length
pub share-range : (rows : List Row) (n : ℕ) → Fit rows n → (i : ℕ) → 1 ≤ i → i < length rows → share rows n i ≡ (row_at rows i).length
unfolding share
share-range rows n f i o l =
    let e : (row_at rows i).start + (row_at rows i).length ≤ n = f.ends i o l in
    count-span (λ s. eqb (owner_of rows s) i) (row_at rows i).start (row_at rows i).length
    (λ s a b. eq-eqb _ _ (owner-range rows s n f i o l (record { from = a; to = b })))
    (λ s h. ne_eqb (owner_of rows s) i (λ q. let w = (owns rows s (omega arith)).held (omega arith) in h (rw q at w.from) (rw q at w.to)))
    n
    ∙ omega arith
