-- "Every sector has one owner, the global range if no other", and how many sectors each row owns.
use Rattle.std.specs.Prelude.{ℕ, zero, suc, ◌+◌, ◌≤◌, ◌<◌, ◌≡◌, Bool, ◌&&◌, cond, List, length, leb, eqb}
use Rattle.ranges.specs.declared.Row.{Row}
use Rattle.ranges.specs.Row.{row_at, Holds, holds_b}

-- o owns s: a range that holds it, or the global range where no range does
pub record Owns (rows : List Row) (s o : ℕ) : Type 0 where
  pub within : o < length rows
  pub held : 1 ≤ o → Holds (row_at rows o) s
  pub else : o ≡ 0 → (i : ℕ) → 1 ≤ i → i < length rows → Holds (row_at rows i) s → ⊥

-- the range among the rows below m that holds s, and 0 where none does
unfoldable pub owner_below : List Row → ℕ → ℕ → ℕ
owner_below rows s zero = 0
owner_below rows s (suc m) = cond (leb 1 m && holds_b (row_at rows m) s) m (owner_below rows s m)

unfoldable pub owner_of : List Row → ℕ → ℕ
owner_of rows s = owner_below rows s (length rows)

-- how many numbers below n pass p, counted one by one
unfoldable pub count : (ℕ → Bool) → ℕ → ℕ
count p zero = 0
count p (suc n) = cond (p n) 1 0 + count p n

-- f at each number below m, summed
unfoldable pub sum : (ℕ → ℕ) → ℕ → ℕ
sum f zero = 0
sum f (suc m) = f m + sum f m

-- the sectors below n that row i owns
unfoldable pub share : List Row → ℕ → ℕ → ℕ
share rows n i = count (λ s. eqb (owner_of rows s) i) n
