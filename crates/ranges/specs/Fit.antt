-- "No two non-global ranges share a sector and each ends within N", as whole numbers.
use Rattle.std.specs.Prelude.{ℕ, ◌+◌, ◌≤◌, ◌<◌, Bool, not, ◌&&◌, List, length, leb, ltb}
use Rattle.ranges.specs.declared.Row.{Row}
use Rattle.ranges.specs.Decides.{imp, all}
use Rattle.ranges.specs.Row.{row_at, Holds}

-- r ends within n
abbrev pub Ends : Row → ℕ → Type 0
Ends r n = r.start + r.length ≤ n

-- no sector lies in both
abbrev pub Apart : Row → Row → Type 0
Apart a b = (s : ℕ) → Holds a s → Holds b s → ⊥

pub record Fit (rows : List Row) (n : ℕ) : Type 0 where
  pub ends : (i : ℕ) → 1 ≤ i → i < length rows → Ends (row_at rows i) n
  pub apart : (i j : ℕ) → 1 ≤ j → j < i → i < length rows → Apart (row_at rows i) (row_at rows j)

-- the same, as tests: `law_fit` says that they decide it
abbrev pub apart_b : Row → Row → Bool
apart_b a b = not (ltb 0 a.length && (ltb 0 b.length && (ltb a.start (b.start + b.length) && ltb b.start (a.start + a.length))))

abbrev pub fit_at : List Row → ℕ → ℕ → Bool
fit_at rows n i =
    imp (leb 1 i)
    (leb ((row_at rows i).start + (row_at rows i).length) n && all (λ j. imp (leb 1 j) (apart_b (row_at rows i) (row_at rows j))) i)

unfoldable pub fit_b : List Row → ℕ → Bool
fit_b rows n = all (fit_at rows n) (length rows)
