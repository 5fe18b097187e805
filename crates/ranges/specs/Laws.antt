-- What is shown of ranges, over any number of rows.
use Rattle.std.specs.Prelude.{ℕ, ◌+◌, ◌≤◌, ◌<◌, ◌≡◌, Bool, true, false, List, length}
use Rattle.ranges.specs.declared.Row.{Row}
use Rattle.ranges.specs.declared.Edit.{Edit}
use Rattle.ranges.specs.Decides.{Decides}
use Rattle.ranges.specs.Row.{row_at}
use Rattle.ranges.specs.Fit.{Fit, fit_b}
use Rattle.ranges.specs.Set.{set_rows}
use Rattle.ranges.specs.Owner.{Owns, owner_of, sum, share}
use Rattle.ranges.specs.Media.{clear_b}
use Rattle.ranges.specs.Reset.{reset_rows}

-- the test is the statement over sectors
abbrev pub FitDecided : Type 0
FitDecided = (rows : List Row) (n : ℕ) → Decides (fit_b rows n) (Fit rows n)

-- a Set never ends a fit, and neither does a reset
pub record FitKept : Type 0 where
  pub by_set : (rows : List Row) (k : ℕ) (e : Edit) (n : ℕ) → Fit rows n → Fit (set_rows rows k e n) n
  pub by_reset : (active : Bool) (rows : List Row) (n : ℕ) → Fit rows n → Fit (reset_rows active rows) n

-- every sector has exactly one owner
pub record OneOwner : Type 0 where
  pub some : (rows : List Row) (s : ℕ) → 1 ≤ length rows → Owns rows s (owner_of rows s)
  pub no_other : (rows : List Row) (n s o : ℕ) → Fit rows n → Owns rows s o → o ≡ owner_of rows s

-- the shares, each counted sector by sector, add up to N, and a range's share is its length
pub record Shares : Type 0 where
  pub total : (rows : List Row) (n : ℕ) → 1 ≤ length rows → sum (share rows n) (length rows) ≡ n
  pub range : (rows : List Row) (n i : ℕ) → Fit rows n → 1 ≤ i → i < length rows → share rows n i ≡ (row_at rows i).length

-- what a clear transfer says of every sector that it touches: its owner lets it pass
pub record Passes (r : Row) (write : Bool) : Type 0 where
  pub reading : write ≡ false → r.read_enabled ≡ true → r.read_locked ≡ true → ⊥
  pub writing : write ≡ true → r.write_enabled ≡ true → r.write_locked ≡ true → ⊥

abbrev pub ClearDecided : Type 0
ClearDecided = (rows : List Row) (write : Bool) (start count : ℕ)
    → Decides (clear_b rows write start count) ((s : ℕ) → start ≤ s → s < start + count → Passes (row_at rows (owner_of rows s)) write)
