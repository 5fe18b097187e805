-- A row of the Locking table, and lists of them of any length: row 0 is the global range, the others are the ranges.
use Rattle.std.specs.Prelude.{ℕ, ◌+◌, ◌≤◌, ◌<◌, Bool, false, ◌&&◌, List, get_or, leb, ltb}
use Rattle.ranges.specs.declared.Row.{Row}

-- the number of rows that the code has: "one global and four other ranges". No definition or law goes by it
abbrev pub row_count : ℕ
row_count = 5

-- a row as it comes from the factory: "range numbers and flags 0, {0}"
abbrev pub no_row : Row
no_row = record {
  start = 0;
  length = 0;
  read_enabled = false;
  write_enabled = false;
  read_locked = false;
  write_locked = false;
  lock_on_program = false;
}

abbrev pub row_at : List Row → ℕ → Row
row_at rows i = get_or rows i no_row

-- sector s lies in r; in a row of length 0 none does
pub record Holds (r : Row) (s : ℕ) : Type 0 where
  pub from : r.start ≤ s
  pub to : s < r.start + r.length

-- the same, as a test
abbrev pub holds_b : Row → ℕ → Bool
holds_b r s = leb r.start s && ltb s (r.start + r.length)
