-- A Set on a Locking row: "all or nothing, judged on the row as it would stand".
use Rattle.std.specs.Prelude.{ℕ, Bool, ◌&&◌, List, length, set, ltb, Option, unwrap_or, is_none}
use Rattle.std.specs.Bool.{then_some}
use Rattle.ranges.specs.declared.Row.{Row}
use Rattle.ranges.specs.declared.Edit.{Edit}
use Rattle.ranges.specs.Decides.{imp}
use Rattle.ranges.specs.Row.{row_at}
use Rattle.ranges.specs.Fit.{fit_b}

-- the row as it would stand: columns 3 start, 4 length, 5 and 6 enabled, 7 and 8 locked, 9 LockOnReset; a column that is left out keeps its value
unfoldable pub edited_row : Row → Edit → Row
edited_row r e = record {
  start = unwrap_or e.start r.start;
  length = unwrap_or e.length r.length;
  read_enabled = unwrap_or e.read_enabled r.read_enabled;
  write_enabled = unwrap_or e.write_enabled r.write_enabled;
  read_locked = unwrap_or e.read_locked r.read_locked;
  write_locked = unwrap_or e.write_locked r.write_locked;
  lock_on_program = unwrap_or e.lock_on_program r.lock_on_program;
}

abbrev pub edited : List Row → ℕ → Edit → List Row
edited rows k e = set rows k (edited_row (row_at rows k) e)

-- the edit leaves start and length out
abbrev pub keeps_span : Edit → Bool
keeps_span e = is_none e.start && is_none e.length

-- "Set Admins 3-9, global 5-9": the row is there, row 0 keeps its numbers, and the rows as they would stand fit
unfoldable pub set_ok : List Row → ℕ → Edit → ℕ → Bool
set_ok rows k e n = ltb k (length rows) && (imp (ltb k 1) (keeps_span e) && fit_b (edited rows k e) n)

-- the rows as they would stand, where that is allowed
abbrev pub judged_of : List Row → ℕ → Edit → ℕ → Option (List Row)
judged_of rows k e n = then_some (set_ok rows k e n) (edited rows k e)

-- the rows after a Set: one that is refused leaves them as they were
unfoldable pub set_rows : List Row → ℕ → Edit → ℕ → List Row
set_rows rows k e n = unwrap_or (judged_of rows k e n) rows
