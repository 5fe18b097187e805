-- What a power cycle and a TPER_RESET do: "if Locking is active, sets columns 7 and 8 of every row and clears Done", whatever LockOnReset and DoneOnReset hold.
use Rattle.std.specs.Prelude.{Bool, true, false, cond, List, map}
use Rattle.ranges.specs.declared.Row.{Row}
use Rattle.ranges.specs.declared.Mbr.{Mbr}

abbrev pub locked_row : Row → Row
locked_row r = record {
  start = r.start;
  length = r.length;
  read_enabled = r.read_enabled;
  write_enabled = r.write_enabled;
  read_locked = true;
  write_locked = true;
  lock_on_program = r.lock_on_program;
}

unfoldable pub reset_rows : Bool → List Row → List Row
reset_rows active rows = cond active (map locked_row rows) rows

unfoldable pub reset_mbr : Bool → Mbr → Mbr
reset_mbr active m = cond active (record { enable = m.enable; done = false; done_on_program = m.done_on_program }) m
