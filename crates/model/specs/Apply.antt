-- What a decision does to the cells.
use Rattle.std.specs.Prelude.{ℕ, ◌+◌, Bool, true, false, cond, List, set, replicate, ltb, unwrap_or}
use Rattle.ranges.specs.Set.{edited}
use Rattle.ranges.specs.Reset.{reset_rows, reset_mbr}
use Rattle.model.specs.Types.{Tsn, Hsn, Mbr, Tables, PinRow, Session, Cells, Who, MbrEdit, Change, Decision}
use Rattle.model.specs.declared.Who.TheVariants as W
use Rattle.model.specs.declared.Change.TheVariants as C
use Rattle.model.specs.declared.Decision.TheVariants as D
use Rattle.model.specs.Record as R

-- the tables that stand when an open transaction, if there is one, is given up: media questions and number 7 go by these
abbrev pub settled_tables : Cells → Tables
settled_tables c = cond c.undo.live c.undo.was c.tables

-- with no transaction, and t the tables
abbrev pub closed : Cells → Tables → Cells
closed c t = R.with_undo (R.with_tables c t) R.no_undo

-- the session ends, "abandoning its transaction"
abbrev pub ended : Cells → Cells
ended c = R.with_session (closed c (settled_tables c)) R.no_session

-- "TSNs run 1, 2, ..., FFFFFFFF, then 1"
abbrev pub next_tsn : Tsn → Tsn
next_tsn x = record { 0 = cond (ltb x.0 0xffffffff) (x.0 + 1) 1 }

-- "PIN differs, Tries + 1"; a counter at the limit is not asked, and stays
abbrev pub missed_row : PinRow → PinRow
missed_row p = record { tries = cond (ltb p.tries R.try_limit) (p.tries + 1) p.tries }

abbrev pub missed : Cells → ℕ → Cells
missed c r = R.with_pins c (set c.pins r (missed_row (R.pin_row_at c.pins r)))

-- "the authority is proved"; Anybody needs no proof
unfoldable pub proving : List Bool → Who → List Bool
proving l W.Unknown = l
proving l W.Anybody = l
proving l W.Class = l
proving l (W.Row r) = set l r true

-- "Equal: Tries 0"
unfoldable pub cleared : Cells → Who → Cells
cleared c W.Unknown = c
cleared c W.Anybody = c
cleared c W.Class = c
cleared c (W.Row r) = R.with_tries c r 0

abbrev pub started_session : Cells → Bool → Hsn → Who → Session
started_session c locking hsn w =
    record { live = true; locking = locking; tsn = c.next; hsn = hsn; proved = proving (replicate R.pin_count false) w }

abbrev pub proved_session : Session → Who → Session
proved_session s w = record { live = s.live; locking = s.locking; tsn = s.tsn; hsn = s.hsn; proved = proving s.proved w }

abbrev pub edited_mbr : Mbr → MbrEdit → Mbr
edited_mbr m e = record {
  enable = unwrap_or e.enable m.enable;
  done = unwrap_or e.done m.done;
  done_on_program = unwrap_or e.done_on_program m.done_on_program;
}

-- a restore covers every cell of the SP, Tries too
abbrev pub locking_tries : List PinRow → List PinRow
locking_tries l = set R.no_tries 0 (R.pin_row_at l 0)

unfoldable pub change : Cells → Change → Cells
change c C.Nothing = c
change c (C.PutPin r p n) = R.with_tries c r 0
change c (C.PutEnabled r on) = R.with_tables c (R.with_enabled c.tables r on)
change c (C.PutRange k e) = R.with_tables c (R.with_rows c.tables (edited c.tables.rows k e))
change c (C.PutMbr e) = R.with_tables c (R.with_mbr c.tables (edited_mbr c.tables.mbr e))
change c (C.PutResettable on) = R.with_tables c (R.with_resettable c.tables on)
change c C.Activate = R.with_tables c (R.with_active c.tables true)
change c C.RevertLocking = R.with_pins (R.with_tables c (R.restored_locking c.tables)) (locking_tries c.pins)
change c C.RevertAdmin = R.with_session (R.with_pins (R.with_tables c R.factory_tables) R.no_tries) R.no_session
change c C.RevertSp = R.with_session (R.with_pins (R.with_tables c (R.restored_locking c.tables)) (locking_tries c.pins)) R.no_session

unfoldable pub apply : Cells → Decision → Cells
apply c (D.Refuse k) = c
apply c (D.NotStarted k) = c
apply c (D.Missed r) = missed c r
apply c (D.Started locking hsn w) = R.with_next (R.with_session (cleared c w) (started_session c locking hsn w)) (next_tsn c.next)
apply c D.Denied = c
apply c (D.Mistaken r) = missed c r
apply c (D.Proved w) = R.with_session (cleared c w) (proved_session c.session w)
apply c (D.Told o first last) = c
apply c (D.Done x) = change c x
apply c D.Began = R.with_undo c (record { live = true; was = c.tables })
apply c D.BeganAlready = c
apply c D.Committed = closed c c.tables
apply c D.Abandoned = closed c c.undo.was
apply c D.NoneOpen = c
apply c D.Ended = ended c
apply c D.Broke = ended c

-- "if Locking is active, sets columns 7 and 8 of every row and clears Done"
abbrev pub relocked : Tables → Tables
relocked t = record {
  active = t.active;
  rows = reset_rows t.active t.rows;
  mbr = reset_mbr t.active t.mbr;
  enabled = t.enabled;
  resettable = t.resettable;
}

-- TPER_RESET, where enabled; a power cycle does the same, and starts Tries and TSNs anew
abbrev pub tper_reset : Cells → Cells
tper_reset c = R.with_tables (ended c) (relocked (settled_tables c))

abbrev pub power_cycle : Cells → Cells
power_cycle c = R.with_next (R.with_pins (tper_reset c) R.no_tries) (record { 0 = 1 })
