-- The resets and the TSNs, cell by cell.
use Rattle.std.specs.Prelude.{ℕ, ◌+◌, ◌≤◌, ◌<◌, ◌≡◌, true, false, List, ◌≢◌, length, get_or}
use Rattle.ranges.specs.Row.{row_count, row_at}
use Rattle.model.specs.Types.{Row, Tables, Session, Secret, Card}
use Rattle.model.specs.Record as R
use Rattle.model.specs.Sound.{sound}
use Rattle.model.specs.Step.{power, reset, Event, powered, was_reset, next, run}
use Rattle.model.specs.Laws.{Made}
use Rattle.model.specs.Numbers.{Disabled}

-- ---- "sets columns 7 and 8 of every row and clears Done", and nothing else
-- columns 3 to 6 and 9 of a row
pub record SameOthers (x y : Row) : Type 0 where
  pub start : y.start ≡ x.start
  pub length : y.length ≡ x.length
  pub read_enabled : y.read_enabled ≡ x.read_enabled
  pub write_enabled : y.write_enabled ≡ x.write_enabled
  pub lock_on_reset : y.lock_on_program ≡ x.lock_on_program

-- the tables t, and the tables u after a reset
pub record Locked (t u : Tables) : Type 0 where
  pub active : u.active ≡ t.active
  pub enabled : u.enabled ≡ t.enabled
  pub resettable : u.resettable ≡ t.resettable
  pub many : length u.rows ≡ length t.rows
  pub others : (i : ℕ) → i < length t.rows → SameOthers (row_at t.rows i) (row_at u.rows i)
  pub locked : t.active ≡ true → (i : ℕ) → i < length t.rows → ((row_at u.rows i).read_locked ≡ true) × ((row_at u.rows i).write_locked ≡ true)
  pub mbr : (u.mbr.enable ≡ t.mbr.enable) × (u.mbr.done_on_program ≡ t.mbr.done_on_program)
  pub done : t.active ≡ true → u.mbr.done ≡ false
  -- "if Locking is active"
  pub inactive : t.active ≡ false → u ≡ t

-- no session, in any of its cells
pub record NoSession (s : Session) : Type 0 where
  pub live : s.live ≡ false
  pub locking : s.locking ≡ false
  pub numbers : (s.tsn.0 ≡ 0) × (s.hsn.0 ≡ 0)
  pub many : length s.proved ≡ R.pin_count
  pub nobody : (r : ℕ) → get_or s.proved r false ≡ false

-- an empty PIN, and nothing left of another
pub record NoPin (x : Secret) : Type 0 where
  pub len : x.len ≡ 0
  pub many : length x.bytes ≡ 32
  pub bytes : (i : ℕ) → get_or x.bytes i 0 ≡ 0

-- a row with nothing in it
pub record NoRow (x : Row) : Type 0 where
  pub numbers : (x.start ≡ 0) × (x.length ≡ 0)
  pub enabled : (x.read_enabled ≡ false) × (x.write_enabled ≡ false)
  pub locked : (x.read_locked ≡ false) × (x.write_locked ≡ false)
  pub lock_on_reset : x.lock_on_program ≡ false

-- no transaction, and nothing kept from one
pub record NoTransaction (k : Card) : Type 0 where
  pub live : k.cells.undo.live ≡ false
  pub flags : (k.cells.undo.was.active ≡ false) × (k.cells.undo.was.resettable ≡ false)
  pub rows : (length k.cells.undo.was.rows ≡ row_count) × ((i : ℕ) → NoRow (row_at k.cells.undo.was.rows i))
  pub mbr : k.cells.undo.was.mbr ≡ record { enable = false; done = false; done_on_program = false }
  pub enabled : (length k.cells.undo.was.enabled ≡ R.pin_count) × ((r : ℕ) → get_or k.cells.undo.was.enabled r false ≡ false)
  pub pins : (length k.vault.kept ≡ R.pin_count) × ((r : ℕ) → r < R.pin_count → NoPin (R.secret_at k.vault.kept r))

-- what both resets do: k before, j after
pub record Restarted (k j : Card) : Type 0 where
  pub made : (j.cells.n ≡ k.cells.n) × (j.cells.msid ≡ k.cells.msid)
  pub session : NoSession j.cells.session
  pub transaction : NoTransaction j
  -- the tables and PINs are those from before the transaction
  pub abandoned : k.cells.undo.live ≡ true → Locked k.cells.undo.was j.cells.tables × (j.vault.live ≡ k.vault.kept)
  pub else : k.cells.undo.live ≡ false → Locked k.cells.tables j.cells.tables × (j.vault.live ≡ k.vault.live)

pub record PowerCycles (k : Card) : Type 0 where
  pub number : (power k).number ≡ 0
  pub restarts : Restarted k (next k powered)
  pub tries : (length (next k powered).cells.pins ≡ R.pin_count) × ((r : ℕ) → R.tries_at (next k powered).cells r ≡ 0)
  pub tsn : (next k powered).cells.next.0 ≡ 1

pub record TperResets (k : Card) : Type 0 where
  -- turned away exactly if column 8 is not set in the cells from before a transaction
  pub disabled : Disabled k → ((reset k).number ≡ 7) × (next k was_reset ≡ k)
  pub enabled : (Disabled k → ⊥) → ((reset k).number ≡ 0) × Restarted k (next k was_reset)
  pub tries : (next k was_reset).cells.pins ≡ k.cells.pins
  pub tsn : (next k was_reset).cells.next ≡ k.cells.next

-- ---- "TSNs run 1, 2, ..., FFFFFFFF, then 1; a refused start uses none"
abbrev pub NewSession : Card → Event → Type 0
NewSession k e = (k.cells.session.live ≡ false) × ((next k e).cells.session.live ≡ true)

pub record TsnsRun (k : Card) (e : Event) : Type 0 where
  pub opened : NewSession k e → (next k e).cells.session.tsn.0 ≡ k.cells.next.0
  pub one_more : NewSession k e → k.cells.next.0 < 0xffffffff → (next k e).cells.next.0 ≡ k.cells.next.0 + 1
  pub then_one : NewSession k e → 0xffffffff ≤ k.cells.next.0 → (next k e).cells.next.0 ≡ 1
  pub else : (NewSession k e → ⊥) → e ≢ powered → (next k e).cells.next ≡ k.cells.next
  -- a session keeps its numbers and its SP while it is open
  pub same : k.cells.session.live ≡ true → (next k e).cells.session.live ≡ true
      → ((next k e).cells.session.tsn ≡ k.cells.session.tsn) × ((next k e).cells.session.hsn ≡ k.cells.session.hsn)
      × ((next k e).cells.session.locking ≡ k.cells.session.locking)

pub record ResetsAsSaid : Type 0 where
  pub powers : (k : Card) → sound k ≡ true → PowerCycles k
  pub resets : (k : Card) → sound k ≡ true → TperResets k
  pub numbers : (k : Card) (e : Event) → sound k ≡ true → TsnsRun k e
  pub bounded : (n : ℕ) (msid : List ℕ) (es : List Event) → Made n msid
      → (1 ≤ (run (R.factory_card n msid) es).cells.next.0) × ((run (R.factory_card n msid) es).cells.next.0 ≤ 0xffffffff)
