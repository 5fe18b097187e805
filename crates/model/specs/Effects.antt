-- What each call does to the record, cell by cell, and what a Get tells.
use Rattle.std.specs.Prelude.{ℕ, zero, suc, ◌+◌, ◌-◌, ◌<◌, ◌≡◌, Bool, true, false, List, [], ◌∷◌, ◌++◌, ◌⊎◌, get_or, take, drop, replicate}
use Rattle.token.specs.Bytes.{be_of}
use Rattle.value.specs.Plain.{Plain, Plains, int, bytes, atom, list, named, none, more}
use Rattle.value.specs.Read.{values_at}
use Rattle.tape.specs.Write.{enc_value}
use Rattle.packet.specs.Envelope.{packet_of}
use Rattle.payload.specs.declared.Payload.TheVariants as P
use Rattle.ranges.specs.Row.{no_row}
use Rattle.item.specs.declared.Slot.{Slot}
use Rattle.item.specs.declared.Slot.TheVariants as S
use Rattle.params.specs.declared.Columns.{Columns}
use Rattle.params.specs.Columns.{column_at}
use Rattle.model.specs.Types.{Tsn, Hsn, Row, Mbr, Tables, PinRow, Session, Secret, Card, Object, Who}
use Rattle.model.specs.declared.Object.TheVariants as O
use Rattle.model.specs.declared.Who.TheVariants as W
use Rattle.model.specs.Uids.{object_in}
use Rattle.model.specs.Words.{MayGet}
use Rattle.model.specs.Step.{command}
use Rattle.model.specs.Standing.{FlagAs, ResetsAs, RowAs, OnlyAt}
use Rattle.model.specs.Wants.{When, pin_at}
use Rattle.model.specs.Calls.{Opening, OnManager, Ways, OnObject}
use Rattle.model.specs.Sent.{Comes, InSession}
use Rattle.model.specs.Statuses.{closing}

-- ---- the record k after a call to j: what is said of the cells that a call can change; the others are as they were
pub record After (j : Card) (T : Tables → Type 0) (P : List PinRow → Type 0) (S : Session → Type 0) (X : Tsn → Type 0) (L : List Secret → Type 0) (k : Card)
    : Type 0 where
  pub tables : T k.cells.tables
  pub pins : P k.cells.pins
  pub session : S k.cells.session
  pub next : X k.cells.next
  pub live : L k.vault.live
  pub kept : k.vault.kept ≡ j.vault.kept
  pub undo : k.cells.undo ≡ j.cells.undo
  pub made : (k.cells.n ≡ j.cells.n) × (k.cells.msid ≡ j.cells.msid)

-- this, and so unchanged where x is the cell before
abbrev pub Is : {A : Type 0} → A → A → Type 0
Is x y = y ≡ x

-- the tables, field by field
pub record TablesAs (A : Bool → Type 0) (R : List Row → Type 0) (M : Mbr → Type 0) (E : List Bool → Type 0) (Z : Bool → Type 0) (u : Tables) : Type 0 where
  pub active : A u.active
  pub rows : R u.rows
  pub mbr : M u.mbr
  pub enabled : E u.enabled
  pub resettable : Z u.resettable

-- only tables change
abbrev pub InTables : Card → (Tables → Type 0) → Card → Type 0
InTables j T k = After j T (Is j.cells.pins) (Is j.cells.session) (Is j.cells.next) (Is j.vault.live) k

-- ---- PINs
abbrev pub TriesAt : ℕ → (ℕ → ℕ → Type 0) → List PinRow → List PinRow → Type 0
TriesAt r P l m = OnlyAt (record { tries = 0 }) r (λ x y. P x.tries y.tries) l m

-- "PIN differs, Tries + 1"
abbrev pub Missed : Card → Who → Card → Type 0
Missed j W.Unknown k = ⊥
Missed j W.Anybody k = ⊥
Missed j W.Class k = ⊥
Missed j (W.Row r) k =
    After j (Is j.cells.tables) (TriesAt r (λ x y. y ≡ x + 1) j.cells.pins) (Is j.cells.session) (Is j.cells.next) (Is j.vault.live) k

-- "Equal: Tries 0 and the authority is proved"
abbrev pub Cleared : Who → List PinRow → List PinRow → Type 0
Cleared W.Unknown l m = m ≡ l
Cleared W.Anybody l m = m ≡ l
Cleared W.Class l m = m ≡ l
Cleared (W.Row r) l m = TriesAt r (λ x y. y ≡ 0) l m

-- the authority is proved, and the others are as they were
abbrev pub Proves : Who → List Bool → List Bool → Type 0
Proves W.Unknown l m = m ≡ l
Proves W.Anybody l m = m ≡ l
Proves W.Class l m = m ≡ l
Proves (W.Row r) l m = OnlyAt false r (λ x y. y ≡ true) l m

-- an open session
pub record SessionAs (locking : Bool) (tsn : Tsn) (hsn : Hsn) (R : List Bool → Type 0) (x : Session) : Type 0 where
  pub live : x.live ≡ true
  pub to : x.locking ≡ locking
  pub by_tsn : x.tsn ≡ tsn
  pub by_hsn : x.hsn ≡ hsn
  pub proved : R x.proved

-- "TSNs run 1, 2, ..., FFFFFFFF, then 1"
abbrev pub NextTsn : Tsn → Tsn → Type 0
NextTsn x y = When (x.0 < 0xffffffff) (y.0 ≡ x.0 + 1) (y.0 ≡ 1)

-- a session of the next TSN, in which nobody but the signer is proved
abbrev pub Started : Card → Bool → Hsn → Who → Card → Type 0
Started j locking hsn w k =
    After j (Is j.cells.tables) (Cleared w j.cells.pins) (SessionAs locking j.cells.next hsn (Proves w (replicate 13 false)))
    (NextTsn j.cells.next) (Is j.vault.live) k

-- in the session that is open
abbrev pub Proved : Card → Who → Card → Type 0
Proved j w k =
    After j (Is j.cells.tables) (Cleared w j.cells.pins)
    (SessionAs j.cells.session.locking j.cells.session.tsn j.cells.session.hsn (Proves w j.cells.session.proved))
    (Is j.cells.next) (Is j.vault.live) k

-- ---- Set: the columns that are given, and no other
abbrev pub no_secret : Secret
no_secret = record { bytes = []; len = 0 }

-- "Setting a PIN by Set sets its Tries to 0"
abbrev pub PinSet : Card → List ℕ → ℕ → Slot → Card → Type 0
PinSet j s r S.Absent k = k ≡ j
PinSet j s r (S.Int v) k = k ≡ j
PinSet j s r (S.Bytes p n) k =
    After j (Is j.cells.tables) (TriesAt r (λ x y. y ≡ 0) j.cells.pins) (Is j.cells.session) (Is j.cells.next)
    (OnlyAt no_secret r (λ x y. take y.len y.bytes ≡ take n (drop p s)) j.vault.live) k
PinSet j s r (S.List p) k = k ≡ j
PinSet j s r S.Named k = k ≡ j

-- MBRControl: 1 Enable, 2 Done, 3 DoneOnReset
pub record MbrAs (s : List ℕ) (t : Columns) (old x : Mbr) : Type 0 where
  pub enable : FlagAs (column_at t 1) old.enable x.enable
  pub done : FlagAs (column_at t 2) old.done x.done
  pub done_on_program : ResetsAs s (column_at t 3) old.done_on_program x.done_on_program

-- by the object that is set
abbrev pub SetTo : Card → List ℕ → Columns → Object → Card → Type 0
SetTo j s t O.PinSid k = PinSet j s 0 (column_at t 3) k
SetTo j s t O.PinMsid k = k ≡ j
SetTo j s t O.TperInfo k =
    let u = j.cells.tables in
    InTables j (TablesAs (Is u.active) (Is u.rows) (Is u.mbr) (Is u.enabled) (FlagAs (column_at t 8) u.resettable)) k
SetTo j s t O.SpAdmin k = k ≡ j
SetTo j s t O.SpLocking k = k ≡ j
SetTo j s t O.ThisSp k = k ≡ j
SetTo j s t (O.Authority r) k =
    let u = j.cells.tables in
    InTables j (TablesAs (Is u.active) (Is u.rows) (Is u.mbr) (OnlyAt false r (FlagAs (column_at t 5)) u.enabled) (Is u.resettable)) k
SetTo j s t (O.Pin r) k = PinSet j s r (column_at t 3) k
SetTo j s t (O.Range i) k =
    let u = j.cells.tables in
    InTables j (TablesAs (Is u.active) (OnlyAt no_row i (RowAs s t) u.rows) (Is u.mbr) (Is u.enabled) (Is u.resettable)) k
SetTo j s t O.MbrControl k =
    let u = j.cells.tables in
    InTables j (TablesAs (Is u.active) (Is u.rows) (MbrAs s t u.mbr) (Is u.enabled) (Is u.resettable)) k
SetTo j s t O.Nothing k = k ≡ j

-- ---- "Activate sets LifeCycle 9 and copies SID's PIN to Admin1; again, it does nothing"
abbrev pub Activated : Card → Card → Type 0
Activated j k =
    let u = j.cells.tables in
    When (u.active ≡ true) (k ≡ j)
    (After j (TablesAs (Is true) (Is u.rows) (Is u.mbr) (Is u.enabled) (Is u.resettable)) (Is j.cells.pins) (Is j.cells.session)
    (Is j.cells.next) (OnlyAt no_secret 1 (λ x y. take y.len y.bytes ≡ pin_at j.vault.live 0) j.vault.live) k)

-- ---- a restore: "Locking SP inactive, range numbers and flags 0, {0}, Admin1 alone enabled, other PINs empty, every Tries 0, column 8 of TPerInfo 0"
abbrev pub blank_row : Row
blank_row = record {
  start = 0;
  length = 0;
  read_enabled = false;
  write_enabled = false;
  read_locked = false;
  write_locked = false;
  lock_on_program = false;
}

-- the tables of the Locking SP restored, and column 8 of TPerInfo
abbrev pub Restored : (Bool → Type 0) → Tables → Type 0
Restored Z u =
    TablesAs (Is false) (Is (replicate 5 blank_row)) (Is (record { enable = false; done = false; done_on_program = false }))
    (Is (true ∷ true ∷ replicate 11 false)) Z u

-- no wrong PIN was given
abbrev pub no_tries : PinRow
no_tries = record { tries = 0 }

-- a PIN of no bytes
abbrev pub empty_pin : Secret
empty_pin = record { bytes = replicate 32 0; len = 0 }

-- no session
abbrev pub closed : Session
closed = record { live = false; locking = false; tsn = record { 0 = 0 }; hsn = record { 0 = 0 }; proved = replicate 13 false }

-- "Locking Revert and RevertSP restore the Locking SP", SID's row apart; the session goes on, or closes
abbrev pub LockingRestored : Card → Session → Card → Type 0
LockingRestored j x k =
    After j (Restored (Is j.cells.tables.resettable)) (Is (get_or j.cells.pins 0 no_tries ∷ replicate 12 no_tries)) (Is x) (Is j.cells.next)
    (Is (get_or j.vault.live 0 no_secret ∷ replicate 12 empty_pin)) k

-- "Admin Revert both SPs": "SID's PIN the MSID"
abbrev pub BothRestored : Card → Card → Type 0
BothRestored j k =
    After j (Restored (Is false)) (Is (replicate 13 no_tries)) (Is closed) (Is j.cells.next)
    (Is (record { bytes = j.cells.msid; len = 32 } ∷ replicate 12 empty_pin)) k

-- by the SP that is reverted
abbrev pub Reverted : Card → Object → Card → Type 0
Reverted j O.PinSid k = k ≡ j
Reverted j O.PinMsid k = k ≡ j
Reverted j O.TperInfo k = k ≡ j
Reverted j O.SpAdmin k = BothRestored j k
Reverted j O.SpLocking k = LockingRestored j j.cells.session k
Reverted j O.ThisSp k = k ≡ j
Reverted j (O.Authority r) k = k ≡ j
Reverted j (O.Pin r) k = k ≡ j
Reverted j (O.Range i) k = k ≡ j
Reverted j O.MbrControl k = k ≡ j
Reverted j O.Nothing k = k ≡ j

-- ---- what a Get tells: the cells of each object by their columns, column 0 the UID
pub record Cell : Type 0 where
  pub column : ℕ
  pub value : Plain

-- column c with value v
abbrev pub at : ℕ → Plain → Cell
at c v = record { column = c; value = v }

-- an integer
abbrev pub number : ℕ → Plain
number v = atom (int v)

-- a flag
abbrev pub bit : Bool → Plain
bit true = number 1
bit false = number 0

-- "{0} or {0, 3}, written ascending"
abbrev pub resets : Bool → Plain
resets true = list (more (number 0) (more (number 3) none))
resets false = list (more (number 0) none)

-- "LifeCycle 8", or 9 where it is active
abbrev pub life_cycle : Bool → Plain
life_cycle true = number 9
life_cycle false = number 8

-- "Every TryLimit is 5, every Persistence False"
abbrev pub pin_cells : Card → ℕ → List Cell
pin_cells j r = at 5 (number 5) ∷ at 6 (number (get_or j.cells.pins r no_tries).tries) ∷ at 7 (number 0) ∷ []

-- "3 start, 4 length, 5 and 6 read and write lock enabled, 7 and 8 locked, 9 LockOnReset"
abbrev pub row_cells : Row → List Cell
row_cells x =
    at 3 (number x.start) ∷ at 4 (number x.length) ∷ at 5 (bit x.read_enabled) ∷ at 6 (bit x.write_enabled)
    ∷ at 7 (bit x.read_locked) ∷ at 8 (bit x.write_locked) ∷ at 9 (resets x.lock_on_program) ∷ []

-- Enable, Done, DoneOnReset
abbrev pub mbr_cells : Mbr → List Cell
mbr_cells m = at 1 (bit m.enable) ∷ at 2 (bit m.done) ∷ at 3 (resets m.done_on_program) ∷ []

-- the cells of an object that any host can be told, but for its UID
abbrev pub cells_past0 : Card → Object → List Cell
cells_past0 j O.PinSid = pin_cells j 0
cells_past0 j O.PinMsid = at 3 (atom (bytes j.cells.msid)) ∷ []
cells_past0 j O.TperInfo = at 8 (bit j.cells.tables.resettable) ∷ []
cells_past0 j O.SpAdmin = at 6 (number 9) ∷ []
cells_past0 j O.SpLocking = at 6 (life_cycle j.cells.tables.active) ∷ []
cells_past0 j O.ThisSp = []
cells_past0 j (O.Authority r) = at 5 (bit (get_or j.cells.tables.enabled r false)) ∷ []
cells_past0 j (O.Pin r) = pin_cells j r
cells_past0 j (O.Range i) = row_cells (get_or j.cells.tables.rows i no_row)
cells_past0 j O.MbrControl = mbr_cells j.cells.tables.mbr
cells_past0 j O.Nothing = []

-- column c of a table of cells is v
abbrev pub Entry : ℕ → Plain → List Cell → Type 0
Entry c v [] = ⊥
Entry c v (x ∷ l) = ((c ≡ x.column) × (v ≡ x.value)) ⊎ Entry c v l

-- "leaves out columns not allowed and lists the rest ascending": n columns from c on, of the object that u names
abbrev pub Listed : Card → ℕ → Object → ℕ → ℕ → Plains → Type 0
Listed j u o zero c l = l ≡ none
Listed j u o (suc n) c l =
    When (MayGet j.cells.session o c)
    ((v : Plain) × (m : Plains) × Entry c v (at 0 (atom (bytes (be_of 8 u))) ∷ cells_past0 j o) × Listed j u o n (c + 1) m × (l ≡ more (named (int c) v) m))
    (Listed j u o n (c + 1) l)

-- ---- the effect of each end of a call on the record j, of which k and the bytes of the answer come
abbrev pub opening_effects : Card → Card → Opening
opening_effects j k = record { plain = k ≡ j; refused = λ st. k ≡ j; wrong = λ w. Missed j w k; started = λ locking hsn w. Started j locking hsn w k }

-- in the session; u is the UID of the object o
abbrev pub effects : Card → List ℕ → ℕ → Object → Card → List ℕ → ℕ → ℕ → Ways
effects j s u o k answer tsn hsn = record {
  refused = λ st. k ≡ j;
  got = λ first last. (k ≡ j)
      × ((l : Plains) × Listed j u o (last + 1 - first) first l × (answer ≡ packet_of tsn hsn (0xf0 ∷ (enc_value (list l) ++ (0xf1 ∷ closing 0x00)))));
  put = λ t. SetTo j s t o k;
  denied = k ≡ j;
  wrong = λ w. Missed j w k;
  proved = λ w. Proved j w k;
  activated = Activated j k;
  reverted = Reverted j o k;
  reverted_sp = LockingRestored j closed k;
}

-- the record after each call
pub record EffectsAsSaid : Type 0 where
  pub manager : (k : Card) (room : ℕ) (s : List ℕ) (start len object method params : ℕ) → Comes k room s 0 0 start len (P.Call object method params)
      → OnManager (opening_effects k (command k room s).card) k (take (start + len) s) object method (values_at (take (start + len) s) 15 params)
  pub session : (k : Card) (room : ℕ) (s : List ℕ) (tsn hsn start len object method params : ℕ)
      → Comes k room s tsn hsn start len (P.Call object method params) → InSession k tsn hsn
      → OnObject (effects k (take (start + len) s) object (object_in k.cells.session.locking object) (command k room s).card (command k room s).bytes tsn hsn)
      k (take (start + len) s) (object_in k.cells.session.locking object) method (values_at (take (start + len) s) 15 params)
