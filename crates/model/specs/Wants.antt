-- What a call can be refused for, in document 01's words and order: one row of faults for each method, and one order of judging for all.
use Rattle.std.specs.Prelude.{ℕ, ◌<◌, ◌≡◌, Bool, true, false, List, [], ◌≢◌, ◌⊎◌, get_or, take, drop, eqb, Option, Some, None, Result, Ok, Err}
use Rattle.ranges.specs.Row.{no_row}
use Rattle.ranges.specs.Fit.{Fit}
use Rattle.value.specs.Value.{Values}
use Rattle.value.specs.Read.{Out}
use Rattle.item.specs.declared.Slot.{Slot}
use Rattle.item.specs.declared.Slot.TheVariants as S
use Rattle.params.specs.declared.Columns.{Columns}
use Rattle.params.specs.declared.Offence.{Offence}
use Rattle.params.specs.declared.Block.{Block}
use Rattle.params.specs.declared.Start.{Start}
use Rattle.params.specs.declared.Proof.{Proof}
use Rattle.params.specs.Names.{given, nothing, uid_of}
use Rattle.params.specs.Columns.{column_at}
use Rattle.params.specs.Params.{resets_at}
use Rattle.model.specs.Types.{Row, Cells, Secret, Card, Object, Who}
use Rattle.model.specs.declared.Object.TheVariants as O
use Rattle.model.specs.declared.Who.TheVariants as W
use Rattle.model.specs.Uids.{who_in}
use Rattle.model.specs.Literals.{last_of}
use Rattle.model.specs.Words.{MaySet, Has}
use Rattle.model.specs.Standing.{RowAs, OnlyAt}

-- ---- the order of judging
-- X where P is so; where it is not, what follows
abbrev pub When : Type 0 → Type 0 → Type 0 → Type 0
When P X rest = (P × X) ⊎ ((P → ⊥) × rest)

-- a fault that is there in any case
abbrev pub Always : Type 0
Always = Unit {0}

-- the faults of a call, in the order in which they are looked for: the pair is not in the table, a session is open, shape and parameters, who may not,
-- values, a transaction is open, Tries = 5, the PIN differs
pub record Faults : Type 1 where
  pub pair : Type 0
  pub busy : Type 0
  pub shape : Type 0
  pub who : Type 0
  pub values : Type 0
  pub transaction : Type 0
  pub tries : Type 0
  pub pin : Type 0

-- the first that applies decides: refused with a status, barred, the PIN wrong; and where none does the call is right
abbrev pub Ruled : Faults → (ℕ → Type 0) → Type 0 → Type 0 → Type 0 → Type 0
Ruled f refused barred wrong right =
    When f.pair (refused 0x01)
    (When f.busy (refused 0x07)
    (When f.shape (refused 0x0c)
    (When f.who barred
    (When f.values (refused 0x0c)
    (When f.transaction (refused 0x3f)
    (When f.tries (refused 0x12)
    (When f.pin wrong right)))))))

-- ---- authorities and PINs
abbrev pub Unheard : Who → Type 0
Unheard W.Unknown = Always
Unheard W.Anybody = ⊥
Unheard W.Class = ⊥
Unheard (W.Row r) = ⊥

-- "class or disabled authority"
abbrev pub Barred : Cells → Who → Type 0
Barred c W.Unknown = ⊥
Barred c W.Anybody = ⊥
Barred c W.Class = Always
Barred c (W.Row r) = get_or c.tables.enabled r false ≡ false

-- "Tries = 5"
abbrev pub Full : Cells → Who → Type 0
Full c W.Unknown = ⊥
Full c W.Anybody = ⊥
Full c W.Class = ⊥
Full c (W.Row r) = (get_or c.pins r (record { tries = 0 })).tries ≡ 5

-- the PIN of row r
abbrev pub pin_at : List Secret → ℕ → List ℕ
pin_at l r = take (get_or l r (record { bytes = []; len = 0 })).len (get_or l r (record { bytes = []; len = 0 })).bytes

-- "PIN differs"; "Anybody needs no PIN"
abbrev pub Differs : Card → List ℕ → Who → Type 0
Differs k p W.Unknown = ⊥
Differs k p W.Anybody = ⊥
Differs k p W.Class = ⊥
Differs k p (W.Row r) = pin_at k.vault.live r ≢ p

-- the bytes that are given: "an omitted challenge is an empty one"
abbrev pub bytes_in : List ℕ → Slot → List ℕ
bytes_in s S.Absent = []
bytes_in s (S.Int v) = []
bytes_in s (S.Bytes p n) = take n (drop p s)
bytes_in s (S.List p) = []
bytes_in s S.Named = []

-- "challenge over 32 bytes"
abbrev pub Over32 : Slot → Type 0
Over32 S.Absent = ⊥
Over32 (S.Int v) = ⊥
Over32 (S.Bytes p n) = 32 < n
Over32 (S.List p) = ⊥
Over32 S.Named = ⊥

-- ---- rows of faults
-- pair, busy, shape, who, values, transaction, tries, pin
abbrev pub row : Type 0 → Type 0 → Type 0 → Type 0 → Type 0 → Type 0 → Type 0 → Type 0 → Faults
row a b c d e f g h = record { pair = a; busy = b; shape = c; who = d; values = e; transaction = f; tries = g; pin = h }

-- of a method with a PIN: the authority, and the bytes that are given for it
abbrev pub pin_row : Card → Who → List ℕ → Type 0 → Type 0 → Type 0 → Faults
pin_row k w p pair busy shape = row pair busy shape (Barred k.cells w) ⊥ ⊥ (Full k.cells w) (Differs k p w)

-- "a pair of object and method not in it"
abbrev pub Lacks : Card → Object → ℕ → Type 0
Lacks k o m = Has k.cells.session o m → ⊥

-- ---- StartSession: "session open; shape, unknown SP, Locking SP inactive, Write not 1, challenge without authority, unknown authority, challenge over 32 bytes"
-- who signs: Anybody where no authority is given
abbrev pub signs : List ℕ → Bool → Slot → Who
signs s locking S.Absent = W.Anybody
signs s locking (S.Int v) = W.Unknown
signs s locking (S.Bytes p n) = who_in locking (uid_of s (S.Bytes p n))
signs s locking (S.List p) = W.Unknown
signs s locking S.Named = W.Unknown

-- the SPs are 00 00 02 05 00 00 00 01, Admin, and 02, Locking
abbrev pub start_shape : Card → List ℕ → ℕ → ℕ → Slot → Slot → Type 0
start_shape k s sp write challenge authority =
    ((sp ≢ 0x20500000001) × (sp ≢ 0x20500000002))
    ⊎ (((sp ≡ 0x20500000002) × (k.cells.tables.active ≡ false))
    ⊎ ((write ≢ 1)
    ⊎ (((authority ≡ S.Absent) × (challenge ≢ S.Absent))
    ⊎ (Unheard (signs s (eqb sp 0x20500000002) authority)
    ⊎ Over32 challenge))))

abbrev pub start_faults : Card → List ℕ → Option Start → Faults
start_faults k s None = row ⊥ (k.cells.session.live ≡ true) Always ⊥ ⊥ ⊥ ⊥ ⊥
start_faults k s (Some t) =
    pin_row k (signs s (eqb t.sp 0x20500000002) t.authority) (bytes_in s t.challenge) ⊥ (k.cells.session.live ≡ true)
    (start_shape k s t.sp t.write t.challenge t.authority)

-- ---- Authenticate: "same order from the unknown authority on"
abbrev pub proof_faults : Card → List ℕ → Object → Option Proof → Faults
proof_faults k s o None = row (Lacks k o 0x1c) ⊥ Always ⊥ ⊥ ⊥ ⊥ ⊥
proof_faults k s o (Some p) =
    let w = who_in k.cells.session.locking p.authority in
    pin_row k w (bytes_in s p.proof) (Lacks k o 0x1c) ⊥ (Unheard w ⊎ Over32 p.proof)

-- ---- Get: "either left out meaning first or last"
-- the column that is given, or z where it is left out
abbrev pub or : ℕ → Slot → ℕ
or z S.Absent = z
or z (S.Int v) = v
or z (S.Bytes p n) = z
or z (S.List p) = z
or z S.Named = z

-- "unknown column, start column above end column"
abbrev pub get_shape : Object → Option Block → Type 0
get_shape o None = Always
get_shape o (Some b) = (last_of o < or 0 b.start) ⊎ ((last_of o < or (last_of o) b.end) ⊎ (or (last_of o) b.end < or 0 b.start))

-- columns that are not allowed are no fault of a Get
abbrev pub get_faults : Card → Object → Option Block → Faults
get_faults k o x = row (Lacks k o 0x16) ⊥ (get_shape o x) ⊥ ⊥ ⊥ ⊥ ⊥

-- ---- Set: "values, their types too"
abbrev pub BadPin : Slot → Type 0
BadPin S.Absent = ⊥
BadPin (S.Int v) = Always
BadPin (S.Bytes p n) = 32 < n
BadPin (S.List p) = Always
BadPin S.Named = Always

-- start and length are integers
abbrev pub BadNumber : Slot → Type 0
BadNumber S.Absent = ⊥
BadNumber (S.Int v) = ⊥
BadNumber (S.Bytes p n) = Always
BadNumber (S.List p) = Always
BadNumber S.Named = Always

-- a flag is 0 or 1
abbrev pub BadFlag : Slot → Type 0
BadFlag S.Absent = ⊥
BadFlag (S.Int v) = (v ≢ 0) × (v ≢ 1)
BadFlag (S.Bytes p n) = Always
BadFlag (S.List p) = Always
BadFlag S.Named = Always

-- "LockOnReset and DoneOnReset hold {0} or {0, 3}"
abbrev pub BadResets : List ℕ → Slot → Type 0
BadResets s S.Absent = ⊥
BadResets s (S.Int v) = Always
BadResets s (S.Bytes p n) = Always
BadResets s (S.List p) = resets_at s p ≡ None
BadResets s S.Named = Always

-- "judged on the row as it would stand": two ranges would share a sector, or one would end past N
abbrev pub WouldNotFit : Cells → List ℕ → Columns → ℕ → Type 0
WouldNotFit c s t i = (rows : List Row) × OnlyAt no_row i (RowAs s t) c.tables.rows rows × (Fit rows c.n → ⊥)

-- by the object that is set
abbrev pub BadValues : Cells → List ℕ → Columns → Object → Type 0
BadValues c s t O.PinSid = BadPin (column_at t 3)
BadValues c s t O.PinMsid = ⊥
BadValues c s t O.TperInfo = BadFlag (column_at t 8)
BadValues c s t O.SpAdmin = ⊥
BadValues c s t O.SpLocking = ⊥
BadValues c s t O.ThisSp = ⊥
BadValues c s t (O.Authority r) = BadFlag (column_at t 5)
BadValues c s t (O.Pin r) = BadPin (column_at t 3)
BadValues c s t (O.Range k) =
    BadNumber (column_at t 3) ⊎ (BadNumber (column_at t 4)
    ⊎ (BadFlag (column_at t 5) ⊎ (BadFlag (column_at t 6) ⊎ (BadFlag (column_at t 7) ⊎ (BadFlag (column_at t 8)
    ⊎ (BadResets s (column_at t 9)
    ⊎ WouldNotFit c s t k))))))
BadValues c s t O.MbrControl = BadFlag (column_at t 1) ⊎ (BadFlag (column_at t 2) ⊎ BadResets s (column_at t 3))
BadValues c s t O.Nothing = ⊥

-- a column that is given, of which P is so
abbrev pub SomeGiven : Columns → (ℕ → Type 0) → Type 0
SomeGiven t P = (i : ℕ) × (i < 20) × (column_at t i ≢ S.Absent) × P i

-- "parameter shape, repeated or unknown column (0C); a Set's columns not allowed (01); values, their types too (0C)"
abbrev pub set_faults : Card → List ℕ → Object → Result Columns Offence → Faults
set_faults k s o (Err e) = row (Lacks k o 0x17) ⊥ Always ⊥ ⊥ ⊥ ⊥ ⊥
set_faults k s o (Ok t) =
    row (Lacks k o 0x17) ⊥ (SomeGiven t (λ i. last_of o < i)) (SomeGiven t (λ i. MaySet k.cells.session o i → ⊥)) (BadValues k.cells s t o) ⊥ ⊥ ⊥

-- ---- Activate, Revert and RevertSP: "take no parameters", "then FAIL in a transaction"; who may is SID, or Admins
abbrev pub bare_faults : Card → Object → ℕ → Out Values → Type 0 → Faults
bare_faults k o m vs May = row (Lacks k o m) ⊥ (given false nothing vs ≡ false) (May → ⊥) ⊥ (k.cells.undo.live ≡ true) ⊥ ⊥
