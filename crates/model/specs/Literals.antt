-- Every number of document 01, 002, 003 and 000 that the rules go by, in figures: UIDs, columns, statuses, and what leaves the factory.
use Rattle.std.specs.Prelude.{ℕ, ◌+◌, ◌≤◌, ◌<◌, ◌^◌, ◌≡◌, Bool, true, false, List, [], ◌∷◌, ◌≢◌, length, get_or}
use Rattle.tape.specs.Write.{enc_value}
use Rattle.ranges.specs.Row.{no_row}
use Rattle.model.specs.Types.{Card, Object, Who}
use Rattle.model.specs.declared.Object.TheVariants as O
use Rattle.model.specs.declared.Who.TheVariants as W
use Rattle.model.specs.declared.Status.TheVariants as E
use Rattle.model.specs.Record.{secret_at}
use Rattle.model.specs.Sound.{sound}
use Rattle.model.specs.Uids as U
use Rattle.model.specs.Uids.{object_in, who_in, method_of, uid_of}
use Rattle.model.specs.Access.{last_column}
use Rattle.model.specs.Answer.{status_number, cell}
use Rattle.model.specs.Step.{made}
use Rattle.model.specs.Laws.{Made}

-- ---- objects by their UIDs, in the Admin SP (false) and in the Locking SP (true)
pub data Names : Bool → ℕ → Object → Type 0 where
  this_sp : {locking : Bool} → Names locking 0x0000000000000001 O.ThisSp
  pin_sid : Names false 0x0000000b00000001 O.PinSid
  pin_msid : Names false 0x0000000b00008402 O.PinMsid
  tper_info : Names false 0x0000020100030001 O.TperInfo
  sp_admin : Names false 0x0000020500000001 O.SpAdmin
  sp_locking : Names false 0x0000020500000002 O.SpLocking
  admin : (k : ℕ) → 1 ≤ k → k ≤ 4 → Names true (0x0000000900010000 + k) (O.Authority k)
  user : (k : ℕ) → 1 ≤ k → k ≤ 8 → Names true (0x0000000900030000 + k) (O.Authority (4 + k))
  admin_pin : (k : ℕ) → 1 ≤ k → k ≤ 4 → Names true (0x0000000b00010000 + k) (O.Pin k)
  user_pin : (k : ℕ) → 1 ≤ k → k ≤ 8 → Names true (0x0000000b00030000 + k) (O.Pin (4 + k))
  global : Names true 0x0000080200000001 (O.Range 0)
  range : (k : ℕ) → 1 ≤ k → k ≤ 4 → Names true (0x0000080200030000 + k) (O.Range k)
  mbr_control : Names true 0x0000080300000001 O.MbrControl

-- these and no others
pub record ObjectsNamed : Type 0 where
  pub named : (locking : Bool) (u : ℕ) (o : Object) → Names locking u o → object_in locking u ≡ o
  pub others : (locking : Bool) (u : ℕ) → object_in locking u ≢ O.Nothing → Names locking u (object_in locking u)
  -- column 0 tells the UID by which the object was named
  pub back : (locking : Bool) (u : ℕ) (o : Object) → Names locking u o → uid_of o ≡ u

-- ---- authorities: "Anybody and the class Admins in both SPs; SID in Admin; the class Users, Admin1-4 and User1-8 in Locking"
pub data Knows : Bool → ℕ → Who → Type 0 where
  anybody : {locking : Bool} → Knows locking 0x0000000900000001 W.Anybody
  admins : {locking : Bool} → Knows locking 0x0000000900000002 W.Class
  sid : Knows false 0x0000000900000006 (W.Row 0)
  users : Knows true 0x0000000900030000 W.Class
  admin : (k : ℕ) → 1 ≤ k → k ≤ 4 → Knows true (0x0000000900010000 + k) (W.Row k)
  user : (k : ℕ) → 1 ≤ k → k ≤ 8 → Knows true (0x0000000900030000 + k) (W.Row (4 + k))

pub record AuthoritiesKnown : Type 0 where
  pub known : (locking : Bool) (u : ℕ) (w : Who) → Knows locking u w → who_in locking u ≡ w
  pub others : (locking : Bool) (u : ℕ) → who_in locking u ≢ W.Unknown → Knows locking u (who_in locking u)

-- ---- methods: "00 00 00 06 and then"; 0 is none
pub record MethodsNamed : Type 0 where
  pub named : (m : ℕ) → m < 2 ^ 32 → method_of (0x0000000600000000 + m) ≡ m
  pub others : (u : ℕ) → method_of u ≢ 0 → u ≡ 0x0000000600000000 + method_of u
  pub small : (u : ℕ) → method_of u < 2 ^ 32

-- the session manager, its methods and the SPs that a session can be opened to
pub record ManagerNamed : Type 0 where
  pub manager : U.manager_uid ≡ 0x00000000000000ff
  pub start : U.start_session ≡ 0x000000000000ff02
  pub sync : U.sync_session ≡ 0x000000000000ff03
  pub close : U.close_session ≡ 0x000000000000ff06
  pub admin : U.admin_sp ≡ 0x0000020500000001
  pub locking : U.locking_sp ≡ 0x0000020500000002

-- ---- "Unknown means in neither 003's table nor these rows": the last column known; an object with no columns has 0
abbrev pub last_of : Object → ℕ
last_of O.PinSid = 7
last_of O.PinMsid = 7
last_of O.TperInfo = 8
last_of O.SpAdmin = 7
last_of O.SpLocking = 7
last_of O.ThisSp = 0
last_of (O.Authority r) = 18
last_of (O.Pin r) = 7
last_of (O.Range k) = 19
last_of O.MbrControl = 3
last_of O.Nothing = 0

pub record Statuses : Type 0 where
  pub success : status_number E.Success ≡ 0x00
  pub not_authorized : status_number E.NotAuthorized ≡ 0x01
  pub no_sessions : status_number E.NoSessions ≡ 0x07
  pub invalid_parameter : status_number E.InvalidParameter ≡ 0x0c
  pub locked_out : status_number E.LockedOut ≡ 0x12
  pub fail : status_number E.Fail ≡ 0x3f

-- ---- what leaves the factory
pub record FromFactory (n : ℕ) (msid : List ℕ) (k : Card) : Type 0 where
  pub size : k.cells.n ≡ n
  pub printed : k.cells.msid ≡ msid
  -- "Locking SP inactive (LifeCycle 8)"
  pub inactive : k.cells.tables.active ≡ false
  pub life_cycle : enc_value (cell k.cells O.SpLocking 6) ≡ 0x08 ∷ []
  -- "SID's PIN the MSID, other PINs empty"
  pub sid : ((secret_at k.vault.live 0).bytes ≡ msid) × ((secret_at k.vault.live 0).len ≡ 32)
  pub others : (r : ℕ) → 1 ≤ r → (secret_at k.vault.live r).len ≡ 0
  pub pins : (length k.vault.live ≡ 13) × (length k.cells.pins ≡ 13)
  -- "range numbers and flags 0, {0}"
  pub ranges : length k.cells.tables.rows ≡ 5
  pub each : (i : ℕ) → get_or k.cells.tables.rows i no_row ≡ record {
    start = 0;
    length = 0;
    read_enabled = false;
    write_enabled = false;
    read_locked = false;
    write_locked = false;
    lock_on_program = false;
  }
  pub mbr : k.cells.tables.mbr ≡ record { enable = false; done = false; done_on_program = false }
  -- "Admin1 alone enabled", and SID, who is always
  pub enabled : (r : ℕ) → r < 2 → get_or k.cells.tables.enabled r false ≡ true
  pub disabled : (r : ℕ) → 2 ≤ r → get_or k.cells.tables.enabled r false ≡ false
  -- "every Tries 0, column 8 of TPerInfo 0"
  pub tries : (r : ℕ) → (get_or k.cells.pins r (record { tries = 0 })).tries ≡ 0
  pub reset : k.cells.tables.resettable ≡ false
  -- no session, the first TSN is 1, no transaction
  pub session : k.cells.session.live ≡ false
  pub next : k.cells.next.0 ≡ 1
  pub transaction : k.cells.undo.live ≡ false

-- "262,144 ≤ N ≤ 2^40. The MSID PIN is 32 bytes": exactly these are made; for others the number is 1, and what stands for a record is not sound
pub record FactoryMade : Type 0 where
  pub accepted : (n : ℕ) (msid : List ℕ) → Made n msid → ((made n msid).number ≡ 0) × FromFactory n msid (made n msid).card
  pub refused : (n : ℕ) (msid : List ℕ) → (Made n msid → ⊥) → ((made n msid).number ≡ 1) × (sound (made n msid).card ≡ false)

pub record AsInFigures : Type 0 where
  pub objects : ObjectsNamed
  pub authorities : AuthoritiesKnown
  pub methods : MethodsNamed
  pub manager : ManagerNamed
  pub columns : (o : Object) → last_column o ≡ last_of o
  pub statuses : Statuses
  pub factory : FactoryMade
