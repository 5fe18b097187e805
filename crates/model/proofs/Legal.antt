-- What is known where a decision is taken: the one walk through all the checks. Laws over runs go by the decision, with this in hand.
use Prim.Native.Nat.{ℕ, ◌+◌, ◌≤◌, ◌<◌}
use mathlib.Core.Path.{◌≡◌, refl, sym}
use mathlib.Core.Bool.{Bool, true, false, true≢false}
use mathlib.Core.List.{List}
use native.Mathlib.Omega.{arith}
use Rattle.item.specs.declared.Slot.{Slot}
use Rattle.item.specs.declared.Slot.TheVariants as S
use Rattle.ranges.specs.Row.{row_count}
use Rattle.ranges.specs.Set.{set_ok}
use Rattle.model.specs.Types.{Tsn, Hsn, Cells, Vault, Object, Who, Change, Decision, Judged}
use Rattle.model.specs.declared.Object.TheVariants as O
use Rattle.model.specs.declared.Who.TheVariants as W
use Rattle.model.specs.declared.Change.TheVariants as C
use Rattle.model.specs.declared.Decision.TheVariants as D
use Rattle.model.specs.Record as R
use Rattle.model.specs.Uids as U
use Rattle.model.specs.Judge as J
use Rattle.model.specs.declared.Judged.TheVariants.{Settled, Compare}
use Rattle.model.specs.Vault.{matches, part, decided}
use Rattle.model.specs.Step.{Heard, turned, judged}
use Rattle.model.specs.Literals as N
use Rattle.model.specs.Literals.{Names, Knows}
use Rattle.model.proofs.Figures.{object-ind, who-ind}
use Rattle.model.proofs.Cases.{whichever}

-- ---- what is known of each decision
-- a PIN row of an authority that the SP knows: "SID in Admin; .. Admin1-4 and User1-8 in Locking"
pub record KnownRow (locking : Bool) (r : ℕ) : Type 0 where
  pub there : r < R.pin_count
  pub admin : locking ≡ false → r ≡ 0
  pub other : locking ≡ true → 1 ≤ r

pub data KnownWho (locking : Bool) : Who → Type 0 where
  unknown : KnownWho locking W.Unknown
  anybody : KnownWho locking W.Anybody
  class : KnownWho locking W.Class
  row : {r : ℕ} → KnownRow locking r → KnownWho locking (W.Row r)

abbrev pub LegalChange : Cells → Change → Type 0
LegalChange c C.Nothing = Unit {0}
LegalChange c (C.PutPin r p n) = (r < R.pin_count) × (n ≤ R.pin_bytes)
LegalChange c (C.PutEnabled r on) = (1 ≤ r) × (r < R.pin_count)
LegalChange c (C.PutRange k e) = set_ok c.tables.rows k e c.n ≡ true
LegalChange c (C.PutMbr e) = Unit {0}
LegalChange c (C.PutResettable on) = Unit {0}
LegalChange c C.Activate = c.undo.live ≡ false
LegalChange c C.RevertLocking = (c.undo.live ≡ false) × (c.session.locking ≡ false)
LegalChange c C.RevertAdmin = (c.undo.live ≡ false) × (c.session.locking ≡ false)
LegalChange c C.RevertSp = c.undo.live ≡ false

abbrev pub Legal : Cells → Decision → Type 0
Legal c (D.Refuse k) = Unit {0}
Legal c (D.NotStarted k) = Unit {0}
Legal c (D.Missed r) = (r < R.pin_count) × (R.tries_at c r < R.try_limit)
Legal c (D.Started locking hsn w) = (c.session.live ≡ false) × (locking ≡ true → c.tables.active ≡ true) × KnownWho locking w
Legal c D.Denied = Unit {0}
Legal c (D.Mistaken r) = (r < R.pin_count) × (R.tries_at c r < R.try_limit)
Legal c (D.Proved w) = (c.session.live ≡ true) × KnownWho c.session.locking w
Legal c (D.Told o first last) = Unit {0}
Legal c (D.Done x) = (c.session.live ≡ true) × LegalChange c x
Legal c D.Began = (c.session.live ≡ true) × (c.undo.live ≡ false)
Legal c D.BeganAlready = Unit {0}
Legal c D.Committed = c.undo.live ≡ true
Legal c D.Abandoned = c.undo.live ≡ true
Legal c D.NoneOpen = Unit {0}
Legal c D.Ended = c.session.live ≡ true
Legal c D.Broke = c.session.live ≡ true

-- of what is judged, whatever the vault answers
pub data Fair (c : Cells) : Judged → Type 0 where
  surely : {d : Decision} → Legal c d → Fair c (Settled d)
  either : {r p n : ℕ} {equal differs : Decision} → Legal c equal → Legal c differs → Fair c (Compare r p n equal differs)

pub data FairHeard (c : Cells) : Heard → Type 0 where
  away : {n : ℕ} → FairHeard c (turned n)
  taken : {tsn : Tsn} {hsn : Hsn} {s : List ℕ} {j : Judged} → Fair c j → FairHeard c (judged tsn hsn s j)

-- the vault answers one or the other
pub fair-decided : (c : Cells) (v : Vault) (s : List ℕ) {j : Judged} → Fair c j → Legal c (decided v s j)
unfolding decided
fair-decided c v s (surely f) = f
fair-decided c v s (either {r = r} {p = p} {n = n} f g) = whichever (Legal c) (matches v r (part s p n)) _ _ f g

-- ---- how the checks are walked
pub need-ind : (F : Judged → Type 0) (b : Bool) (d : Decision) (j : Judged) → F (Settled d) → (b ≡ true → F j) → F (J.need b d j)
unfolding J.need
need-ind F true d j x f = f refl
need-ind F false d j x f = x

-- ---- who and what a UID names
sid-row : KnownRow false 0
sid-row = record { there = omega arith; admin = λ _. refl; other = λ e. absurd (true≢false (sym e)) }

other_row : (r : ℕ) → 1 ≤ r → r < R.pin_count → KnownRow true r
other_row r l m = record { there = m; admin = λ e. absurd (true≢false e); other = λ _. l }

pub who-known : (locking : Bool) (u : ℕ) → KnownWho locking (U.who_in locking u)
who-known locking u = who-ind (KnownWho locking) u unknown locking is
  where
    is : {b : Bool} {v : ℕ} (w : Who) → Knows b v w → KnownWho b w
    is w N.anybody = anybody
    is w N.admins = class
    is w N.sid = row sid-row
    is w N.users = class
    is w (N.admin k l m) = row (other_row k l (omega arith))
    is w (N.user k l m) = row (other_row (4 + k) (omega arith) (omega arith))

pub signer-known : (s : List ℕ) (locking : Bool) (x : Slot) → KnownWho locking (J.signer s locking x)
unfolding J.signer
signer-known s locking S.Absent = anybody
signer-known s locking (S.Int v) = unknown
signer-known s locking (S.Bytes p n) = who-known locking _
signer-known s locking (S.List p) = unknown
signer-known s locking S.Named = unknown

-- an object of the SP
pub data Placed : Bool → Object → Type 0 where
  pin_sid : Placed false O.PinSid
  pin_msid : Placed false O.PinMsid
  tper_info : Placed false O.TperInfo
  sp_admin : Placed false O.SpAdmin
  sp_locking : Placed false O.SpLocking
  this_sp : {locking : Bool} → Placed locking O.ThisSp
  authority : {r : ℕ} → 1 ≤ r → r < R.pin_count → Placed true (O.Authority r)
  pin : {r : ℕ} → 1 ≤ r → r < R.pin_count → Placed true (O.Pin r)
  range : {k : ℕ} → k < row_count → Placed true (O.Range k)
  mbr_control : Placed true O.MbrControl
  nothing : {locking : Bool} → Placed locking O.Nothing

pub object-placed : (locking : Bool) (u : ℕ) → Placed locking (U.object_in locking u)
object-placed locking u = object-ind (Placed locking) u nothing locking is
  where
    is : {b : Bool} {v : ℕ} (o : Object) → Names b v o → Placed b o
    is o N.this_sp = this_sp
    is o N.pin_sid = pin_sid
    is o N.pin_msid = pin_msid
    is o N.tper_info = tper_info
    is o N.sp_admin = sp_admin
    is o N.sp_locking = sp_locking
    is o (N.admin k l m) = authority l (omega arith)
    is o (N.user k l m) = authority {r = 4 + k} (omega arith) (omega arith)
    is o (N.admin_pin k l m) = pin l (omega arith)
    is o (N.user_pin k l m) = pin {r = 4 + k} (omega arith) (omega arith)
    is o N.global = range {k = 0} (omega arith)
    is o (N.range k l m) = range {k = k} (omega arith)
    is o N.mbr_control = mbr_control
