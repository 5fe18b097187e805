-- What is decided of a request, in document 01's order of checks. No PIN is seen here: where one must be compared, that is said, with what follows either way.
use Rattle.std.specs.Prelude.{ℕ, Bool, true, false, not, ◌&&◌, ◌||◌, cond, List, leb, ltb, eqb, Option, Some, None, Result, Ok, Err}
use Rattle.ranges.specs.Decides.{imp, all}
use Rattle.ranges.specs.declared.Edit.{Edit}
use Rattle.ranges.specs.Set.{set_ok}
use Rattle.value.specs.Value.{Values}
use Rattle.value.specs.Read.{Out}
use Rattle.item.specs.declared.Slot.{Slot}
use Rattle.item.specs.declared.Slot.TheVariants as S
use Rattle.params.specs.declared.Columns.{Columns}
use Rattle.params.specs.declared.Offence.{Offence}
use Rattle.params.specs.declared.Block.{Block}
use Rattle.params.specs.declared.Start.{Start}
use Rattle.params.specs.declared.Proof.{Proof}
use Rattle.params.specs.declared.Resets.{Resets}
use Rattle.params.specs.declared.Resets.TheVariants as X
use Rattle.params.specs.Names.{given, nothing, uid_of}
use Rattle.params.specs.Columns.{column_count, column_at, free}
use Rattle.params.specs.Params.{no_columns, get_of, set_of, start_of, proof_of, resets_at}
use Rattle.model.specs.Types.{Tables, Cells, Object, Who, MbrEdit, Change, Decision, Judged}
use Rattle.model.specs.declared.Judged.TheVariants.{Settled, Compare}
use Rattle.model.specs.declared.Object.TheVariants as O
use Rattle.model.specs.declared.Who.TheVariants as W
use Rattle.model.specs.declared.Status.TheVariants as E
use Rattle.model.specs.declared.Change.TheVariants as C
use Rattle.model.specs.declared.Decision.TheVariants as D
use Rattle.model.specs.Record.{try_limit, pin_bytes, tries_at, enabled_at}
use Rattle.model.specs.Uids as U
use Rattle.model.specs.Access.{in_table, allowed, allowed_column, last_column}

-- go on where the test passes, and else be refused
unfoldable pub need : Bool → Decision → Judged → Judged
need true d j = j
need false d j = Settled d

-- ---- PINs: "class or disabled authority; Tries = 5; PIN differs"
-- the bytes that are given: "an omitted challenge is an empty one"
unfoldable pub place_of : Slot → ℕ
place_of S.Absent = 0
place_of (S.Int v) = 0
place_of (S.Bytes p n) = p
place_of (S.List p) = 0
place_of S.Named = 0

unfoldable pub count_of : Slot → ℕ
count_of S.Absent = 0
count_of (S.Int v) = 0
count_of (S.Bytes p n) = n
count_of (S.List p) = 0
count_of S.Named = 0

-- how the checks end, for a session start and for an Authenticate
pub record Ends : Type 0 where
  pub barred : Decision
  pub full : Decision
  pub wrong : ℕ → Decision
  pub right : Who → Decision

unfoldable pub judge_who : Cells → Ends → Who → Slot → Judged
judge_who c e W.Unknown x = Settled e.barred
judge_who c e W.Anybody x = Settled (e.right W.Anybody)
judge_who c e W.Class x = Settled e.barred
judge_who c e (W.Row r) x =
    need (enabled_at c.tables r) e.barred
    (need (ltb (tries_at c r) try_limit) e.full
    (Compare r (place_of x) (count_of x) (e.right (W.Row r)) (e.wrong r)))

unfoldable pub known : Who → Bool
known W.Unknown = false
known W.Anybody = true
known W.Class = true
known (W.Row r) = true

-- ---- StartSession
-- who signs: nobody where no authority is given
unfoldable pub signer : List ℕ → Bool → Slot → Who
signer s locking S.Absent = W.Anybody
signer s locking (S.Int v) = W.Unknown
signer s locking (S.Bytes p n) = U.who_in locking (uid_of s (S.Bytes p n))
signer s locking (S.List p) = W.Unknown
signer s locking S.Named = W.Unknown

-- "session open, 07; shape, unknown SP, Locking SP inactive, Write not 1, challenge without authority, unknown authority, challenge over 32 bytes, 0C"
unfoldable pub judge_start : Cells → List ℕ → Option Start → Judged
judge_start c s None = Settled (D.NotStarted E.InvalidParameter)
judge_start c s (Some t) =
    need (eqb t.sp U.admin_sp || eqb t.sp U.locking_sp) (D.NotStarted E.InvalidParameter)
    (need (imp (eqb t.sp U.locking_sp) c.tables.active) (D.NotStarted E.InvalidParameter)
    (need (eqb t.write 1) (D.NotStarted E.InvalidParameter)
    (need (imp (free t.authority) (free t.challenge)) (D.NotStarted E.InvalidParameter)
    (need (known (signer s (eqb t.sp U.locking_sp) t.authority)) (D.NotStarted E.InvalidParameter)
    (need (leb (count_of t.challenge) pin_bytes) (D.NotStarted E.InvalidParameter)
    (judge_who c
    (record {
      barred = D.NotStarted E.NotAuthorized;
      full = D.NotStarted E.LockedOut;
      wrong = λ r. D.Missed r;
      right = λ w. D.Started (eqb t.sp U.locking_sp) t.hsn w;
    })
    (signer s (eqb t.sp U.locking_sp) t.authority) t.challenge))))))

-- "Any other call on 0, 0: status 01"
unfoldable pub judge_manager : Cells → List ℕ → ℕ → ℕ → Out Values → Judged
judge_manager c s object method vs =
    need (eqb object U.manager_uid && eqb method U.start_session) (D.Refuse E.NotAuthorized)
    (need (not c.session.live) (D.NotStarted E.NoSessions)
    (judge_start c s (given None (start_of s) vs)))

-- ---- Authenticate: "same order from the unknown authority on, but class, disabled and wrong answer SUCCESS with 0, right with 1"
unfoldable pub judge_proof : Cells → List ℕ → Option Proof → Judged
judge_proof c s None = Settled (D.Refuse E.InvalidParameter)
judge_proof c s (Some p) =
    need (known (U.who_in c.session.locking p.authority)) (D.Refuse E.InvalidParameter)
    (need (leb (count_of p.proof) pin_bytes) (D.Refuse E.InvalidParameter)
    (judge_who c
    (record { barred = D.Denied; full = D.Refuse E.LockedOut; wrong = λ r. D.Mistaken r; right = λ w. D.Proved w })
    (U.who_in c.session.locking p.authority) p.proof))

-- ---- Get: "either left out meaning first or last"
unfoldable pub bound_of : ℕ → Slot → ℕ
bound_of z S.Absent = z
bound_of z (S.Int v) = v
bound_of z (S.Bytes p n) = z
bound_of z (S.List p) = z
bound_of z S.Named = z

unfoldable pub judge_get : Object → Option Block → Judged
judge_get o None = Settled (D.Refuse E.InvalidParameter)
judge_get o (Some b) =
    need (leb (bound_of 0 b.start) (last_column o) && leb (bound_of (last_column o) b.end) (last_column o)) (D.Refuse E.InvalidParameter)
    (need (leb (bound_of 0 b.start) (bound_of (last_column o) b.end)) (D.Refuse E.InvalidParameter)
    (Settled (D.Told o (bound_of 0 b.start) (bound_of (last_column o) b.end))))

-- ---- Set: values and their types
unfoldable pub is_number : Slot → Bool
is_number S.Absent = true
is_number (S.Int v) = true
is_number (S.Bytes p n) = false
is_number (S.List p) = false
is_number S.Named = false

unfoldable pub number_in : Slot → Option ℕ
number_in S.Absent = None
number_in (S.Int v) = Some v
number_in (S.Bytes p n) = None
number_in (S.List p) = None
number_in S.Named = None

unfoldable pub is_flag : Slot → Bool
is_flag S.Absent = true
is_flag (S.Int v) = ltb v 2
is_flag (S.Bytes p n) = false
is_flag (S.List p) = false
is_flag S.Named = false

unfoldable pub flag_in : Slot → Option Bool
flag_in S.Absent = None
flag_in (S.Int v) = Some (eqb v 1)
flag_in (S.Bytes p n) = None
flag_in (S.List p) = None
flag_in S.Named = None

-- "LockOnReset and DoneOnReset hold {0} or {0, 3}"
unfoldable pub allowed_set : Option Resets → Bool
allowed_set None = false
allowed_set (Some x) = true

unfoldable pub with_program : Option Resets → Bool
with_program None = false
with_program (Some X.Power) = false
with_program (Some X.Program) = true

unfoldable pub is_resets : List ℕ → Slot → Bool
is_resets s S.Absent = true
is_resets s (S.Int v) = false
is_resets s (S.Bytes p n) = false
is_resets s (S.List p) = allowed_set (resets_at s p)
is_resets s S.Named = false

unfoldable pub resets_in : List ℕ → Slot → Option Bool
resets_in s S.Absent = None
resets_in s (S.Int v) = None
resets_in s (S.Bytes p n) = None
resets_in s (S.List p) = Some (with_program (resets_at s p))
resets_in s S.Named = None

-- "a stored one 0 to 32"
unfoldable pub is_pin : Slot → Bool
is_pin S.Absent = true
is_pin (S.Int v) = false
is_pin (S.Bytes p n) = leb n pin_bytes
is_pin (S.List p) = false
is_pin S.Named = false

unfoldable pub pin_change : ℕ → Slot → Change
pin_change r S.Absent = C.Nothing
pin_change r (S.Int v) = C.Nothing
pin_change r (S.Bytes p n) = C.PutPin r p n
pin_change r (S.List p) = C.Nothing
pin_change r S.Named = C.Nothing

unfoldable pub flag_change : (Bool → Change) → Option Bool → Change
flag_change f None = C.Nothing
flag_change f (Some on) = f on

abbrev pub edit_in : List ℕ → Columns → Edit
edit_in s t = record {
  start = number_in (column_at t 3);
  length = number_in (column_at t 4);
  read_enabled = flag_in (column_at t 5);
  write_enabled = flag_in (column_at t 6);
  read_locked = flag_in (column_at t 7);
  write_locked = flag_in (column_at t 8);
  lock_on_program = resets_in s (column_at t 9);
}

abbrev pub mbr_edit_in : List ℕ → Columns → MbrEdit
mbr_edit_in s t = record { enable = flag_in (column_at t 1); done = flag_in (column_at t 2); done_on_program = resets_in s (column_at t 3) }

-- the values are good for the object, "judged on the row as it would stand"
unfoldable pub values_ok : Cells → List ℕ → Columns → Object → Bool
values_ok c s t O.PinSid = is_pin (column_at t 3)
values_ok c s t O.PinMsid = true
values_ok c s t O.TperInfo = is_flag (column_at t 8)
values_ok c s t O.SpAdmin = true
values_ok c s t O.SpLocking = true
values_ok c s t O.ThisSp = true
values_ok c s t (O.Authority r) = is_flag (column_at t 5)
values_ok c s t (O.Pin r) = is_pin (column_at t 3)
values_ok c s t (O.Range k) =
    is_number (column_at t 3) && (is_number (column_at t 4)
    && (is_flag (column_at t 5) && (is_flag (column_at t 6) && (is_flag (column_at t 7) && (is_flag (column_at t 8)
    && (is_resets s (column_at t 9)
    && set_ok c.tables.rows k (edit_in s t) c.n))))))
values_ok c s t O.MbrControl = is_flag (column_at t 1) && (is_flag (column_at t 2) && is_resets s (column_at t 3))
values_ok c s t O.Nothing = true

unfoldable pub change_in : List ℕ → Columns → Object → Change
change_in s t O.PinSid = pin_change 0 (column_at t 3)
change_in s t O.PinMsid = C.Nothing
change_in s t O.TperInfo = flag_change (λ on. C.PutResettable on) (flag_in (column_at t 8))
change_in s t O.SpAdmin = C.Nothing
change_in s t O.SpLocking = C.Nothing
change_in s t O.ThisSp = C.Nothing
change_in s t (O.Authority r) = flag_change (λ on. C.PutEnabled r on) (flag_in (column_at t 5))
change_in s t (O.Pin r) = pin_change r (column_at t 3)
change_in s t (O.Range k) = C.PutRange k (edit_in s t)
change_in s t O.MbrControl = C.PutMbr (mbr_edit_in s t)
change_in s t O.Nothing = C.Nothing

-- a test at each column that is given
abbrev pub at_given : (ℕ → Bool) → Columns → Bool
at_given f t = all (λ k. imp (not (free (column_at t k))) (f k)) column_count

-- "parameter shape, repeated or unknown column (0C); a Set's columns not allowed (01); values, their types too (0C)"
unfoldable pub judge_set : Cells → List ℕ → Object → Result Columns Offence → Judged
judge_set c s o (Err e) = Settled (D.Refuse E.InvalidParameter)
judge_set c s o (Ok t) =
    need (at_given (λ k. leb k (last_column o)) t) (D.Refuse E.InvalidParameter)
    (need (at_given (allowed_column c.session o U.set_method) t) (D.Refuse E.NotAuthorized)
    (need (values_ok c s t o) (D.Refuse E.InvalidParameter)
    (Settled (D.Done (change_in s t o)))))

-- ---- Activate, Revert, RevertSP: no parameters; "then FAIL in a transaction"
unfoldable pub judge_bare : Cells → Object → ℕ → Bool → Change → Judged
judge_bare c o m bare x =
    need bare (D.Refuse E.InvalidParameter)
    (need (allowed c.session o m) (D.Refuse E.NotAuthorized)
    (need (not c.undo.live) (D.Refuse E.Fail)
    (Settled (D.Done x))))

unfoldable pub revert_of : Object → Change
revert_of O.PinSid = C.Nothing
revert_of O.PinMsid = C.Nothing
revert_of O.TperInfo = C.Nothing
revert_of O.SpAdmin = C.RevertAdmin
revert_of O.SpLocking = C.RevertLocking
revert_of O.ThisSp = C.Nothing
revert_of (O.Authority r) = C.Nothing
revert_of (O.Pin r) = C.Nothing
revert_of (O.Range k) = C.Nothing
revert_of O.MbrControl = C.Nothing
revert_of O.Nothing = C.Nothing

-- "Activate sets LifeCycle 9 ..; again, it does nothing"
unfoldable pub activate_on : Tables → Change
activate_on t = cond t.active C.Nothing C.Activate

-- ---- a method in the session: "Checks: row; .."
unfoldable pub judge_method : Cells → List ℕ → Object → ℕ → Out Values → Judged
judge_method c s o m vs =
    need (in_table c.session o m) (D.Refuse E.NotAuthorized)
    (cond (eqb m U.get_method) (judge_get o (given None get_of vs))
    (cond (eqb m U.set_method) (judge_set c s o (given no_columns set_of vs))
    (cond (eqb m U.authenticate_method) (judge_proof c s (given None (proof_of s) vs))
    (cond (eqb m U.activate_method) (judge_bare c o m (given false nothing vs) (activate_on c.tables))
    (cond (eqb m U.revert_method) (judge_bare c o m (given false nothing vs) (revert_of o))
    (judge_bare c o m (given false nothing vs) C.RevertSp))))))
