-- The payload that answers a decision, of the cells before it.
use Rattle.std.specs.Prelude.{ℕ, zero, suc, ◌+◌, ◌-◌, Bool, false, cond, List, [], ◌∷◌, ◌++◌, eqb}
use Rattle.token.specs.Bytes.{be_of}
use Rattle.ranges.specs.Row.{row_at}
use Rattle.value.specs.Plain.{Atom, int, bytes, Plain, atom, list, named, Plains, none, more}
use Rattle.tape.specs.Write.{enc_value, enc_atom}
use Rattle.model.specs.Types.{Row, Mbr, Cells, Object, Status, Decision}
use Rattle.model.specs.declared.Object.TheVariants as O
use Rattle.model.specs.declared.Status.TheVariants as E
use Rattle.model.specs.declared.Decision.TheVariants as D
use Rattle.model.specs.Record as R
use Rattle.model.specs.Uids as U
use Rattle.model.specs.Access.{allowed_column}

-- "SUCCESS 00, NOT_AUTHORIZED 01, NO_SESSIONS_AVAILABLE 07, INVALID_PARAMETER 0C, AUTHORITY_LOCKED_OUT 12, FAIL 3F (hex)"
unfoldable pub status_number : Status → ℕ
status_number E.Success = 0x00
status_number E.NotAuthorized = 0x01
status_number E.NoSessions = 0x07
status_number E.InvalidParameter = 0x0c
status_number E.LockedOut = 0x12
status_number E.Fail = 0x3f

abbrev pub number : ℕ → Plain
number v = atom (int v)

abbrev pub flag : Bool → Plain
flag on = number (cond on 1 0)

abbrev pub uid : ℕ → Atom
uid u = bytes (be_of 8 u)

abbrev pub one : Plain → Plains
one v = more v none

-- "{0} or {0, 3}, written ascending"
abbrev pub resets : Bool → Plain
resets program = list (more (number 0) (cond program (one (number 3)) none))

-- "result list, F9, F0 status 00 00 F1"
abbrev pub result_of : Plains → Status → List ℕ
result_of l k = enc_value (list l) ++ (0xf9 ∷ enc_value (list (more (number (status_number k)) (more (number 0) (one (number 0))))))

-- a call by the session manager
abbrev pub manager_call : ℕ → Plains → Status → List ℕ
manager_call m l k = 0xf8 ∷ (enc_atom (uid U.manager_uid) ++ (enc_atom (uid m) ++ result_of l k))

abbrev pub two : ℕ → ℕ → Plains
two a b = more (number a) (one (number b))

-- ---- the cells of each object by their columns
-- "TryLimit is 5", Tries, "Persistence False"
abbrev pub pin_cell : Cells → ℕ → ℕ → Plain
pin_cell c r k = cond (eqb k 5) (number R.try_limit) (cond (eqb k 6) (number (R.tries_at c r)) (flag false))

abbrev pub range_cell : Row → ℕ → Plain
range_cell r k =
    cond (eqb k 3) (number r.start)
    (cond (eqb k 4) (number r.length)
    (cond (eqb k 5) (flag r.read_enabled)
    (cond (eqb k 6) (flag r.write_enabled)
    (cond (eqb k 7) (flag r.read_locked)
    (cond (eqb k 8) (flag r.write_locked)
    (resets r.lock_on_program))))))

abbrev pub mbr_cell : Mbr → ℕ → Plain
mbr_cell m k = cond (eqb k 1) (flag m.enable) (cond (eqb k 2) (flag m.done) (resets m.done_on_program))

unfoldable pub cell_past0 : Cells → Object → ℕ → Plain
cell_past0 c O.PinSid k = pin_cell c 0 k
cell_past0 c O.PinMsid k = atom (bytes c.msid)
cell_past0 c O.TperInfo k = flag c.tables.resettable
cell_past0 c O.SpAdmin k = number 9
cell_past0 c O.SpLocking k = number (cond c.tables.active 9 8)
cell_past0 c O.ThisSp k = number 0
cell_past0 c (O.Authority r) k = flag (R.enabled_at c.tables r)
cell_past0 c (O.Pin r) k = pin_cell c r k
cell_past0 c (O.Range i) k = range_cell (row_at c.tables.rows i) k
cell_past0 c O.MbrControl k = mbr_cell c.tables.mbr k
cell_past0 c O.Nothing k = number 0

-- column 0 is the row's UID
abbrev pub cell : Cells → Object → ℕ → Plain
cell c o k = cond (eqb k 0) (atom (uid (U.uid_of o))) (cell_past0 c o k)

-- "Get leaves out columns not allowed and lists the rest ascending": n columns from k on
unfoldable pub told : Cells → Object → ℕ → ℕ → Plains
told c o zero k = none
told c o (suc n) k =
    cond (allowed_column c.session o U.get_method k)
    (more (named (int k) (cell c o k)) (told c o n (k + 1)))
    (told c o n (k + 1))

unfoldable pub answer : Cells → Decision → List ℕ
answer c (D.Refuse k) = result_of none k
answer c (D.NotStarted k) = manager_call U.sync_session none k
answer c (D.Missed r) = manager_call U.sync_session none E.NotAuthorized
answer c (D.Started locking hsn w) = manager_call U.sync_session (two hsn.0 c.next.0) E.Success
answer c D.Denied = result_of (one (number 0)) E.Success
answer c (D.Mistaken r) = result_of (one (number 0)) E.Success
answer c (D.Proved w) = result_of (one (number 1)) E.Success
answer c (D.Told o first last) = result_of (one (list (told c o (last + 1 - first) first))) E.Success
answer c (D.Done x) = result_of none E.Success
answer c D.Began = 0xfb ∷ 0x00 ∷ []
answer c D.BeganAlready = 0xfb ∷ 0x01 ∷ []
answer c D.Committed = 0xfc ∷ 0x00 ∷ []
answer c D.Abandoned = 0xfc ∷ 0x00 ∷ []
answer c D.NoneOpen = 0xfc ∷ 0x01 ∷ []
answer c D.Ended = 0xfa ∷ []
answer c D.Broke = manager_call U.close_session (two c.session.hsn.0 c.session.tsn.0) E.Success
