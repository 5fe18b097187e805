-- What the pieces spell: the bytes of a value, of a cell and of an answer.
use Prim.Native.Nat.{ℕ, ◌≤◌, ◌<◌}
use mathlib.Core.Path.{◌≡◌, refl, sym, ap, ◌∙◌}
use mathlib.Core.Bool.{Bool, true, false}
use mathlib.Core.List.{List, [], ◌∷◌, ◌++◌, append_assoc}
use native.Mathlib.Omega.{arith}
use lib.ListN.{length}
use borrow.Author.Tests.{ne_eqb}
use Rattle.std.specs.Int.{from_bool}
use Rattle.token.specs.Bytes.{be_of}
use Rattle.token.specs.Write.{enc_int, head_of, enc_bytes}
use Rattle.token.proofs.Writes.{be-length}
use Rattle.token.proofs.Forms.{enc-tiny, bytes-length, head-some}
use Rattle.value.specs.Plain.{Plain, list, Plains, none, more}
use Rattle.tape.specs.Write.{enc_atom, enc_value, enc_values}
use Rattle.model.specs.declared.Cells.{Cells}
use Rattle.model.specs.declared.Object.{Object}
use Rattle.model.specs.declared.Status.{Status}
use Rattle.model.specs.declared.Status.TheVariants as E
use Rattle.model.specs.Uids.{uid_of, manager_uid}
use Rattle.model.specs.Access.{has_column}
use Rattle.model.specs.Answer.{status_number, number, flag, uid, one, two, resets, result_of, manager_call, cell_past0, cell}
use Rattle.answer.specs.Pieces.{ending, calling, column}

-- ---- values
pub number_is : (v : ℕ) → enc_int v ≡ enc_value (number v)
unfolding enc_value enc_atom
number_is v = refl

pub tiny-is : (v : ℕ) → v < 64 → (v ∷ []) ≡ enc_value (number v)
tiny-is v h = sym (enc-tiny v h) ∙ number_is v

pub flag_is : (on : Bool) (x : ℕ) → x ≡ from_bool on → (x ∷ []) ≡ enc_value (flag on)
flag_is true x e = rw e (tiny-is 1 (omega arith))
flag_is false x e = rw e (tiny-is 0 (omega arith))

pub uid-is : (u : ℕ) → (0xa8 ∷ be_of 8 u) ≡ enc_atom (uid u)
unfolding enc_atom enc_bytes head_of
uid-is u = rw (be-length 8 u)

-- the MSID takes a head of two bytes at the most
pub msid-short : (bs : List ℕ) → length bs ≡ 32 → length (enc_bytes bs) ≤ 34
msid-short bs h = omega (arith, bytes-length bs, (head-some (length bs)).1 (omega arith))

pub resets-is : (program : Bool) → program ≡ true → (0xf0 ∷ 0 ∷ 3 ∷ 0xf1 ∷ []) ≡ enc_value (resets program)
unfolding enc_value enc_values enc_atom enc_int
resets-is program e = rw e

pub no-resets-is : (program : Bool) → program ≡ false → (0xf0 ∷ 0 ∷ 0xf1 ∷ []) ≡ enc_value (resets program)
unfolding enc_value enc_values enc_atom enc_int
no-resets-is program e = rw e

-- ---- cells
-- the column j of an object whose columns are f
pub at-column : (f : ℕ → Plain) (j k : ℕ) (bs : List ℕ) → bs ≡ enc_value (f j) → k ≡ j → bs ≡ enc_value (f k)
at-column f j k bs h e = rw e h

-- "column 0 is the row's UID", and the others go by the object
pub first_cell : (c : Cells) (o : Object) (k u : ℕ) → k ≡ 0 → u ≡ uid_of o → enc_atom (uid u) ≡ enc_value (cell c o k)
unfolding enc_value
first_cell c o k u e f = rw (e, f)

pub later-cell : (c : Cells) (o p : Object) (k : ℕ) (bs : List ℕ) → (k ≡ 0 → ⊥) → o ≡ p → bs ≡ enc_value (cell_past0 c p k) → bs ≡ enc_value (cell c o k)
later-cell c o p k bs h e f = rw (ne_eqb k 0 h, e) f

-- a column that may be told, and one that may not
pub told-column : (set : ℕ) (c : Cells) (o : Object) (k : ℕ) → has_column set k ≡ true → (0xf2 ∷ enc_int k) ++ enc_value (cell c o k) ++ (0xf3 ∷ []) ≡ column set c o k
unfolding enc_value enc_atom
told-column set c o k e = rw e (append_assoc (0xf2 ∷ enc_int k) (enc_value (cell c o k)) (0xf3 ∷ []))

pub hidden-column : (set : ℕ) (c : Cells) (o : Object) (k : ℕ) → has_column set k ≡ false → [] ≡ column set c o k
hidden-column set c o k e = rw e

-- ---- answers
-- "F0 status 00 00 F1": each status is a tiny integer
status-is : (k : Status) → (0xf0 ∷ status_number k ∷ 0 ∷ 0 ∷ 0xf1 ∷ []) ≡ enc_value (list (more (number (status_number k)) (two 0 0)))
unfolding enc_value enc_values enc_atom enc_int status_number
status-is E.Success = refl
status-is E.NotAuthorized = refl
status-is E.NoSessions = refl
status-is E.InvalidParameter = refl
status-is E.LockedOut = refl
status-is E.Fail = refl

-- a result list of the values l, whose bytes are bs
pub result-is : (l : Plains) (bs : List ℕ) (k : Status) → bs ++ (0xf1 ∷ []) ≡ enc_values l → (0xf0 ∷ bs) ++ ending k ≡ result_of l k
unfolding enc_value
result-is l bs k e = rw (← e, ← status-is k) (sym (append_assoc (0xf0 ∷ bs) (0xf1 ∷ []) _))

pub call-is : (m : ℕ) (l : Plains) (bs : List ℕ) (k : Status) → bs ++ (0xf1 ∷ []) ≡ enc_values l → calling m ++ (bs ++ ending k) ≡ manager_call m l k
call-is m l bs k e = rw (← result-is l bs k e) (simp append_assoc)

-- a call's front, piece by piece
pub calling-is : (m : ℕ) → (0xf8 ∷ enc_atom (uid manager_uid)) ++ enc_atom (uid m) ++ (0xf0 ∷ []) ≡ calling m
calling-is m = append_assoc (0xf8 ∷ enc_atom (uid manager_uid)) (enc_atom (uid m)) (0xf0 ∷ [])

pub none_is : (0xf1 ∷ []) ≡ enc_values none
unfolding enc_values
none_is = refl

pub one-is : (v : Plain) → enc_value v ++ (0xf1 ∷ []) ≡ enc_values (one v)
unfolding enc_values
one-is v = refl

pub two_is : (m a b : ℕ) → calling m ++ enc_int a ++ enc_int b ++ ending E.Success ≡ manager_call m (two a b) E.Success
unfolding enc_values enc_value enc_atom
two_is m a b =
    append_assoc (calling m ++ enc_int a) (enc_int b) (ending E.Success)
    ∙ append_assoc (calling m) (enc_int a) (enc_int b ++ ending E.Success)
    ∙ ap (λ (l : List ℕ). calling m ++ l) (sym (append_assoc (enc_int a) (enc_int b) (ending E.Success)))
    ∙ call-is m (two a b) (enc_int a ++ enc_int b) E.Success (append_assoc (enc_int a) (enc_int b) (0xf1 ∷ []))
