-- "An answer never exceeds 2,048 bytes": whatever is decided its payload is far shorter, for no column past 19 is ever told.
use Rattle.std.proofs.lemmas.Bool.{and_parts, and_right}
use Prim.Native.Nat.{ℕ, zero, suc, ◌+◌, ◌-◌, ◌*◌, ◌^◌, ◌≤◌, ◌<◌}
use mathlib.Core.Path.{◌≡◌, refl, sym, ◌∙◌}
use mathlib.Core.Bool.{Bool, true, false, ◌&&◌, true≢false}
use mathlib.Core.List.{List, [], ◌∷◌, ◌++◌}
use mathlib.Core.Logic.{⊎_elim}
use native.Mathlib.Nat.{div-eq_of_lt, lt_of_lt_of_le, pow-le-pow_right}
use native.Mathlib.Omega.{arith}
use lib.ListN.{length, length-append}
use lib.Dec.{ltb, eqb, lit<, lit≤}
use borrow.Author.Tests.{ltb-true}
use Rattle.token.specs.Bytes.{be_of}
use Rattle.token.specs.Write.{enc_int, enc_bytes}
use Rattle.token.proofs.Laws.{lt-or-le}
use Rattle.token.proofs.Writes.{be-length, cond-all}
use Rattle.token.proofs.Forms.{sized, tiny-length, short-length, head-some, bytes-length}
use Rattle.value.specs.Plain.{int, bytes, Plain, atom, list, named, Plains, none, more}
use Rattle.tape.specs.Write.{enc_value, enc_values, enc_atom}
use Rattle.model.specs.Types.{Session, Cells, Object, Access, Status, Decision}
use Rattle.model.specs.declared.Object.TheVariants as O
use Rattle.model.specs.declared.Status.TheVariants as E
use Rattle.model.specs.declared.Decision.TheVariants as D
use Rattle.model.specs.Uids as U
use Rattle.model.specs.Access.{access_rows, some_row, is_for, kind_of, self_of, holds, has_column, allowed_column}
use Rattle.model.specs.Answer.{number, uid, one, two, resets, status_number, result_of, manager_call, cell_past0, cell, told, answer}
use Rattle.model.proofs.Cases.{whichever}

-- ---- no column past 19 is in a row of the access table
few : (m c : ℕ) → m < 2 ^ 20 → 20 ≤ c → has_column m c ≡ false
few m c h k = rw (div-eq_of_lt (lt_of_lt_of_le h (pow-le-pow_right {n = 2} (lit< tt) {i = 20} {j = c} k))) refl

-- each row has columns below 20 alone
abbrev below : List Access → Bool
below [] = true
below (a ∷ l) = ltb a.columns (2 ^ 20) && below l

no-row : (f g : Access → Bool) (c : ℕ) (l : List Access) → 20 ≤ c → below l ≡ true → some_row (λ a. f a && (g a && has_column a.columns c)) l ≡ false
unfolding some_row
no-row f g c [] h b = refl
no-row f g c (a ∷ l) h b =
    let (m, r) = and_parts (ltb a.columns (2 ^ 20)) (below l) b in
    rw (few a.columns c (ltb-true _ _ m) h, and_right (f a) _ (and_right (g a) _ refl)) (no-row f g c l h r)

all-below : below access_rows ≡ true
unfolding access_rows
all-below = refl

pub column-hidden : (s : Session) (o : Object) (m c : ℕ) → 20 ≤ c → allowed_column s o m c ≡ false
column-hidden s o m c h = no-row (is_for (kind_of s.locking o) m) (λ a. holds s (self_of o) a.who) c access_rows h all-below

-- so nothing is told from there on
pub told-stops : (c : Cells) (o : Object) (n k : ℕ) → 20 ≤ k → told c o n k ≡ none
unfolding told
told-stops c o zero k h = refl
told-stops c o (suc n) k h = rw (column-hidden c.session o U.get_method k h) (told-stops c o n (k + 1) (omega arith))

-- ---- atoms: a number of any size takes nine bytes at most, a UID nine, the MSID 34
pub int-short : (v : ℕ) → length (enc_int v) ≤ 9
int-short v =
    ⊎_elim (λ (h : v < 64). omega (arith, tiny-length v h)) (λ (h : 64 ≤ v). omega (arith, short-length v h, (sized v).1)) (lt-or-le v 64)

bytes-short : (bs : List ℕ) (n : ℕ) → length bs ≡ n → n < 2048 → length (enc_bytes bs) ≤ n + 2
bytes-short bs n e h = omega (arith, bytes-length bs, (head-some (length bs)).1 (rw e h))

uid-short : (u : ℕ) → length (enc_atom (uid u)) ≤ 10
unfolding enc_atom
uid-short u = bytes-short (be_of 8 u) 8 (be-length 8 u) (omega arith)

-- ---- a value of a cell takes 34 bytes at most
abbrev Short : Plain → Type 0
Short v = length (enc_value v) ≤ 34

number_short : (v : ℕ) → Short (number v)
unfolding enc_value enc_atom
number_short v = omega (arith, int-short v)

resets-short : (b : Bool) → Short (resets b)
unfolding enc_value enc_values enc_atom enc_int
resets-short true = lit≤ tt
resets-short false = lit≤ tt

uid-cell : (u : ℕ) → Short (atom (uid u))
unfolding enc_value
uid-cell u = omega (arith, uid-short u)

msid-short : (c : Cells) → length c.msid ≡ 32 → Short (atom (bytes c.msid))
unfolding enc_value enc_atom
msid-short c h = bytes-short c.msid 32 h (omega arith)

past-short : (c : Cells) (o : Object) (k : ℕ) → length c.msid ≡ 32 → Short (cell_past0 c o k)
unfolding cell_past0
past-short c O.PinSid k h = search (whichever Short, number_short)
past-short c O.PinMsid k h = msid-short c h
past-short c O.TperInfo k h = number_short _
past-short c O.SpAdmin k h = number_short _
past-short c O.SpLocking k h = number_short _
past-short c O.ThisSp k h = number_short _
past-short c (O.Authority r) k h = number_short _
past-short c (O.Pin r) k h = search (whichever Short, number_short)
past-short c (O.Range i) k h = search (whichever Short, number_short, resets-short) depth 9
past-short c O.MbrControl k h = search (whichever Short, number_short, resets-short)
past-short c O.Nothing k h = number_short _

pub cell-short : (c : Cells) (o : Object) (k : ℕ) → length c.msid ≡ 32 → Short (cell c o k)
cell-short c o k h = whichever Short (eqb k 0) _ _ (uid-cell (U.uid_of o)) (past-short c o k h)

-- ---- lists of them
item-length : (k : ℕ) (v : Plain) (l : Plains) → length (enc_values (more (named (int k) v) l)) ≡ 2 + length (enc_int k) + length (enc_value v) + length (enc_values l)
unfolding enc_values enc_value enc_atom
item-length k v l = simp length-append (omega arith)

none-length : length (enc_values none) ≡ 1
unfolding enc_values
none-length = refl

pub told-short : (c : Cells) (o : Object) (n k : ℕ) → length c.msid ≡ 32 → length (enc_values (told c o n k)) ≤ (20 - k) * 45 + 1
unfolding told
told-short c o zero k h = omega (arith, none-length)
told-short c o (suc n) k h =
    let i = told-short c o n (k + 1) h in
    cond-all (λ l. length (enc_values l) ≤ (20 - k) * 45 + 1) (allowed_column c.session o U.get_method k) _ _
    (λ a. ⊎_elim
    (λ (g : k < 20). omega (arith, item-length k (cell c o k) (told c o n (k + 1)), int-short k, cell-short c o k h))
    (λ (g : 20 ≤ k). absurd (true≢false (sym a ∙ column-hidden c.session o U.get_method k g)))
    (lt-or-le k 20))
    (λ _. omega arith)

-- ---- results and calls
status-length : (k : Status) → length (enc_value (list (more (number (status_number k)) (two 0 0)))) ≡ 5
unfolding enc_value enc_values enc_atom enc_int status_number
status-length E.Success = refl
status-length E.NotAuthorized = refl
status-length E.NoSessions = refl
status-length E.InvalidParameter = refl
status-length E.LockedOut = refl
status-length E.Fail = refl

list_length : (l : Plains) → length (enc_value (list l)) ≡ 1 + length (enc_values l)
unfolding enc_value
list_length l = omega arith

result-short : (l : Plains) (k : Status) (n : ℕ) → length (enc_values l) ≤ n → length (result_of l k) ≤ n + 7
result-short l k n h = simp length-append (omega (arith, list_length l, status-length k))

call-short : (m : ℕ) (l : Plains) (k : Status) (n : ℕ) → length (enc_values l) ≤ n → length (manager_call m l k) ≤ n + 28
call-short m l k n h = simp length-append (omega (arith, uid-short U.manager_uid, uid-short m, list_length l, status-length k))

more-short : (v : Plain) (l : Plains) (m n : ℕ) → length (enc_value v) ≤ m → length (enc_values l) ≤ n → length (enc_values (more v l)) ≤ m + n
unfolding enc_values
more-short v l m n h k = simp length-append (omega arith)

none-short : length (enc_values none) ≤ 1
none-short = omega (arith, none-length)

one-short : (v : ℕ) → length (enc_values (one (number v))) ≤ 35
one-short v = more-short (number v) none 34 1 (number_short v) none-short

two-short : (a b : ℕ) → length (enc_values (two a b)) ≤ 69
two-short a b = more-short (number a) (one (number b)) 34 35 (number_short a) (one-short b)

get-short : (c : Cells) (o : Object) (n k : ℕ) → length c.msid ≡ 32 → length (enc_values (one (list (told c o n k)))) ≤ 903
get-short c o n k h = more-short (list (told c o n k)) none 902 1 (omega (arith, told-short c o n k h, list_length (told c o n k))) none-short

plain : (l : Plains) (k : Status) (n : ℕ) → length (enc_values l) ≤ n → n ≤ 903 → length (result_of l k) ≤ 1000
plain l k n h m = omega (arith, result-short l k n h)

call : (m : ℕ) (l : Plains) (k : Status) (n : ℕ) → length (enc_values l) ≤ n → n ≤ 903 → length (manager_call m l k) ≤ 1000
call m l k n h j = omega (arith, call-short m l k n h)

-- a packet may carry 1,989 bytes
pub answer-short : (c : Cells) (d : Decision) → length c.msid ≡ 32 → length (answer c d) ≤ 1000
unfolding answer
answer-short c (D.Refuse k) h = plain none k 1 none-short (lit≤ tt)
answer-short c (D.NotStarted k) h = call U.sync_session none k 1 none-short (lit≤ tt)
answer-short c (D.Missed r) h = call U.sync_session none E.NotAuthorized 1 none-short (lit≤ tt)
answer-short c (D.Started locking hsn w) h = call U.sync_session (two hsn.0 c.next.0) E.Success 69 (two-short _ _) (lit≤ tt)
answer-short c D.Denied h = plain (one (number 0)) E.Success 35 (one-short 0) (lit≤ tt)
answer-short c (D.Mistaken r) h = plain (one (number 0)) E.Success 35 (one-short 0) (lit≤ tt)
answer-short c (D.Proved w) h = plain (one (number 1)) E.Success 35 (one-short 1) (lit≤ tt)
answer-short c (D.Told o first last) h = plain (one (list (told c o (last + 1 - first) first))) E.Success 903 (get-short c o (last + 1 - first) first h) (lit≤ tt)
answer-short c (D.Done x) h = plain none E.Success 1 none-short (lit≤ tt)
answer-short c D.Began h = lit≤ tt
answer-short c D.BeganAlready h = lit≤ tt
answer-short c D.Committed h = lit≤ tt
answer-short c D.Abandoned h = lit≤ tt
answer-short c D.NoneOpen h = lit≤ tt
answer-short c D.Ended h = lit≤ tt
answer-short c D.Broke h = call U.close_session (two c.session.hsn.0 c.session.tsn.0) E.Success 69 (two-short _ _) (lit≤ tt)

-- and it has a byte at least
some_more : (l : List ℕ) (v : Plains) → 1 ≤ length (enc_value (list v) ++ l)
some_more l v = simp length-append (omega (arith, list_length v))

pub answer-some : (c : Cells) (d : Decision) → 1 ≤ length (answer c d)
unfolding answer
answer-some c (D.Refuse k) = some_more _ none
answer-some c (D.NotStarted k) = omega arith
answer-some c (D.Missed r) = omega arith
answer-some c (D.Started locking hsn w) = omega arith
answer-some c D.Denied = some_more _ (one (number 0))
answer-some c (D.Mistaken r) = some_more _ (one (number 0))
answer-some c (D.Proved w) = some_more _ (one (number 1))
answer-some c (D.Told o first last) = some_more _ (one (list (told c o (last + 1 - first) first)))
answer-some c (D.Done x) = some_more _ none
answer-some c D.Began = lit≤ tt
answer-some c D.BeganAlready = lit≤ tt
answer-some c D.Committed = lit≤ tt
answer-some c D.Abandoned = lit≤ tt
answer-some c D.NoneOpen = lit≤ tt
answer-some c D.Ended = lit≤ tt
answer-some c D.Broke = omega arith
