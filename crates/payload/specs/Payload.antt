-- "A payload is one of: F8, invoking UID, method UID, a list, F9, F0 00 00 00 F1; or FA; or FB 00; or FC 00 (commit) or FC 01 (abandon). UIDs are 8 bytes. Nothing may follow."
use Rattle.std.specs.Prelude.{ℕ, List, Bool, true, false, cond, eqb}
use Rattle.token.specs.declared.Token.{Token}
use Rattle.token.specs.declared.Token.TheVariants as K
use Rattle.token.specs.Bytes.{number_at}
use Rattle.token.specs.Token.{token_at}
use Rattle.value.specs.Value.{Atom, int, bytes, Value, atom, list, named}
use Rattle.value.specs.Read.{Out, ok, bad, then, mark_of, atom_is, value_at}
use Rattle.payload.specs.declared.Payload.{Payload}
use Rattle.payload.specs.declared.Payload.TheVariants as P

abbrev pub mark_at : List ℕ → ℕ → ℕ → Out (Unit {0})
mark_at s c p = mark_of c (token_at s p)

abbrev pub atom_at : List ℕ → ℕ → Out Atom
atom_at s p = atom_is (token_at s p)

-- a UID, as a number
unfoldable pub uid_is : List ℕ → Atom → ℕ → Out ℕ
uid_is s (int v) q = bad
uid_is s (bytes p n) q = cond (eqb n 8) (ok (number_at s p 8) q) bad

abbrev pub uid_at : List ℕ → ℕ → Out ℕ
uid_at s p = then (atom_at s p) (uid_is s)

-- the integer w
unfoldable pub int_is : ℕ → Atom → ℕ → Out (Unit {0})
int_is w (int v) q = cond (eqb v w) (ok tt q) bad
int_is w (bytes p n) q = bad

abbrev pub int_at : List ℕ → ℕ → ℕ → Out (Unit {0})
int_at s w p = then (atom_at s p) (int_is w)

-- a list, by the place of its first value
unfoldable pub list_is : Value → ℕ → Out ℕ
list_is (atom a) q = bad
list_is (list p vs) q = ok p q
list_is (named a v) q = bad

-- "nest to a depth of 16, a call's list the first"
abbrev pub list_at : List ℕ → ℕ → Out ℕ
list_at s p = then (value_at s 16 p) list_is

-- F0 00 00 00 F1
unfoldable pub status_at : List ℕ → ℕ → Out (Unit {0})
status_at s p =
    then (mark_at s 0xf0 p) (λ u a.
    then (int_at s 0 a) (λ u b.
    then (int_at s 0 b) (λ u c.
    then (int_at s 0 c) (λ u d.
    mark_at s 0xf1 d))))

-- what follows F8
unfoldable pub call_at : List ℕ → ℕ → Out Payload
call_at s p =
    then (uid_at s p) (λ object a.
    then (uid_at s a) (λ method b.
    then (list_at s b) (λ params c.
    then (mark_at s 0xf9 c) (λ u d.
    then (status_at s d) (λ u e.
    ok (P.Call object method params) e)))))

-- what follows FC
unfoldable pub finish_is : Atom → ℕ → Out Payload
finish_is (int v) q = cond (eqb v 0) (ok P.Commit q) (cond (eqb v 1) (ok P.Abandon q) bad)
finish_is (bytes p n) q = bad

-- by the first token
unfoldable pub starts_by : List ℕ → Token → Out Payload
starts_by s (K.Int v q) = bad
starts_by s (K.Bytes p n q) = bad
starts_by s (K.Control c q) =
    cond (eqb c 0xf8) (call_at s q)
    (cond (eqb c 0xfa) (ok P.EndSession q)
    (cond (eqb c 0xfb) (then (int_at s 0 q) (λ u r. ok P.Begin r))
    (cond (eqb c 0xfc) (then (atom_at s q) finish_is)
    bad)))
starts_by s K.End = bad
starts_by s K.Broken = bad

unfoldable pub is_end : Token → Bool
is_end (K.Int v q) = false
is_end (K.Bytes p n q) = false
is_end (K.Control c q) = false
is_end K.End = true
is_end K.Broken = false

-- "Nothing may follow", but empty tokens
unfoldable pub last_of : List ℕ → Out Payload → Payload
last_of s (ok x q) = cond (is_end (token_at s q)) x P.Broken
last_of s bad = P.Broken

-- the payload that stands in s from p on
abbrev pub payload_at : List ℕ → ℕ → Payload
payload_at s p = last_of s (starts_by s (token_at s p))
