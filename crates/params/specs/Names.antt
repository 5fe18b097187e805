-- Parameters that an integer names, and kinds of parameters: "kinds are strict".
use Rattle.std.specs.Prelude.{ℕ, List, Bool, true, false, cond, eqb}
use Rattle.token.specs.Bytes.{number_at}
use Rattle.value.specs.Value.{int, bytes, Value, atom, list, named, Values, none, more}
use Rattle.value.specs.Read.{Out, ok, bad}
use Rattle.item.specs.declared.Slot.{Slot}
use Rattle.item.specs.declared.Slot.TheVariants as S
use Rattle.item.specs.Item.{slot_of}

-- v is named by the integer n
unfoldable pub names : ℕ → Value → Bool
names n (atom a) = false
names n (list p vs) = false
names n (named (int k) v) = eqb k n
names n (named (bytes p c) v) = false

-- what is named
unfoldable pub inner : Value → Slot
inner (atom a) = S.Absent
inner (list p vs) = S.Absent
inner (named a v) = slot_of v

-- the optional parameter n, where it comes first
unfoldable pub optional : ℕ → Values → Slot
optional n none = S.Absent
optional n (more v vs) = cond (names n v) (inner v) S.Absent

-- and what follows it: so names that ascend are taken one after the other, and what is left over is refused
unfoldable pub beyond : ℕ → Values → Values
beyond n none = none
beyond n (more v vs) = cond (names n v) vs (more v vs)

unfoldable pub nothing : Values → Bool
nothing none = true
nothing (more v vs) = false

-- the parameters of a call, or z where their list is broken
unfoldable pub given : {A : Type 0} → A → (Values → A) → Out Values → A
given z f (ok vs q) = f vs
given z f bad = z

-- kinds
unfoldable pub is_int : Slot → Bool
is_int S.Absent = false
is_int (S.Int v) = true
is_int (S.Bytes p n) = false
is_int (S.List p) = false
is_int S.Named = false

unfoldable pub is_bytes : Slot → Bool
is_bytes S.Absent = false
is_bytes (S.Int v) = false
is_bytes (S.Bytes p n) = true
is_bytes (S.List p) = false
is_bytes S.Named = false

-- a UID: "UIDs are 8 bytes"
unfoldable pub is_uid : Slot → Bool
is_uid S.Absent = false
is_uid (S.Int v) = false
is_uid (S.Bytes p n) = eqb n 8
is_uid (S.List p) = false
is_uid S.Named = false

-- the test, or left out
unfoldable pub or_left_out : (Slot → Bool) → Slot → Bool
or_left_out test S.Absent = true
or_left_out test (S.Int v) = test (S.Int v)
or_left_out test (S.Bytes p n) = test (S.Bytes p n)
or_left_out test (S.List p) = test (S.List p)
or_left_out test S.Named = test S.Named

-- the integer that is given, and the number that a UID makes
unfoldable pub int_of : Slot → ℕ
int_of S.Absent = 0
int_of (S.Int v) = v
int_of (S.Bytes p n) = 0
int_of (S.List p) = 0
int_of S.Named = 0

unfoldable pub uid_of : List ℕ → Slot → ℕ
uid_of s S.Absent = 0
uid_of s (S.Int v) = 0
uid_of s (S.Bytes p n) = number_at s p n
uid_of s (S.List p) = 0
uid_of s S.Named = 0
