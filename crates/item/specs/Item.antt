-- A value seen flat, and what one step along a list finds.
use Rattle.std.specs.Prelude.{ℕ, List}
use Rattle.token.specs.Token.{token_at}
use Rattle.value.specs.Value.{int, bytes, Value, atom, list, named}
use Rattle.value.specs.Read.{Out, ok, bad, mark_of, value_at}
use Rattle.item.specs.declared.Slot.{Slot}
use Rattle.item.specs.declared.Slot.TheVariants as S
use Rattle.item.specs.declared.Item.{Item}
use Rattle.item.specs.declared.Item.TheVariants as I

-- an integer, bytes by their place and count, a list by the place of its first value, or a named value
unfoldable pub slot_of : Value → Slot
slot_of (atom (int v)) = S.Int v
slot_of (atom (bytes p n)) = S.Bytes p n
slot_of (list p vs) = S.List p
slot_of (named a v) = S.Named

-- the value that ends at q: a value that an integer names is seen with its name
unfoldable pub item_of : Value → ℕ → Item
item_of (atom a) q = I.Plain (slot_of (atom a)) q
item_of (list p vs) q = I.Plain (slot_of (list p vs)) q
item_of (named (int n) v) q = I.Named n (slot_of v) q
item_of (named (bytes p n) v) q = I.Plain (slot_of (named (bytes p n) v)) q

-- the end of the list, its next value, or neither
unfoldable pub step_of : Out (Unit {0}) → Out Value → Item
step_of (ok u q) o = I.Shut q
step_of bad (ok v q) = item_of v q
step_of bad bad = I.Broken

abbrev pub step_at : List ℕ → ℕ → ℕ → Item
step_at s d p = step_of (mark_of 0xf1 (token_at s p)) (value_at s d p)
