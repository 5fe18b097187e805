-- What is made of one step along a list: the value that comes next, and the parameter that an integer names.
use Rattle.std.specs.Prelude.{ℕ, cond, eqb}
use Rattle.item.specs.declared.Slot.{Slot}
use Rattle.item.specs.declared.Slot.TheVariants as S
use Rattle.item.specs.declared.Item.{Item}
use Rattle.item.specs.declared.Item.TheVariants as I
use Rattle.params.specs.declared.Taken.{Taken}

abbrev pub taken : Slot → ℕ → Taken
taken x q = record { slot = x; next = q }

-- the value that comes next, or none, from p on
unfoldable pub first_of : ℕ → Item → Taken
first_of p (I.Shut q) = taken S.Absent p
first_of p (I.Plain x q) = taken x q
first_of p (I.Named k x q) = taken S.Named q
first_of p I.Broken = taken S.Absent p

-- the parameter n, where it comes next
unfoldable pub taken_of : ℕ → ℕ → Item → Taken
taken_of n p (I.Shut q) = taken S.Absent p
taken_of n p (I.Plain x q) = taken S.Absent p
taken_of n p (I.Named k x q) = cond (eqb k n) (taken x q) (taken S.Absent p)
taken_of n p I.Broken = taken S.Absent p
