-- The columns of a Set, each in the slot of its number, in any order. The first item that offends decides: no column, a column that no table has, or one given twice.
use Rattle.std.specs.Prelude.{ℕ, Bool, true, false, cond, get_or, set, replicate, ltb, Result, Ok, Err}
use Rattle.value.specs.Value.{int, bytes, Value, atom, list, named, Values, none, more}
use Rattle.item.specs.declared.Slot.{Slot}
use Rattle.item.specs.declared.Slot.TheVariants as S
use Rattle.item.specs.Item.{slot_of}
use Rattle.params.specs.declared.Offence.{Offence}
use Rattle.params.specs.declared.Offence.TheVariants as O
use Rattle.params.specs.declared.Columns.{Columns}

-- 003's tables have columns 0 to 19 at the most
abbrev pub column_count : ℕ
column_count = 20

abbrev pub column_at : Columns → ℕ → Slot
column_at t c = get_or t.rows c S.Absent

-- no column is given
abbrev pub empty : Columns
empty = record { rows = replicate column_count S.Absent }

unfoldable pub free : Slot → Bool
free S.Absent = true
free (S.Int v) = false
free (S.Bytes p n) = false
free (S.List p) = false
free S.Named = false

-- with x as column c
unfoldable pub put_column : Columns → ℕ → Slot → Result Columns Offence
put_column t c x =
    cond (ltb c column_count)
    (cond (free (column_at t c)) (Ok (record { rows = set t.rows c x })) (Err O.Repeated))
    (Err O.Unknown)

-- with one item more
unfoldable pub put_item : Columns → Value → Result Columns Offence
put_item t (atom a) = Err O.Broken
put_item t (list p vs) = Err O.Broken
put_item t (named (int c) v) = put_column t c (slot_of v)
put_item t (named (bytes p n) v) = Err O.Broken

-- what f makes of the columns, unless one has offended already
abbrev pub unless_refused : Result Columns Offence → (Columns → Result Columns Offence) → Result Columns Offence
unless_refused (Ok t) f = f t
unless_refused (Err e) f = Err e

-- with all items: once one has offended it stays so
unfoldable pub put_items : Result Columns Offence → Values → Result Columns Offence
put_items t none = t
put_items t (more v vs) = put_items (unless_refused t (λ u. put_item u v)) vs
