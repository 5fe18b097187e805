-- A row as it would stand after a Set, column by column, and a list of which one entry changes.
use Rattle.std.specs.Prelude.{ℕ, ◌≡◌, Bool, true, false, List, ◌≢◌, ◌⊎◌, length, get_or, Some}
use Rattle.item.specs.declared.Slot.{Slot}
use Rattle.item.specs.declared.Slot.TheVariants as S
use Rattle.params.specs.declared.Columns.{Columns}
use Rattle.params.specs.declared.Resets.TheVariants as X
use Rattle.params.specs.Columns.{column_at}
use Rattle.params.specs.Params.{resets_at}
use Rattle.model.specs.Types.{Row}

-- a cell after a Set: the value that is given, or what it was
abbrev pub NumberAs : Slot → ℕ → ℕ → Type 0
NumberAs S.Absent old x = x ≡ old
NumberAs (S.Int v) old x = x ≡ v
NumberAs (S.Bytes p n) old x = x ≡ old
NumberAs (S.List p) old x = x ≡ old
NumberAs S.Named old x = x ≡ old

-- a flag: 1 sets it, any other number clears it
abbrev pub FlagAs : Slot → Bool → Bool → Type 0
FlagAs S.Absent old x = x ≡ old
FlagAs (S.Int v) old x = ((v ≡ 1) × (x ≡ true)) ⊎ ((v ≢ 1) × (x ≡ false))
FlagAs (S.Bytes p n) old x = x ≡ old
FlagAs (S.List p) old x = x ≡ old
FlagAs S.Named old x = x ≡ old

-- {0} or {0, 3}: whether a programmatic reset is in it
abbrev pub ResetsAs : List ℕ → Slot → Bool → Bool → Type 0
ResetsAs s S.Absent old x = x ≡ old
ResetsAs s (S.Int v) old x = x ≡ old
ResetsAs s (S.Bytes p n) old x = x ≡ old
ResetsAs s (S.List p) old x = ((resets_at s p ≡ Some X.Program) × (x ≡ true)) ⊎ ((resets_at s p ≢ Some X.Program) × (x ≡ false))
ResetsAs s S.Named old x = x ≡ old

-- "Range columns: 3 start, 4 length, 5 and 6 read and write lock enabled, 7 and 8 locked, 9 LockOnReset"
pub record RowAs (s : List ℕ) (t : Columns) (old x : Row) : Type 0 where
  pub start : NumberAs (column_at t 3) old.start x.start
  pub length : NumberAs (column_at t 4) old.length x.length
  pub read_enabled : FlagAs (column_at t 5) old.read_enabled x.read_enabled
  pub write_enabled : FlagAs (column_at t 6) old.write_enabled x.write_enabled
  pub read_locked : FlagAs (column_at t 7) old.read_locked x.read_locked
  pub write_locked : FlagAs (column_at t 8) old.write_locked x.write_locked
  pub lock_on_program : ResetsAs s (column_at t 9) old.lock_on_program x.lock_on_program

-- the list m is l but for one entry, of which P is so
pub record OnlyAt {A : Type 0} (z : A) (i : ℕ) (P : A → A → Type 0) (l m : List A) : Type 0 where
  pub here : P (get_or l i z) (get_or m i z)
  pub others : (j : ℕ) → j ≢ i → get_or m j z ≡ get_or l j z
  pub many : length m ≡ length l
