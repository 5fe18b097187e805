-- What a test of a value's kind, or of an optional parameter, says of the value itself: each is turned round once, here.
use Prim.Native.Nat.{ℕ}
use mathlib.Core.Path.{◌≡◌, refl}
use mathlib.Core.Bool.{Bool, true, false, cond}
use lib.Dec.{eqb}
use borrow.Author.Tests.{eqb-true}
use Rattle.value.specs.Value.{int, bytes, Value, atom, list, named, Values, none, more}
use Rattle.item.specs.declared.Slot.{Slot}
use Rattle.item.specs.declared.Slot.TheVariants as S
use Rattle.item.specs.Item.{slot_of}
use Rattle.params.specs.Names.{names, inner, optional, beyond, nothing, is_int, is_bytes, is_uid, or_left_out, int_of}
use Rattle.params.specs.Params.{is_the}
use Rattle.params.specs.Exact.{number, text, name}

-- ---- a property of every value that passes a test of kinds
module _ (P : Value → Type 0) where
  pub by_int : ((n : ℕ) → P (number n)) → (v : Value) → is_int (slot_of v) ≡ true → P v
  unfolding slot_of is_int
  by_int f (atom (int n)) e = f n
  by_int f (atom (bytes p n)) e = absurd cc
  by_int f (list p vs) e = absurd cc
  by_int f (named a v) e = absurd cc

  pub by_bytes : ((p n : ℕ) → P (text p n)) → (v : Value) → is_bytes (slot_of v) ≡ true → P v
  unfolding slot_of is_bytes
  by_bytes f (atom (int n)) e = absurd cc
  by_bytes f (atom (bytes p n)) e = f p n
  by_bytes f (list p vs) e = absurd cc
  by_bytes f (named a v) e = absurd cc

  pub by-uid : ((p : ℕ) → P (text p 8)) → (v : Value) → is_uid (slot_of v) ≡ true → P v
  unfolding slot_of is_uid
  by-uid f (atom (int n)) e = absurd cc
  by-uid f (atom (bytes p n)) e = rw (eqb-true n 8 e) (f p)
  by-uid f (list p vs) e = absurd cc
  by-uid f (named a v) e = absurd cc

  pub by-the : (k : ℕ) → P (number k) → (v : Value) → is_the k v ≡ true → P v
  unfolding slot_of is_int int_of
  by-the k f (atom (int n)) e = rw (eqb-true n k e) f
  by-the k f (atom (bytes p n)) e = absurd cc
  by-the k f (list p vs) e = absurd cc
  by-the k f (named a v) e = absurd cc

pub none_left : (vs : Values) → nothing vs ≡ true → vs ≡ none
unfolding nothing
none_left none e = refl
none_left (more v vs) e = absurd cc

-- ---- the optional parameter n: left out, or in front and of its kind; and what follows
pub data Optional (n : ℕ) (kind : Slot → Bool) : Values → Slot → Values → Type 0 where
  left_out : (vs : Values) → Optional n kind vs S.Absent vs
  here : (v : Value) (vs : Values) → kind (slot_of v) ≡ true → Optional n kind (more (name n v) vs) (slot_of v) vs

module _ (n : ℕ) (kind : Slot → Bool) where
  -- a value is never taken for one that is left out
  of-kind : (v : Value) → or_left_out kind (slot_of v) ≡ true → kind (slot_of v) ≡ true
  unfolding slot_of or_left_out
  of-kind (atom (int n)) e = e
  of-kind (atom (bytes p n)) e = e
  of-kind (list p vs) e = e
  of-kind (named a v) e = e

  named-is : (k : ℕ) (v : Value) (vs : Values) (b : Bool) → eqb k n ≡ b → or_left_out kind (cond b (slot_of v) S.Absent) ≡ true
      → Optional n kind (more (name k v) vs) (cond b (slot_of v) S.Absent) (cond b vs (more (name k v) vs))
  named-is k v vs true h e = rw (eqb-true k n h) (here v vs (of-kind v e))
  named-is k v vs false h e = left_out _

  pub optional-is : (vs : Values) → or_left_out kind (optional n vs) ≡ true → Optional n kind vs (optional n vs) (beyond n vs)
  unfolding optional beyond names inner
  optional-is none e = left_out none
  optional-is (more (atom a) vs) e = left_out _
  optional-is (more (list p ws) vs) e = left_out _
  optional-is (more (named (int k) v) vs) e = named-is k v vs (eqb k n) refl e
  optional-is (more (named (bytes p k) v) vs) e = left_out _

  -- the last of them
  pub ended : (vs : Values) → or_left_out kind (optional n vs) ≡ true → nothing (beyond n vs) ≡ true → Optional n kind vs (optional n vs) none
  ended vs e f = rw (none_left (beyond n vs) f) at (optional-is vs e)
