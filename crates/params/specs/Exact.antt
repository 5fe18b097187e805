-- Exactly which values are the parameters of each method, and what is read from them, in both directions.
use Rattle.std.specs.Prelude.{ℕ, ◌<◌, ◌^◌, ◌≡◌, true, List, length, get_or, Some, Ok}
use Rattle.token.specs.Bytes.{number_at}
use Rattle.value.specs.Value.{int, bytes, Value, atom, list, named, Values, none, more}
use Rattle.item.specs.declared.Slot.{Slot}
use Rattle.item.specs.declared.Slot.TheVariants as S
use Rattle.params.specs.declared.Columns.{Columns}
use Rattle.params.specs.declared.Block.{Block}
use Rattle.params.specs.declared.Start.{Start}
use Rattle.params.specs.declared.Proof.{Proof}
use Rattle.params.specs.declared.Resets.{Resets}
use Rattle.params.specs.declared.Resets.TheVariants as X
use Rattle.params.specs.Names.{nothing}
use Rattle.params.specs.Params.{get_of, set_of, start_of, proof_of, resets_of}

-- ---- values by their shape: an integer; bytes from p on, n of them; the value that an integer names
abbrev pub number : ℕ → Value
number v = atom (int v)

abbrev pub text : ℕ → ℕ → Value
text p n = atom (bytes p n)

abbrev pub name : ℕ → Value → Value
name n v = named (int n) v

-- one value, and a value before others
abbrev pub one : Value → Values
one v = more v none

-- ---- StartSession: "HostSessionID (32 bits), SPID, Write, optional name 0 HostChallenge, name 3 HostSigningAuthority"
-- what follows the first three, the challenge and the authority that it gives
pub data Options : Values → Slot → Slot → Type 0 where
  neither : Options none S.Absent S.Absent
  challenge : (p n : ℕ) → Options (one (name 0 (text p n))) (S.Bytes p n) S.Absent
  authority : (q : ℕ) → Options (one (name 3 (text q 8))) S.Absent (S.Bytes q 8)
  both : (p n q : ℕ) → Options (more (name 0 (text p n)) (one (name 3 (text q 8)))) (S.Bytes p n) (S.Bytes q 8)

pub data Starts (s : List ℕ) : Values → Start → Type 0 where
  asked : (h p w : ℕ) (vs : Values) (c a : Slot) → h < 2 ^ 32 → Options vs c a
      → Starts s (more (number h) (more (text p 8) (more (number w) vs))) (record { hsn = record { 0 = h }; sp = number_at s p 8; write = w; challenge = c; authority = a })

-- ---- Authenticate: "authority, optional name 0 proof"
pub data Proves (s : List ℕ) : Values → Proof → Type 0 where
  bare : (p : ℕ) → Proves s (one (text p 8)) (record { authority = number_at s p 8; proof = S.Absent })
  proof : (p q n : ℕ) → Proves s (more (text p 8) (one (name 0 (text q n)))) (record { authority = number_at s p 8; proof = S.Bytes q n })

-- ---- Get: "a cell block with start column 3 and end column 4, either left out"
pub data Blocks : Values → Block → Type 0 where
  neither : (p : ℕ) → Blocks (one (list p none)) (record { start = S.Absent; end = S.Absent })
  from : (p a : ℕ) → Blocks (one (list p (one (name 3 (number a))))) (record { start = S.Int a; end = S.Absent })
  to : (p b : ℕ) → Blocks (one (list p (one (name 4 (number b))))) (record { start = S.Absent; end = S.Int b })
  both : (p a b : ℕ) → Blocks (one (list p (more (name 3 (number a)) (one (name 4 (number b)))))) (record { start = S.Int a; end = S.Int b })

-- ---- Set: "name 1 with a list, perhaps empty, of named values"; 003: left out, nothing is set
-- a value as a column's slot keeps it: an integer, bytes by their place, a list by the place of its first value, or none of these
abbrev pub kept : Value → Slot
kept (atom (int v)) = S.Int v
kept (atom (bytes p n)) = S.Bytes p n
kept (list p vs) = S.List p
kept (named a v) = S.Named

-- v is given for column c
pub data Gives (c : ℕ) (v : Value) : Values → Type 0 where
  here : (vs : Values) → Gives c v (more (name c v) vs)
  later : (w : Value) (vs : Values) → Gives c v vs → Gives c v (more w vs)

-- each value is a column's, by a number that a table can have, and none is "repeated"
pub data Distinct : Values → Type 0 where
  empty : Distinct none
  and : (c : ℕ) (v : Value) (vs : Values) → c < 20 → ((w : Value) → Gives c w vs → ⊥) → Distinct vs → Distinct (more (name c v) vs)

-- the list of columns in a Set's parameters
pub data Lists : Values → Values → Type 0 where
  left_out : Lists none none
  values : (p : ℕ) (vs : Values) → Lists (one (name 1 (list p vs))) vs

-- t has these columns and no other
pub record Holds (vs : Values) (t : Columns) : Type 0 where
  pub many : length t.rows ≡ 20
  pub given : (c : ℕ) (v : Value) → Gives c v vs → get_or t.rows c S.Absent ≡ kept v
  pub absent : (c : ℕ) → ((v : Value) → Gives c v vs → ⊥) → get_or t.rows c S.Absent ≡ S.Absent

-- ---- "LockOnReset and DoneOnReset hold {0} or {0, 3}": a set has no order, and each element once
pub data Sets : Values → Resets → Type 0 where
  power : Sets (one (number 0)) X.Power
  program : Sets (more (number 0) (one (number 3))) X.Program
  turned : Sets (more (number 3) (one (number 0))) X.Program

-- ---- what is read is what such a shape says, and has such a shape
pub record ParametersAsSaid : Type 0 where
  pub start : (s : List ℕ) (vs : Values) (t : Start) → Starts s vs t → start_of s vs ≡ Some t
  pub start_only : (s : List ℕ) (vs : Values) (t : Start) → start_of s vs ≡ Some t → Starts s vs t
  pub proof : (s : List ℕ) (vs : Values) (t : Proof) → Proves s vs t → proof_of s vs ≡ Some t
  pub proof_only : (s : List ℕ) (vs : Values) (t : Proof) → proof_of s vs ≡ Some t → Proves s vs t
  pub get : (vs : Values) (b : Block) → Blocks vs b → get_of vs ≡ Some b
  pub get_only : (vs : Values) (b : Block) → get_of vs ≡ Some b → Blocks vs b
  pub set : (vs ws : Values) → Lists vs ws → Distinct ws → (t : Columns) × (set_of vs ≡ Ok t) × Holds ws t
  pub set_only : (vs : Values) (t : Columns) → set_of vs ≡ Ok t → (ws : Values) × Lists vs ws × Distinct ws
  -- "Activate, Revert and RevertSP take no parameters"
  pub bare : nothing none ≡ true
  pub bare_only : (vs : Values) → nothing vs ≡ true → vs ≡ none
  pub resets : (vs : Values) (x : Resets) → Sets vs x → resets_of vs ≡ Some x
  pub resets_only : (vs : Values) (x : Resets) → resets_of vs ≡ Some x → Sets vs x
