-- The parameters of each method, by the values of its list.
use Rattle.std.specs.Prelude.{ℕ, List, Bool, ◌&&◌, ◌||◌, cond, ltb, eqb, Option, Some, None, Result, Ok, Err}
use Rattle.value.specs.Read.{values_at}
use Rattle.value.specs.Value.{int, bytes, Value, atom, list, named, Values, none, more}
use Rattle.item.specs.declared.Slot.{Slot}
use Rattle.item.specs.Item.{slot_of}
use Rattle.params.specs.declared.Offence.{Offence}
use Rattle.params.specs.declared.Offence.TheVariants as O
use Rattle.params.specs.declared.Columns.{Columns}
use Rattle.params.specs.declared.Block.{Block}
use Rattle.params.specs.declared.Start.{Start}
use Rattle.params.specs.declared.Proof.{Proof}
use Rattle.params.specs.declared.Resets.{Resets}
use Rattle.params.specs.declared.Resets.TheVariants as X
use Rattle.params.specs.Names.{optional, beyond, nothing, is_int, is_bytes, is_uid, or_left_out, int_of, uid_of, given}
use Rattle.params.specs.Columns.{empty, put_items}

-- Get: "a cell block with start column 3 and end column 4, either left out"
unfoldable pub block_of : Slot → Slot → Bool → Option Block
block_of start end last = cond (or_left_out is_int start && (or_left_out is_int end && last)) (Some (record { start = start; end = end })) None

unfoldable pub block_in : Value → Option Block
block_in (atom a) = None
block_in (list p vs) = block_of (optional 3 vs) (optional 4 (beyond 3 vs)) (nothing (beyond 4 (beyond 3 vs)))
block_in (named a v) = None

unfoldable pub get_of : Values → Option Block
get_of none = None
get_of (more v none) = block_in v
get_of (more v (more w vs)) = None

-- no parameters of a Set
abbrev pub no_columns : Result Columns Offence
no_columns = Err O.Broken

-- Set: "name 1 with a list, perhaps empty, of named values"; without it nothing is set
unfoldable pub columns_in : Value → Result Columns Offence
columns_in (atom a) = no_columns
columns_in (list p vs) = put_items (Ok empty) vs
columns_in (named a v) = no_columns

unfoldable pub values_in : Value → Result Columns Offence
values_in (atom a) = no_columns
values_in (list p vs) = no_columns
values_in (named (int n) v) = cond (eqb n 1) (columns_in v) no_columns
values_in (named (bytes p n) v) = no_columns

unfoldable pub set_of : Values → Result Columns Offence
set_of none = Ok empty
set_of (more v none) = values_in v
set_of (more v (more w vs)) = no_columns

-- StartSession: "HostSessionID (32 bits), SPID, Write, optional name 0 HostChallenge, name 3 HostSigningAuthority"
unfoldable pub start_from : List ℕ → Slot → Slot → Slot → Slot → Slot → Bool → Option Start
start_from s hsn sp write challenge authority last =
    cond
    ((is_int hsn && ltb (int_of hsn) 0x100000000)
    && (is_uid sp
    && (is_int write
    && (or_left_out is_bytes challenge
    && (or_left_out is_uid authority
    && last)))))
    (Some (record { hsn = record { 0 = int_of hsn }; sp = uid_of s sp; write = int_of write; challenge = challenge; authority = authority }))
    None

unfoldable pub start_of : List ℕ → Values → Option Start
start_of s none = None
start_of s (more a none) = None
start_of s (more a (more b none)) = None
start_of s (more a (more b (more c vs))) =
    start_from s (slot_of a) (slot_of b) (slot_of c) (optional 0 vs) (optional 3 (beyond 0 vs)) (nothing (beyond 3 (beyond 0 vs)))

-- Authenticate: "authority, optional name 0 proof"
unfoldable pub proof_from : List ℕ → Slot → Slot → Bool → Option Proof
proof_from s authority proof last =
    cond (is_uid authority && (or_left_out is_bytes proof && last)) (Some (record { authority = uid_of s authority; proof = proof })) None

unfoldable pub proof_of : List ℕ → Values → Option Proof
proof_of s none = None
proof_of s (more a vs) = proof_from s (slot_of a) (optional 0 vs) (nothing (beyond 0 vs))

-- "LockOnReset and DoneOnReset hold {0} or {0, 3}": a set has no order, and each element once
abbrev pub is_the : ℕ → Value → Bool
is_the n v = is_int (slot_of v) && eqb (int_of (slot_of v)) n

unfoldable pub resets_of : Values → Option Resets
resets_of none = None
resets_of (more v none) = cond (is_the 0 v) (Some X.Power) None
resets_of (more v (more w none)) = cond ((is_the 0 v && is_the 3 w) || (is_the 3 v && is_the 0 w)) (Some X.Program) None
resets_of (more v (more w (more x vs))) = None

-- the set whose elements stand in s from p on
abbrev pub resets_at : List ℕ → ℕ → Option Resets
resets_at s p = given None resets_of (values_at s 0 p)
