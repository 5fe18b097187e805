-- Each call by its method: the faults that it is judged by, and what is claimed of each way in which it ends.
use Rattle.std.specs.Prelude.{ℕ, ◌+◌, ◌≡◌, Bool, List, [], ◌∷◌, eqb, Option, Some, None, Result, Ok, Err}
use Rattle.value.specs.Value.{Values}
use Rattle.value.specs.Read.{Out}
use Rattle.params.specs.declared.Columns.{Columns}
use Rattle.params.specs.declared.Offence.{Offence}
use Rattle.params.specs.declared.Block.{Block}
use Rattle.params.specs.declared.Start.{Start}
use Rattle.params.specs.declared.Proof.{Proof}
use Rattle.params.specs.Names.{given}
use Rattle.params.specs.Params.{no_columns, get_of, set_of, start_of, proof_of}
use Rattle.model.specs.Types.{Hsn, Card, Object, Who}
use Rattle.model.specs.declared.Who.TheVariants as W
use Rattle.model.specs.Uids.{who_in}
use Rattle.model.specs.Words.{OneOf, Sid, Admins}
use Rattle.model.specs.Literals.{last_of}
use Rattle.model.specs.Wants.{Ruled, signs, or, start_faults, proof_faults, get_faults, set_faults, bare_faults}

-- ---- a call on 0, 0
pub record Opening : Type 1 where
  pub plain : Type 0
  pub refused : ℕ → Type 0
  pub wrong : Who → Type 0
  pub started : Bool → Hsn → Who → Type 0

-- who signs a StartSession
abbrev pub signer : List ℕ → Option Start → Who
signer s None = W.Unknown
signer s (Some t) = signs s (eqb t.sp 0x20500000002) t.authority

-- what is claimed of one that is right
abbrev pub started_by : Opening → List ℕ → Option Start → Type 0
started_by e s None = ⊥
started_by e s (Some t) = e.started (eqb t.sp 0x20500000002) t.hsn (signs s (eqb t.sp 0x20500000002) t.authority)

-- "Any other call on 0, 0: status 01"
pub record OnManager (e : Opening) (k : Card) (s : List ℕ) (object method : ℕ) (vs : Out Values) : Type 0 where
  pub other : ((object ≡ 0xff) × (method ≡ 0xff02) → ⊥) → e.plain
  pub start : object ≡ 0xff → method ≡ 0xff02
      → Ruled (start_faults k s (given None (start_of s) vs)) e.refused (e.refused 0x01) (e.wrong (signer s (given None (start_of s) vs)))
      (started_by e s (given None (start_of s) vs))

-- ---- and one in the session
pub record Ways : Type 1 where
  pub refused : ℕ → Type 0
  pub got : ℕ → ℕ → Type 0
  pub put : Columns → Type 0
  pub denied : Type 0
  pub wrong : Who → Type 0
  pub proved : Who → Type 0
  pub activated : Type 0
  pub reverted : Type 0
  pub reverted_sp : Type 0

-- what is claimed of a Get that is right, with its first and last column
abbrev pub got_by : Ways → Object → Option Block → Type 0
got_by e o None = ⊥
got_by e o (Some b) = e.got (or 0 b.start) (or (last_of o) b.end)

-- what is claimed of a Set that is right, with its columns
abbrev pub put_by : Ways → Result Columns Offence → Type 0
put_by e (Err f) = ⊥
put_by e (Ok t) = e.put t

-- whom an Authenticate names
abbrev pub prover : Bool → Option Proof → Who
prover locking None = W.Unknown
prover locking (Some p) = who_in locking p.authority

-- "methods are 00 00 00 06 and then 00 00 00 16 Get, 17 Set, 1C Authenticate, 11 RevertSP, 00 00 02 02 Revert, 02 03 Activate"
pub record OnObject (e : Ways) (k : Card) (s : List ℕ) (o : Object) (method : ℕ) (vs : Out Values) : Type 0 where
  pub get : method ≡ 0x600000016
      → Ruled (get_faults k o (given None get_of vs)) e.refused (e.refused 0x01) (e.refused 0x01) (got_by e o (given None get_of vs))
  pub set : method ≡ 0x600000017
      → Ruled (set_faults k s o (given no_columns set_of vs)) e.refused (e.refused 0x01) (e.refused 0x01) (put_by e (given no_columns set_of vs))
  pub authenticate : method ≡ 0x60000001c
      → Ruled (proof_faults k s o (given None (proof_of s) vs)) e.refused e.denied
      (e.wrong (prover k.cells.session.locking (given None (proof_of s) vs)))
      (e.proved (prover k.cells.session.locking (given None (proof_of s) vs)))
  pub activate : method ≡ 0x600000203
      → Ruled (bare_faults k o 0x203 vs (Sid k.cells.session)) e.refused (e.refused 0x01) (e.refused 0x01) e.activated
  pub revert : method ≡ 0x600000202
      → Ruled (bare_faults k o 0x202 vs (Sid k.cells.session)) e.refused (e.refused 0x01) (e.refused 0x01) e.reverted
  pub revert_sp : method ≡ 0x600000011
      → Ruled (bare_faults k o 0x11 vs (Admins k.cells.session)) e.refused (e.refused 0x01) (e.refused 0x01) e.reverted_sp
  -- no method of the table
  pub other : ((m : ℕ) → OneOf m (0x16 ∷ 0x17 ∷ 0x1c ∷ 0x11 ∷ 0x202 ∷ 0x203 ∷ []) → method ≡ 0x600000000 + m → ⊥) → e.refused 0x01
