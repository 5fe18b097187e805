-- The pieces that answers are put together from, and what a writer of one leaves.
use Rattle.std.specs.Prelude.{ℕ, ◌+◌, ◌-◌, ◌≤◌, ◌≡◌, cond, List, [], ◌∷◌, ◌++◌, length}
use Rattle.token.specs.Bytes.{over}
use Rattle.tape.specs.Write.{enc_atom, enc_value}
use Rattle.value.specs.Plain.{int, list, named}
use Rattle.model.specs.declared.Cells.{Cells}
use Rattle.model.specs.declared.Object.{Object}
use Rattle.model.specs.declared.Status.{Status}
use Rattle.model.specs.Uids.{manager_uid}
use Rattle.model.specs.Access.{has_column}
use Rattle.model.specs.Answer.{status_number, uid, cell, told}

-- bs was put into d at at, n bytes at the most: r is the place behind it, and y the buffer that is left
pub record Wrote (n : ℕ) (d : List ℕ) (at : ℕ) (bs : List ℕ) (r : ℕ) (y : List ℕ) : Type 0 where
  pub place : r ≡ at + length bs
  pub buffer : y ≡ over d at bs
  pub bound : r ≤ at + n

-- the result list's end, F9 and the status list
abbrev pub ending : Status → List ℕ
ending k = 0xf1 ∷ 0xf9 ∷ 0xf0 ∷ status_number k ∷ 0 ∷ 0 ∷ 0xf1 ∷ []

-- a call by the session manager, up to its list
abbrev pub calling : ℕ → List ℕ
calling m = 0xf8 ∷ (enc_atom (uid manager_uid) ++ (enc_atom (uid m) ++ (0xf0 ∷ [])))

-- a column with its name, where the set has it
abbrev pub column : ℕ → Cells → Object → ℕ → List ℕ
column set c o k = cond (has_column set k) (enc_value (named (int k) (cell c o k))) []

-- a Get's inner list
abbrev pub columns : Cells → Object → ℕ → ℕ → List ℕ
columns c o first last = enc_value (list (told c o (last + 1 - first) first))
