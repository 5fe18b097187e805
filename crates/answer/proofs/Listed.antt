-- A Get's list, while it is written column by column.
use Prim.Native.Nat.{ℕ, suc, ◌+◌, ◌-◌, ◌≤◌, ◌<◌}
use mathlib.Core.Path.{◌≡◌, refl, ap, ◌∙◌}
use mathlib.Core.Bool.{Bool, true, false, cond}
use mathlib.Core.List.{List, [], ◌∷◌, ◌++◌}
use native.Mathlib.Omega.{arith}
use lib.ListN.{length, length-append}
use Rattle.token.specs.Bytes.{over}
use Rattle.token.proofs.Writes.{over-over}
use Rattle.value.specs.Plain.{int, Plain, named, Plains, more}
use Rattle.tape.specs.Write.{enc_value, enc_values}
use Rattle.model.specs.declared.Cells.{Cells}
use Rattle.model.specs.declared.Object.{Object}
use Rattle.model.specs.Uids.{get_method}
use Rattle.model.specs.Access.{has_column, allowed_column}
use Rattle.model.specs.Answer.{cell, told}
use Rattle.model.proofs.Short.{told-short}
use Rattle.answer.specs.Pieces.{Wrote, column}

-- the columns from k up to end, and the list's end
abbrev pub rest : Cells → Object → ℕ → ℕ → List ℕ
rest c o end k = enc_values (told c o (end - k) k)

listed : (b : Bool) (v : Plain) (l : Plains) → enc_values (cond b (more v l) l) ≡ cond b (enc_value v) [] ++ enc_values l
unfolding enc_values
listed true v l = refl
listed false v l = refl

rest_more : (set : ℕ) (c : Cells) (o : Object) (end k : ℕ) → has_column set k ≡ allowed_column c.session o get_method k → k < end → rest c o end k ≡ column set c o k ++ rest c o end (k + 1)
unfolding told
rest_more set c o end k a h =
    let e : end - k ≡ suc (end - (k + 1)) = omega arith in
    rw (e, a) (listed (allowed_column c.session o get_method k) (named (int k) (cell c o k)) (told c o (end - (k + 1)) (k + 1)))

rest-none : (c : Cells) (o : Object) (end k : ℕ) → end ≤ k → (0xf1 ∷ []) ≡ rest c o end k
unfolding told enc_values
rest-none c o end k h =
    let e : end - k ≡ 0 = omega arith in
    rw e

-- however many columns are asked for, their list is short
pub rest-short : (c : Cells) (o : Object) (end k : ℕ) → length c.msid ≡ 32 → length (rest c o end k) ≤ 901
rest-short c o end k many = omega (arith, told-short c o (end - k) k many)

-- the rest put into y at p is the whole, from first on, put into d at at
abbrev pub Still : Cells → Object → ℕ → ℕ → List ℕ → ℕ → ℕ → List ℕ → ℕ → Type 0
Still c o end first d at k y p = (p + length (rest c o end k) ≡ at + length (rest c o end first)) × (over y p (rest c o end k) ≡ over d at (rest c o end first))

module _ (c : Cells) (o : Object) (end first : ℕ) (d : List ℕ) (at k : ℕ) (y : List ℕ) (p : ℕ) (still : Still c o end first d at k y p) where
  pub still-short : length c.msid ≡ 32 → p + length (rest c o end k) ≤ at + 901
  still-short many = omega (arith, still.0, rest-short c o end first many)

  pub still-more : (set all n r : ℕ) (z : List ℕ) → Wrote n y p (column set c o k) r z → has_column all k ≡ allowed_column c.session o get_method k → set ≡ all → k < end → p + n ≤ length y → Still c o end first d at (k + 1) z r
  still-more set all n r z w a same h f =
      let e = rest_more set c o end k (rw same a) h in
      let q = over-over y (column set c o k) p (omega arith) (rest c o end (k + 1)) in
      (omega (arith, still.0, ap length e, length-append (column set c o k) (rest c o end (k + 1))), rw (w.buffer, w.place) (q ∙ rw (← e) still.1))

  pub still-last : (n r : ℕ) (z : List ℕ) → Wrote 1 y p (0xf1 ∷ []) r z → end ≤ k → length (rest c o end first) ≤ n → Wrote n d at (rest c o end first) r z
  still-last n r z w h l =
      let e = rest-none c o end k h in
      let q : r ≡ at + length (rest c o end first) = omega (arith, still.0, ap length e) in
      record { place = q; buffer = w.buffer ∙ rw e still.1; bound = omega arith }
