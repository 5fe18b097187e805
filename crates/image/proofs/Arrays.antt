-- What the readers need: an array made by index, and a test of every index.
use Prim.Native.Nat.{ℕ, zero, suc, ◌+◌, ◌≤◌, ◌<◌}
use mathlib.Core.Path.{◌≡◌, refl, ap, sym, subst, ◌∙◌}
use mathlib.Core.Bool.{Bool, true}
use mathlib.Core.List.{List, [], ◌∷◌}
use mathlib.Core.Logic.{⊎_elim}
use native.Mathlib.Omega.{arith}
use native.Mathlib.Nat.{add-zero, zero-add}
use denote.Param.Members.{Mut}
use lib.ListN.{length, get_or}
use Rattle.std.specs.Array.{IsFromFnResultFrom, IsFromFnResult}
use Rattle.std.specs.Iterator.{ActsAs}
use Rattle.std.proofs.Common.{Decides, slice_range, EachIndex}
use Rattle.std.proofs.lemmas.Bool.{and_parts}
-- by the name that `desk` cites
pub use Rattle.std.proofs.lemmas.Bool.{and_parts as both}
use Rattle.std.proofs.lemmas.Bool.Decides.{same_from_decides}
use Rattle.std.proofs.lemmas.List.Edits.{length-between, get_or-between}
use Rattle.token.proofs.Laws.{lt-or-le}
use Rattle.image.specs.Read.{rows_from, all_below}
use Rattle.image.proofs.Lists.{made}

-- ---- an array made by index
filled_from : {F B : Type 0} (g : Mut F (ℕ × Unit {0}) B) (f : F) (h : ℕ → B) → ActsAs g f h → (ys : List B) (i n k : ℕ) (d : B)
    → IsFromFnResultFrom g f ys i n → k < n → get_or ys (i + k) d ≡ h (i + k)
filled_from g f h acts ys i zero k d r b = absurd (omega arith)
filled_from g f h acts ys i (suc n) zero d r b = let e : i + 0 ≡ i = add-zero i in rw e (r.2.1 d ∙ (acts i r.1 r.0 r.3).1)
filled_from {F} g f h acts ys i (suc n) (suc k) d r b =
    let e : i + suc k ≡ i + 1 + k = omega arith in
    let rest : IsFromFnResultFrom g f ys (i + 1) n = subst (λ (q : F). IsFromFnResultFrom g q ys (i + 1) n) (acts i r.1 r.0 r.3).0 r.4 in
    rw e (filled_from g f h acts ys (i + 1) n k d rest (omega arith))

-- `from_fn` at a closure that gives what h gives
pub filled : {F B : Type 0} {g : Mut F (ℕ × Unit {0}) B} {f : F} {ys : List B} {n : ℕ} (h : ℕ → B) → ActsAs g f h → IsFromFnResult g f ys n
    → ys ≡ rows_from n h
unfolding rows_from
filled {ys = []} {n = zero} h acts r = refl
filled {ys = []} {n = suc m} h acts r = absurd (omega (arith, r.long))
filled {g = g} {f = f} {ys = y ∷ l} {n = n} h acts r =
    sym (made h (y ∷ l) y n r.long (λ i (b : i < n). sym (rw zero-add at (filled_from g f h acts (y ∷ l) 0 n i y r.each b))))

-- ---- a test of every index
module _ (f : ℕ → Bool) where
  pub all_true : (n : ℕ) → ((i : ℕ) → i < n → f i ≡ true) → all_below n f ≡ true
  unfolding all_below
  all_true zero h = refl
  all_true (suc n) h = simp (all_true n (λ i (b : i < n). h i (omega arith)), h n (omega arith))

  pub below_each : (n i : ℕ) → all_below n f ≡ true → i < n → f i ≡ true
  unfolding all_below
  below_each zero i h b = absurd (omega arith)
  below_each (suc n) i h b = ⊎_elim
      (λ (k : i < n). below_each n i (and_parts (all_below n f) (f n) h).0 k)
      (λ (k : n ≤ i). let q : i ≡ n = omega arith in ap f q ∙ (and_parts (all_below n f) (f n) h).1)
      (lt-or-le i n)

  -- a test that is true just where f holds of each of them
  pub decided : (n : ℕ) (r : Bool) → Decides r ((k : ℕ) → k < n → f k ≡ true) → r ≡ all_below n f
  decided n r d = same_from_decides r (all_below n f) d (λ e k b. below_each n k e b, λ h. all_true n h)

-- the same of a run of bytes and the elements of that part of a slice
pub decided_run : (f : ℕ → Bool) (s : List ℕ) (p n : ℕ) (r : Bool) → p + n ≤ length s
    → Decides r (EachIndex (slice_range s p (p + n)) (λ k. f (get_or (slice_range s p (p + n)) k 0) ≡ true)) → r ≡ all_below n (λ k. f (get_or s (p + k) 0))
decided_run f s p n r fit d =
    let part : List ℕ = slice_range s p (p + n) in
    let many : length part ≡ n = omega (arith, length-between s p (p + n) fit) in
    let there : (k : ℕ) → k < n → get_or part k 0 ≡ get_or s (p + k) 0 = λ k (b : k < n). get_or-between s p (p + n) k 0 (omega arith) in
    decided (λ k. f (get_or s (p + k) 0)) n r
    (λ e k (b : k < n). sym (ap f (there k b)) ∙ d.0 e k (omega arith), λ h. d.1 (λ k (b : k < length part). ap f (there k (omega arith)) ∙ h k (omega arith)))
