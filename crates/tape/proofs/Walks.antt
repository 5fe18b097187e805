-- A walk from token to token: what is passed, what is to come, and what is made of it on the way.
use Prim.Native.Nat.{ℕ, ◌+◌, ◌≤◌, ◌<◌}
use mathlib.Core.Path.{◌≡◌, refl, sym, ap, ◌∙◌}
use mathlib.Core.List.{List, [], ◌∷◌, ◌++◌, append-nil}
use native.Mathlib.Omega.{arith}
use native.Mathlib.Nat.{add-zero}
use lib.ListN.{length, take, length-append, take-append-drop}
use lib.Seq.{append_snoc}
use Rattle.token.specs.declared.Token.{Token}
use Rattle.token.specs.Bytes.{over}
use Rattle.token.proofs.Writes.{over-length, over-over}
use Rattle.value.specs.Value.{int, bytes}
use Rattle.value.proofs.Outs.{Any, Has}
use Rattle.tape.proofs.Rows.{Tok, leaf, mark, tok_to, Row}
use Rattle.tape.proofs.Flat.{flat, flat-none, flat-join, flat-snoc}

tok-ahead : (p n q : ℕ) (x : Tok) → Has Any p n (tok_to x q) → p < q
tok-ahead p n q (leaf (int v)) h = h.0
tok-ahead p n q (leaf (bytes a b)) h = h.0
tok-ahead p n q (mark c) h = h.0

-- of the tokens all, which end at q, the tokens xs are passed, and the others stand from p on
abbrev pub Passed : (ℕ → Token) → List Tok → ℕ → List Tok → ℕ → Type 0
Passed tok all q xs p = (ys : List Tok) × (all ≡ xs ++ ys) × Row tok p ys q

-- one more
abbrev pub Next : (ℕ → Token) → List Tok → ℕ → List Tok → ℕ → Type 0
Next tok all q xs p = (x : Tok) × (r : ℕ) × (tok p ≡ tok_to x r) × (p < r) × Passed tok all q (xs ++ (x ∷ [])) r

module _ (tok : ℕ → Token) (all : List Tok) (q : ℕ) where
  pub passed_first : (p : ℕ) → Row tok p all q → Passed tok all q [] p
  passed_first p u = (all, refl, u)

  pub passed-le : (f : Tok → List ℕ) (xs : List Tok) (p : ℕ) → Passed tok all q xs p → length (flat f xs) ≤ length (flat f all)
  passed-le f xs p h = rw (h.1, flat-join f xs h.0, length-append) (omega arith)

  module _ (N : ℕ) (ta : (p : ℕ) → Has Any p N (tok p)) where
    ahead : (p r : ℕ) (x : Tok) → tok p ≡ tok_to x r → p < r
    ahead p r x e = tok-ahead p N r x (rw e at (ta p))

    row-le : (p r : ℕ) (xs : List Tok) → Row tok p xs r → p ≤ r
    row-le p r [] u = omega arith
    row-le p r (x ∷ xs) u = omega (arith, ahead p u.0 x u.1, row-le u.0 r xs u.2)

    pub passed-next : (xs : List Tok) (p : ℕ) → Passed tok all q xs p → p < q → Next tok all q xs p
    passed-next xs p h l = go h.0 h.1 h.2
      where
        go : (ys : List Tok) → all ≡ xs ++ ys → Row tok p ys q → Next tok all q xs p
        go [] e u = absurd (omega arith)
        go (x ∷ ys) e u = (x, u.0, u.1, ahead p u.0 x u.1, (ys, e ∙ sym (append_snoc xs x ys), u.2))

    pub passed-last : (xs : List Tok) (p : ℕ) → Passed tok all q xs p → q ≤ p → xs ≡ all
    passed-last xs p h l = go h.0 h.1 h.2
      where
        go : (ys : List Tok) → all ≡ xs ++ ys → Row tok p ys q → xs ≡ all
        go [] e u = sym (e ∙ append-nil xs)
        go (x ∷ ys) e u = absurd (omega (arith, ahead p u.0 x u.1, row-le u.0 q ys u.2))

-- l is d, and what is made of the tokens xs stands in it from at on
abbrev pub Laid : (Tok → List ℕ) → List ℕ → ℕ → List Tok → List ℕ → Type 0
Laid f d at xs l = (l ≡ over d at (flat f xs)) × (length l ≡ length d)

pub over_none : (d : List ℕ) (at : ℕ) → over d at [] ≡ d
unfolding over
over_none d at = rw (append-nil (take at d), add-zero at) (take-append-drop at d)

module _ (f : Tok → List ℕ) (d : List ℕ) (at : ℕ) where
  pub laid-first : Laid f d at [] d
  laid-first = (rw (flat-none f) (sym (over_none d at)), refl)

  pub laid_next : (p : ℕ) (xs : List Tok) (x : Tok) (l m : List ℕ) → Laid f d at xs l → p ≡ at + length (flat f xs) → p + length (f x) ≤ length d
      → m ≡ over l p (f x) → Laid f d at (xs ++ (x ∷ [])) m
  laid_next p xs x l m h e k g =
      (g ∙ rw (h.0, e, flat-snoc f xs x) (over-over d (flat f xs) at (omega arith) (f x)), ap length g ∙ over-length l (f x) p (omega (arith, h.1)) ∙ h.1)
