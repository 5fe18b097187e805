-- A token that is read from bytes ends past its start and within the input, and what is true of its atom by its place is true of it.
use Prim.Native.Nat.{ℕ, ◌+◌, ◌*◌, ◌≤◌, ◌<◌}
use mathlib.Core.Path.{◌≡◌, refl}
use mathlib.Core.List.{List, [], ◌∷◌}
use mathlib.Core.Bool.{Bool, true, false, ◌&&◌, cond}
use mathlib.Core.Logic.{⊎_elim}
use native.Mathlib.Omega.{arith}
use lib.ListN.{length, take, drop, length-drop}
use lib.Dec.{leb}
use borrow.Author.Tests.{leb-true}
use Rattle.token.specs.declared.Lead.{Lead}
use Rattle.token.specs.declared.Lead.TheVariants as L
use Rattle.token.specs.declared.Token.{Token}
use Rattle.token.specs.declared.Token.TheVariants as K
use Rattle.token.specs.Bytes.{within, be_val}
use Rattle.token.specs.Token.{atom_of, medium_of, long_of, form_of, lead_of, token_of, token_at}
use Rattle.token.proofs.Laws.{lt-or-le}
use Rattle.token.proofs.Tokens.{token-none}
use Rattle.value.specs.Value.{Atom, int, bytes}
use Rattle.value.specs.Ahead.{Any, Has}

-- P is true of an integer wherever it stands, of bytes that lie between, and from further out
module _ (P : ℕ → ℕ → Atom → Type 0)
    (of-int : (p q v : ℕ) → P p q (int v))
    (of-bytes : (p q b n : ℕ) → p < b → b + n ≤ q → P p q (bytes b n))
    (further : (p p' q : ℕ) (a : Atom) → p ≤ p' → P p' q a → P p q a) where
  abbrev Held : ℕ → ℕ → Token → Type 0
  Held = Has P

  wider : (p p' n n' : ℕ) (t : Token) → p ≤ p' → n' ≤ n → Held p' n' t → Held p n t
  wider p p' n n' (K.Int v q) h k a = (omega arith, omega arith, further p p' q (int v) h a.2)
  wider p p' n n' (K.Bytes b m q) h k a = (omega arith, omega arith, further p p' q (bytes b m) h a.2)
  wider p p' n n' (K.Control c q) h k a = (omega arith, omega arith)
  wider p p' n n' K.End h k a = tt
  wider p p' n n' K.Broken h k a = tt

  atom-held : (p₀ p : ℕ) (k : Bool) (n : ℕ) (l : List ℕ) → p₀ < p → Held p₀ (p + length l) (atom_of k n p l)
  unfolding atom_of
  atom-held p₀ p true n l h = go (leb n (length l)) refl
    where
      go : (t : Bool) → leb n (length l) ≡ t → Held p₀ (p + length l) (cond t (K.Bytes p n (p + n)) K.Broken)
      go true e = let f = leb-true n (length l) e in (omega arith, omega arith, of-bytes _ _ p n h (omega arith))
      go false e = tt
  atom-held p₀ p false n l h = go (within 1 8 n) (leb n (length l)) refl
    where
      go : (t u : Bool) → leb n (length l) ≡ u → Held p₀ (p + length l) (cond (t && u) (K.Int (be_val 0 (take n l)) (p + n)) K.Broken)
      go true true e = let f = leb-true n (length l) e in (omega arith, omega arith, of-int _ _ _)
      go true false e = tt
      go false u e = tt

  form-held : (p₀ p : ℕ) (k : Lead) (b : ℕ) (l : List ℕ) (t : Token) → p₀ < p → Held p (p + length l) t → Held p₀ (p + length l) (form_of k b p l t)
  unfolding form_of medium_of long_of
  form-held p₀ p L.Tiny b l t h a = (h, omega arith, of-int _ _ _)
  form-held p₀ p (L.Short k n) b l t h a = atom-held p₀ p k n l h
  form-held p₀ p (L.Medium k g) b [] t h a = tt
  form-held p₀ p (L.Medium k g) b (x ∷ l) t h a = wider p₀ p₀ _ _ (atom_of k (g * 256 + x) (p + 1) l) (omega arith) (omega arith) (atom-held p₀ (p + 1) k (g * 256 + x) l (omega arith))
  form-held p₀ p (L.Long k) b [] t h a = tt
  form-held p₀ p (L.Long k) b (x ∷ []) t h a = tt
  form-held p₀ p (L.Long k) b (x ∷ y ∷ []) t h a = tt
  form-held p₀ p (L.Long k) b (x ∷ y ∷ z ∷ l) t h a =
      let n = x * 65536 + y * 256 + z in
      wider p₀ p₀ _ _ (atom_of k n (p + 3) l) (omega arith) (omega arith) (atom-held p₀ (p + 3) k n l (omega arith))
  form-held p₀ p L.Control b l t h a = (h, omega arith)
  form-held p₀ p L.Empty b l t h a = wider p₀ p _ _ t (omega arith) (omega arith) a
  form-held p₀ p L.Broken b l t h a = tt

  list_held : (p : ℕ) (l : List ℕ) → Held p (p + length l) (token_of p l)
  unfolding token_of
  list_held p [] = tt
  list_held p (b ∷ l) =
      wider p p _ _ (form_of (lead_of b) b (p + 1) l (token_of (p + 1) l)) (omega arith) (omega arith)
      (form-held p (p + 1) (lead_of b) b l (token_of (p + 1) l) (omega arith) (list_held (p + 1) l))

  pub token-held : (s : List ℕ) (p : ℕ) → Has P p (length s) (token_at s p)
  token-held s p = ⊎_elim
      (λ (h : p < length s).
      let e : p + length (drop p s) ≤ length s = rw length-drop (omega arith) in
      wider p p _ _ (token_at s p) (omega arith) e (list_held p (drop p s)))
      (λ (h : length s ≤ p). rw (token-none s p h) tt)
      (lt-or-le p (length s))

pub token-ahead : (s : List ℕ) (p : ℕ) → Has Any p (length s) (token_at s p)
token-ahead = token-held Any (λ p q v. tt) (λ p q b n h k. tt) (λ p p' q a h x. tt)
