-- A token that is read ends past its start and within the input, and its contents lie within it.
use Prim.Native.Nat.{ℕ, zero, suc, ◌+◌, ◌*◌, ◌^◌, ◌≤◌, ◌<◌}
use mathlib.Core.Path.{◌≡◌, refl}
use mathlib.Core.List.{List, [], ◌∷◌}
use mathlib.Core.Bool.{Bool, true, false, ◌&&◌, cond}
use mathlib.Core.Logic.{⊎_elim}
use native.Mathlib.Omega.{arith}
use lib.ListN.{length, take, drop, get_or, length-drop}
use lib.Seq.{get_or-drop}
use lib.Dec.{leb, lit<, lit≤}
use native.Mathlib.Nat.{lt_of_lt_of_le}
use borrow.Author.Tests.{leb-true}
use Rattle.token.specs.declared.Lead.{Lead}
use Rattle.token.specs.declared.Lead.TheVariants as L
use Rattle.token.specs.declared.Token.{Token}
use Rattle.token.specs.declared.Token.TheVariants as K
use Rattle.token.specs.Bytes.{within, be_val}
use Rattle.token.specs.Token.{is_control, atom_of, medium_of, long_of, form_of, lead_of, token_of, token_at}
use Rattle.token.specs.Laws.{Lies}
use Rattle.token.proofs.Laws.{lt-or-le, room, grows}
use Rattle.token.proofs.Leads.{control-is}
use Rattle.token.proofs.Tokens.{token-none}

abbrev pub Small : List ℕ → Type 0
Small l = (i : ℕ) → get_or l i 0 < 256

-- what is shown of a token from p in an input that ends at n: it lies ahead, and where B holds, its value has its limits
abbrev Held : ℕ → ℕ → Type 0 → Token → Type 0
Held p n B (K.Int v q) = (p < q) × (q ≤ n) × (B → v < 2 ^ 64)
Held p n B (K.Bytes st len q) = (p < st) × (st + len ≡ q) × (p < q) × (q ≤ n)
Held p n B (K.Control c q) = (p < q) × (q ≤ n) × (B → is_control c ≡ true)
Held p n B K.End = Unit {0}
Held p n B K.Broken = Unit {0}

looser : {A B : Type 0} (p p' n n' : ℕ) (t : Token) → p ≤ p' → n' ≤ n → (A → B) → Held p' n' B t → Held p n A t
looser p p' n n' (K.Int v q) h k f a = (omega arith, omega arith, λ x. a.2 (f x))
looser p p' n n' (K.Bytes st len q) h k f a = (omega arith, a.1, omega arith, omega arith)
looser p p' n n' (K.Control c q) h k f a = (omega arith, omega arith, λ x. a.2 (f x))
looser p p' n n' K.End h k f a = tt
looser p p' n n' K.Broken h k f a = tt

-- n bytes after a number of i bytes make one of at most m
pub be-small : (n : ℕ) (l : List ℕ) (a i m : ℕ) → Small l → a < 256 ^ i → i + n ≤ m → be_val a (take n l) < 256 ^ m
unfolding be_val
be-small zero l a i m s h k = room i m a (omega arith) h
be-small (suc n) [] a i m s h k = room i m a (omega arith) h
be-small (suc n) (b ∷ l) a i m s h k = be-small n l (a * 256 + b) (i + 1) m (λ j. s (suc j)) (grows i a b h (s 0)) (omega arith)

atom-held : (p₀ p : ℕ) (k : Bool) (n : ℕ) (l : List ℕ) → p₀ < p → Held p₀ (p + length l) (Small l) (atom_of k n p l)
unfolding atom_of within
atom-held p₀ p true n l h = go (leb n (length l)) refl
  where
    go : (t : Bool) → leb n (length l) ≡ t → Held p₀ (p + length l) (Small l) (cond t (K.Bytes p n (p + n)) K.Broken)
    go true e = let f = leb-true n (length l) e in (h, refl, omega arith, omega arith)
    go false e = tt
atom-held p₀ p false n l h = go (leb 1 n) (leb n 8) (leb n (length l)) refl refl
  where
    go : (t u w : Bool) → leb n 8 ≡ u → leb n (length l) ≡ w → Held p₀ (p + length l) (Small l) (cond ((t && u) && w) (K.Int (be_val 0 (take n l)) (p + n)) K.Broken)
    go true true true d e =
        let f = leb-true n (length l) e in
        let g = leb-true n 8 d in
        (omega arith, omega arith, λ s. be-small n l 0 0 8 s (lit< tt) (omega arith))
    go true true false d e = tt
    go true false w d e = tt
    go false u w d e = tt

form-held : (p₀ p : ℕ) (k : Lead) (b : ℕ) (l : List ℕ) (t : Token) → p₀ < p → lead_of b ≡ k → Held p (p + length l) (Small l) t → Held p₀ (p + length l) (Small (b ∷ l)) (form_of k b p l t)
unfolding form_of medium_of long_of
form-held p₀ p L.Tiny b l t h e a = (h, omega arith, λ s. lt_of_lt_of_le (s 0) (lit≤ tt))
form-held p₀ p (L.Short k n) b l t h e a = looser p₀ p₀ _ _ (atom_of k n p l) (omega arith) (omega arith) (λ s i. s (suc i)) (atom-held p₀ p k n l h)
form-held p₀ p (L.Medium k g) b [] t h e a = tt
form-held p₀ p (L.Medium k g) b (x ∷ l) t h e a =
    looser p₀ p₀ _ _ (atom_of k (g * 256 + x) (p + 1) l) (omega arith) (omega arith) (λ s i. s (suc (suc i))) (atom-held p₀ (p + 1) k (g * 256 + x) l (omega arith))
form-held p₀ p (L.Long k) b [] t h e a = tt
form-held p₀ p (L.Long k) b (x ∷ []) t h e a = tt
form-held p₀ p (L.Long k) b (x ∷ y ∷ []) t h e a = tt
form-held p₀ p (L.Long k) b (x ∷ y ∷ z ∷ l) t h e a =
    let n = x * 65536 + y * 256 + z in
    looser p₀ p₀ _ _ (atom_of k n (p + 3) l) (omega arith) (omega arith) (λ s i. s (suc (suc (suc (suc i))))) (atom-held p₀ (p + 3) k n l (omega arith))
form-held p₀ p L.Control b l t h e a = (h, omega arith, λ s. control-is b (s 0) e)
form-held p₀ p L.Empty b l t h e a = looser p₀ p _ _ t (omega arith) (omega arith) (λ s i. s (suc i)) a
form-held p₀ p L.Broken b l t h e a = tt

list_held : (p : ℕ) (l : List ℕ) → Held p (p + length l) (Small l) (token_of p l)
unfolding token_of
list_held p [] = tt
list_held p (b ∷ l) =
    looser p p _ _ (form_of (lead_of b) b (p + 1) l (token_of (p + 1) l)) (omega arith) (omega arith) (λ s. s)
    (form-held p (p + 1) (lead_of b) b l (token_of (p + 1) l) (omega arith) refl (list_held (p + 1) l))

token-held : (s : List ℕ) (p : ℕ) → Held p (length s) (Small s) (token_at s p)
token-held s p = ⊎_elim
    (λ (h : p < length s).
    let e : p + length (drop p s) ≤ length s = rw length-drop (omega arith) in
    looser p p _ _ (token_at s p) (omega arith) e (λ b i. rw get_or-drop (b (p + i))) (list_held p (drop p s)))
    (λ (h : length s ≤ p). rw (token-none s p h) tt)
    (lt-or-le p (length s))

pub token-lies : (s : List ℕ) (p : ℕ) → ((i : ℕ) → get_or s i 0 < 256) → Lies p (token_at s p)
token-lies s p b = go (token_at s p) (token-held s p)
  where
    go : (t : Token) → Held p (length s) (Small s) t → Lies p t
    go (K.Int v q) a = a.2 b
    go (K.Bytes st len q) a = (a.0, a.1)
    go (K.Control c q) a = a.2 b
    go K.End a = tt
    go K.Broken a = tt
