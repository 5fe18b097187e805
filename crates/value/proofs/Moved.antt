-- A token by what stands around it: its places move with it, and what follows a whole token changes nothing.
use Prim.Native.Nat.{ℕ, ◌+◌, ◌*◌}
use mathlib.Core.Path.{◌≡◌, refl, ap}
use mathlib.Core.List.{List, [], ◌∷◌, ◌++◌}
use mathlib.Core.Bool.{Bool, true, false, ◌&&◌, cond}
use native.Mathlib.Omega.{arith}
use lib.ListN.{length, take, length-append}
use lib.Seq.{take-append-le}
use lib.Dec.{leb}
use borrow.Author.Tests.{le-leb, leb-true}
use Rattle.token.specs.declared.Lead.{Lead}
use Rattle.token.specs.declared.Lead.TheVariants as L
use Rattle.token.specs.declared.Token.{Token}
use Rattle.token.specs.declared.Token.TheVariants as K
use Rattle.token.specs.Bytes.{within, be_val}
use Rattle.token.specs.Token.{atom_of, medium_of, long_of, form_of, lead_of, token_of}
use Rattle.token.specs.Laws.{moved}

-- ---- k further on
atom-moved : (k : ℕ) (b : Bool) (n p p' : ℕ) (l : List ℕ) → p' ≡ k + p → atom_of b n p' l ≡ moved k (atom_of b n p l)
unfolding atom_of
atom-moved k true n p p' l e = go (leb n (length l))
  where
    go : (t : Bool) → cond t (K.Bytes p' n (p' + n)) K.Broken ≡ moved k (cond t (K.Bytes p n (p + n)) K.Broken)
    go true = let f : p' + n ≡ k + (p + n) = omega arith in rw (f, e)
    go false = refl
atom-moved k false n p p' l e = go (within 1 8 n && leb n (length l))
  where
    go : (t : Bool) → cond t (K.Int (be_val 0 (take n l)) (p' + n)) K.Broken ≡ moved k (cond t (K.Int (be_val 0 (take n l)) (p + n)) K.Broken)
    go true = let f : p' + n ≡ k + (p + n) = omega arith in rw f
    go false = refl

form-moved : (k : ℕ) (x : Lead) (b p p' : ℕ) (l : List ℕ) (t t' : Token) → p' ≡ k + p → t' ≡ moved k t → form_of x b p' l t' ≡ moved k (form_of x b p l t)
unfolding form_of medium_of long_of
form-moved k L.Tiny b p p' l t t' e h = ap (K.Int b) e
form-moved k (L.Short y n) b p p' l t t' e h = atom-moved k y n p p' l e
form-moved k (L.Medium y g) b p p' [] t t' e h = refl
form-moved k (L.Medium y g) b p p' (x ∷ l) t t' e h = atom-moved k y (g * 256 + x) (p + 1) (p' + 1) l (omega arith)
form-moved k (L.Long y) b p p' [] t t' e h = refl
form-moved k (L.Long y) b p p' (x ∷ []) t t' e h = refl
form-moved k (L.Long y) b p p' (x ∷ w ∷ []) t t' e h = refl
form-moved k (L.Long y) b p p' (x ∷ w ∷ z ∷ l) t t' e h = atom-moved k y (x * 65536 + w * 256 + z) (p + 3) (p' + 3) l (omega arith)
form-moved k L.Control b p p' l t t' e h = ap (K.Control b) e
form-moved k L.Empty b p p' l t t' e h = h
form-moved k L.Broken b p p' l t t' e h = refl

pub token-moved : (k p p' : ℕ) (l : List ℕ) → p' ≡ k + p → token_of p' l ≡ moved k (token_of p l)
unfolding token_of
token-moved k p p' [] e = refl
token-moved k p p' (b ∷ l) e =
    form-moved k (lead_of b) b (p + 1) (p' + 1) l (token_of (p + 1) l) (token_of (p' + 1) l) (omega arith) (token-moved k (p + 1) (p' + 1) l (omega arith))

-- ---- with more after it
abbrev pub Whole : Token → Type 0
Whole (K.Int v q) = Unit {0}
Whole (K.Bytes b n q) = Unit {0}
Whole (K.Control c q) = Unit {0}
Whole K.End = ⊥
Whole K.Broken = ⊥

enough : (n : ℕ) (c l : List ℕ) → leb n (length c) ≡ true → (leb n (length (c ++ l)) ≡ true) × (take n (c ++ l) ≡ take n c)
enough n c l e =
    let h = leb-true n (length c) e in
    (le-leb n (length (c ++ l)) (rw length-append (omega arith)), take-append-le n c l h)

atom-prefix : (b : Bool) (n p : ℕ) (c l : List ℕ) → Whole (atom_of b n p c) → atom_of b n p (c ++ l) ≡ atom_of b n p c
unfolding atom_of
atom-prefix true n p c l w = go (leb n (length c)) refl w
  where
    go : (t : Bool) → leb n (length c) ≡ t → Whole (cond t (K.Bytes p n (p + n)) K.Broken) → cond (leb n (length (c ++ l))) (K.Bytes p n (p + n)) K.Broken ≡ cond t (K.Bytes p n (p + n)) K.Broken
    go true e x = rw (enough n c l e).0
    go false e x = absurd x
atom-prefix false n p c l w = go (within 1 8 n) (leb n (length c)) refl w
  where
    go : (u t : Bool) → leb n (length c) ≡ t → Whole (cond (u && t) (K.Int (be_val 0 (take n c)) (p + n)) K.Broken)
        → cond (u && leb n (length (c ++ l))) (K.Int (be_val 0 (take n (c ++ l))) (p + n)) K.Broken ≡ cond (u && t) (K.Int (be_val 0 (take n c)) (p + n)) K.Broken
    go true true e x = rw ((enough n c l e).0, (enough n c l e).1)
    go true false e x = absurd x
    go false t e x = absurd x

form-prefix : (x : Lead) (b p : ℕ) (c l : List ℕ) (t t' : Token) → Whole (form_of x b p c t) → (Whole t → t' ≡ t) → form_of x b p (c ++ l) t' ≡ form_of x b p c t
unfolding form_of medium_of long_of
form-prefix L.Tiny b p c l t t' w g = refl
form-prefix (L.Short y n) b p c l t t' w g = atom-prefix y n p c l w
form-prefix (L.Medium y h) b p [] l t t' w g = absurd w
form-prefix (L.Medium y h) b p (x ∷ c) l t t' w g = atom-prefix y (h * 256 + x) (p + 1) c l w
form-prefix (L.Long y) b p [] l t t' w g = absurd w
form-prefix (L.Long y) b p (x ∷ []) l t t' w g = absurd w
form-prefix (L.Long y) b p (x ∷ z ∷ []) l t t' w g = absurd w
form-prefix (L.Long y) b p (x ∷ z ∷ u ∷ c) l t t' w g = atom-prefix y (x * 65536 + z * 256 + u) (p + 3) c l w
form-prefix L.Control b p c l t t' w g = refl
form-prefix L.Empty b p c l t t' w g = g w
form-prefix L.Broken b p c l t t' w g = absurd w

pub token-prefix : (p : ℕ) (c l : List ℕ) → Whole (token_of p c) → token_of p (c ++ l) ≡ token_of p c
unfolding token_of
token-prefix p [] l w = absurd w
token-prefix p (b ∷ c) l w = form-prefix (lead_of b) b (p + 1) c l (token_of (p + 1) c) (token_of (p + 1) (c ++ l)) w (token-prefix (p + 1) c l)
