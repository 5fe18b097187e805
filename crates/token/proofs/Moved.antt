-- A token that is read further on is the same token with its places further on.
use Prim.Native.Nat.{ℕ, ◌+◌, ◌*◌}
use mathlib.Core.Path.{◌≡◌, refl}
use mathlib.Core.List.{List, [], ◌∷◌}
use mathlib.Core.Bool.{Bool, true, false, ◌&&◌, cond}
use native.Mathlib.Nat.{add_assoc}
use native.Mathlib.Omega.{arith}
use lib.ListN.{length, take}
use lib.Dec.{leb}
use Rattle.token.specs.declared.Lead.{Lead}
use Rattle.token.specs.declared.Lead.TheVariants as L
use Rattle.token.specs.declared.Token.{Token}
use Rattle.token.specs.declared.Token.TheVariants as K
use Rattle.token.specs.Bytes.{within, be_val}
use Rattle.token.specs.Token.{is_control, atom_of, medium_of, long_of, form_of, lead_of, token_of}
use Rattle.token.specs.Laws.{moved}

atom-moved : (d p : ℕ) (k : Bool) (n : ℕ) (l : List ℕ) → atom_of k n (d + p) l ≡ moved d (atom_of k n p l)
unfolding atom_of
atom-moved d p true n l = go (leb n (length l))
  where
    go : (t : Bool) → cond t (K.Bytes (d + p) n (d + p + n)) K.Broken ≡ moved d (cond t (K.Bytes p n (p + n)) K.Broken)
    go true = rw add_assoc
    go false = refl
atom-moved d p false n l = go (within 1 8 n && leb n (length l)) (be_val 0 (take n l))
  where
    go : (t : Bool) (v : ℕ) → cond t (K.Int v (d + p + n)) K.Broken ≡ moved d (cond t (K.Int v (p + n)) K.Broken)
    go true v = rw add_assoc
    go false v = refl

form-moved : (d p : ℕ) (k : Lead) (b : ℕ) (l : List ℕ) (t : Token) → form_of k b (d + p) l (moved d t) ≡ moved d (form_of k b p l t)
unfolding form_of medium_of long_of
form-moved d p L.Tiny b l t = refl
form-moved d p (L.Short k n) b l t = atom-moved d p k n l
form-moved d p (L.Medium k g) b [] t = refl
form-moved d p (L.Medium k g) b (x ∷ l) t = rw add_assoc (atom-moved d (p + 1) k (g * 256 + x) l)
form-moved d p (L.Long k) b [] t = refl
form-moved d p (L.Long k) b (x ∷ []) t = refl
form-moved d p (L.Long k) b (x ∷ y ∷ []) t = refl
form-moved d p (L.Long k) b (x ∷ y ∷ z ∷ l) t = rw (add_assoc d p 3) (atom-moved d (p + 3) k (x * 65536 + y * 256 + z) l)
form-moved d p L.Control b l t = refl
form-moved d p L.Empty b l t = refl
form-moved d p L.Broken b l t = refl

pub token-moved : (d p : ℕ) (l : List ℕ) → token_of (d + p) l ≡ moved d (token_of p l)
unfolding token_of
token-moved d p [] = refl
token-moved d p (b ∷ l) = rw (add_assoc d p 1, token-moved d (p + 1) l) (form-moved d (p + 1) (lead_of b) b l (token_of (p + 1) l))

pub token-skips : (p : ℕ) (l : List ℕ) → token_of p (0xff ∷ l) ≡ moved 1 (token_of p l)
unfolding token_of form_of lead_of within is_control
token-skips p l =
    let e : p + 1 ≡ 1 + p = omega arith in
    rw e (token-moved 1 p l)
