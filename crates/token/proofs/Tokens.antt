-- `atom_of`, `medium_of`, `long_of` and `token_of` at what the tests of `atom` and `read` show.
use Prim.Native.Nat.{ℕ, suc, ◌+◌, ◌*◌, ◌-◌, ◌≤◌, ◌<◌}
use mathlib.Core.Path.{◌≡◌, refl}
use mathlib.Core.List.{List, [], ◌∷◌}
use mathlib.Core.Bool.{Bool, true, false}
use native.Mathlib.Omega.{arith}
use native.Mathlib.Numerals.{add-one}
use lib.ListN.{length, take, drop, get_or, length-drop, drop_of_length-le}
use lib.Seq.{drop-cons}
use borrow.Author.Tests.{le-leb, lt-leb}
use Rattle.token.specs.declared.Lead.TheVariants as L
use Rattle.token.specs.declared.Token.TheVariants as K
use Rattle.token.specs.Bytes.{be_val}
use Rattle.token.specs.Token.{atom_of, medium_of, long_of, form_of, lead_of, token_of, token_at}
use Rattle.token.proofs.Laws.{and-f, inside, below, above}

pub atom-bytes : (n p : ℕ) (l : List ℕ) → n ≤ length l → atom_of true n p l ≡ K.Bytes p n (p + n)
unfolding atom_of
atom-bytes n p l h = simp (le-leb n (length l) h)

pub atom-int : (n p : ℕ) (l : List ℕ) → n ≤ length l → 1 ≤ n → n ≤ 8 → atom_of false n p l ≡ K.Int (be_val 0 (take n l)) (p + n)
unfolding atom_of
atom-int n p l h a b = simp (le-leb n (length l) h, inside 1 8 n a b)

pub atom-short : (k : Bool) (n p : ℕ) (l : List ℕ) → length l < n → atom_of k n p l ≡ K.Broken
unfolding atom_of
atom-short true n p l h = simp (lt-leb n (length l) h)
atom-short false n p l h = simp (lt-leb n (length l) h, and-f)

pub atom-none : (n p : ℕ) (l : List ℕ) → n < 1 → atom_of false n p l ≡ K.Broken
unfolding atom_of
atom-none n p l h = simp (below 1 8 n h)

pub atom-large : (n p : ℕ) (l : List ℕ) → 8 < n → atom_of false n p l ≡ K.Broken
unfolding atom_of
atom-large n p l h = simp (above 1 8 n h)

-- every atom
pub ruleset atoms = (atom-bytes, atom-int, atom-short, atom-none, atom-large, length-drop)

pub medium-at : (k : Bool) (h p : ℕ) (s : List ℕ) → p < length s → medium_of k h p (drop p s) ≡ atom_of k (h * 256 + get_or s p 0) (p + 1) (drop (p + 1) s)
unfolding medium_of
medium-at k h p s q = rw (drop-cons s p 0 q, add-one p)

pub medium-none : (k : Bool) (h p : ℕ) (s : List ℕ) → length s ≤ p → medium_of k h p (drop p s) ≡ K.Broken
unfolding medium_of
medium-none k h p s q = rw (drop_of_length-le s q)

three : (s : List ℕ) (p : ℕ) → p + 2 < length s → drop p s ≡ get_or s p 0 ∷ get_or s (p + 1) 0 ∷ get_or s (p + 2) 0 ∷ drop (p + 3) s
three s p h =
    let e₁ : suc p ≡ p + 1 = omega arith in
    let e₂ : suc (p + 1) ≡ p + 2 = omega arith in
    let e₃ : suc (p + 2) ≡ p + 3 = omega arith in
    rw (drop-cons s p 0 (omega arith), e₁, drop-cons s (p + 1) 0 (omega arith), e₂, drop-cons s (p + 2) 0 h, e₃)

pub long-at : (k : Bool) (p : ℕ) (s : List ℕ) → p + 2 < length s → long_of k p (drop p s) ≡ atom_of k (get_or s p 0 * 65536 + get_or s (p + 1) 0 * 256 + get_or s (p + 2) 0) (p + 3) (drop (p + 3) s)
unfolding long_of
long-at k p s h = rw (three s p h)

few : (k : Bool) (p : ℕ) (l : List ℕ) → length l < 3 → long_of k p l ≡ K.Broken
unfolding long_of
few k p [] h = refl
few k p (x ∷ []) h = refl
few k p (x ∷ y ∷ []) h = refl
few k p (x ∷ y ∷ z ∷ l) h = absurd (omega arith)

pub long-few : (k : Bool) (p : ℕ) (s : List ℕ) → length s - p < 3 → long_of k p (drop p s) ≡ K.Broken
long-few k p s h = few k p (drop p s) (rw length-drop h)

pub token-at : (s : List ℕ) (i : ℕ) → i < length s → token_at s i ≡ form_of (lead_of (get_or s i 0)) (get_or s i 0) (i + 1) (drop (i + 1) s) (token_at s (i + 1))
unfolding token_of
token-at s i h = rw (drop-cons s i 0 h, add-one i)

pub token-none : (s : List ℕ) (i : ℕ) → length s ≤ i → token_at s i ≡ K.End
unfolding token_of
token-none s i h = rw (drop_of_length-le s h)

-- the token by what its first byte says
module _ (s : List ℕ) (i : ℕ) where
  pub tiny-at : i < length s → lead_of (get_or s i 0) ≡ L.Tiny → token_at s i ≡ K.Int (get_or s i 0) (i + 1)
  unfolding form_of
  tiny-at h e = rw (token-at s i h, e)

  pub short-at : (k : Bool) (n : ℕ) → i < length s → lead_of (get_or s i 0) ≡ L.Short k n → token_at s i ≡ atom_of k n (i + 1) (drop (i + 1) s)
  unfolding form_of
  short-at k n h e = rw (token-at s i h, e)

  pub medium-cut : (k : Bool) (g : ℕ) → i < length s → length s ≤ i + 1 → lead_of (get_or s i 0) ≡ L.Medium k g → token_at s i ≡ K.Broken
  unfolding form_of
  medium-cut k g h q e = rw (token-at s i h, e) (medium-none k g (i + 1) s q)

  pub medium-whole : (k : Bool) (g : ℕ) → i + 1 < length s → lead_of (get_or s i 0) ≡ L.Medium k g
      → token_at s i ≡ atom_of k (g * 256 + get_or s (i + 1) 0) (i + 1 + 1) (drop (i + 1 + 1) s)
  unfolding form_of
  medium-whole k g h e = rw (token-at s i (omega arith), e) (medium-at k g (i + 1) s h)

  pub long-cut : (k : Bool) → i < length s → length s - (i + 1) < 3 → lead_of (get_or s i 0) ≡ L.Long k → token_at s i ≡ K.Broken
  unfolding form_of
  long-cut k h q e = rw (token-at s i h, e) (long-few k (i + 1) s q)

  pub long-whole : (k : Bool) → i + 1 + 2 < length s → lead_of (get_or s i 0) ≡ L.Long k
      → token_at s i ≡ atom_of k (get_or s (i + 1) 0 * 65536 + get_or s (i + 1 + 1) 0 * 256 + get_or s (i + 1 + 2) 0) (i + 1 + 3) (drop (i + 1 + 3) s)
  unfolding form_of
  long-whole k h e = rw (token-at s i (omega arith), e) (long-at k (i + 1) s h)

  pub control-at : i < length s → lead_of (get_or s i 0) ≡ L.Control → token_at s i ≡ K.Control (get_or s i 0) (i + 1)
  unfolding form_of
  control-at h e = rw (token-at s i h, e)

  pub empty-at : i < length s → lead_of (get_or s i 0) ≡ L.Empty → token_at s i ≡ token_at s (i + 1)
  unfolding form_of
  empty-at h e = rw (token-at s i h, e)

  pub broken-at : i < length s → lead_of (get_or s i 0) ≡ L.Broken → token_at s i ≡ K.Broken
  unfolding form_of
  broken-at h e = rw (token-at s i h, e)

-- every token
pub ruleset tokens = (token-none, tiny-at, short-at, medium-whole, long-whole, control-at, empty-at, broken-at)
