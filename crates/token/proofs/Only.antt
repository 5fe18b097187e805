-- Nothing but what has the form of a token is read.
use Prim.Native.Nat.{ℕ, suc, ◌+◌, ◌*◌, ◌≤◌, ◌<◌}
use mathlib.Core.Path.{◌≡◌, refl, sym, ap, ◌∙◌}
use mathlib.Core.List.{List, [], ◌∷◌, ◌++◌, append_assoc}
use mathlib.Core.Bool.{Bool, true, false, ◌&&◌, cond}
use native.Mathlib.Omega.{arith}
use lib.ListN.{length, take, drop, get_or, length-append, take-append-drop}
use lib.Seq.{length-take-le, get_or-drop}
use lib.Dec.{leb}
use borrow.Author.Tests.{leb-true}
use Rattle.token.specs.declared.Lead.{Lead}
use Rattle.token.specs.declared.Lead.TheVariants as L
use Rattle.token.specs.declared.Token.{Token}
use Rattle.token.specs.declared.Token.TheVariants as K
use Rattle.token.specs.Bytes.{within, be_val}
use Rattle.token.specs.Token.{lead_of, atom_of, medium_of, long_of, form_of, token_of, token_at}
use Rattle.token.specs.Exact.{worth, Word, IntSize, Form, Stands, Stood}
use Rattle.token.specs.Exact as X
use Rattle.token.proofs.Round.{range}
use Rattle.token.proofs.Worth.{be-worth}
use Rattle.token.proofs.Table.{Byte, byte_of}
use Rattle.token.proofs.Taken.{rest_of}

-- what stands before the n bytes of an atom
abbrev Heads : Bool → ℕ → List ℕ → Type 0
Heads true n a = (bs : List ℕ) → length bs ≡ n → Form (a ++ bs) (X.bytes bs)
Heads false n a = (bs : List ℕ) → length bs ≡ n → IntSize bs → Form (a ++ bs) (X.int (worth bs))

module _ (s : List ℕ) (p : ℕ) where
  -- a token at p, with no empty one before it
  at_once : {w : Word} (c r : List ℕ) (q : ℕ) → drop p s ≡ c ++ r → Form c w → q ≡ p + length c → Stands s p w q
  at_once c r q e f h = record { empties = 0; token = c; rest = r; here = e; form = f; end = omega arith }

  module _ (a l : List ℕ) (b : ℕ) (here : drop p s ≡ a ++ l) (behind : b ≡ p + length a) (n : ℕ) (fits : n ≤ length l) where
    count : length (take n l) ≡ n
    count = length-take-le n l fits

    split : drop p s ≡ (a ++ take n l) ++ drop n l
    split = here ∙ rw append_assoc (rw (take-append-drop n l))

    end : b + n ≡ p + length (a ++ take n l)
    end = rw (length-append, count) (omega arith)

    there : take n (drop b s) ≡ take n l
    there = rw (rest_of s a l p b here behind)

  -- an atom behind a
  atom-stood : (a l : List ℕ) (b : ℕ) → drop p s ≡ a ++ l → b ≡ p + length a → (k : Bool) (n : ℕ) → Heads k n a → Stood s p (atom_of k n b l)
  unfolding atom_of
  atom-stood a l b e h true n f = go (leb n (length l)) refl
    where
      go : (t : Bool) → leb n (length l) ≡ t → Stood s p (cond t (K.Bytes b n (b + n)) K.Broken)
      go true i =
          let g = leb-true n (length l) i in
          (rw (there a l b e h n g) (at_once (a ++ take n l) (drop n l) (b + n) (split a l b e h n g) (f (take n l) (count a l b e h n g)) (end a l b e h n g)), refl)
      go false i = tt
  atom-stood a l b e h false n f = go (within 1 8 n) (leb n (length l)) refl refl
    where
      go : (t u : Bool) → within 1 8 n ≡ t → leb n (length l) ≡ u → Stood s p (cond (t && u) (K.Int (be_val 0 (take n l)) (b + n)) K.Broken)
      go true true d i =
          let g = leb-true n (length l) i in
          let c = count a l b e h n g in
          let r = range 1 8 n d in
          rw (be-worth (take n l)) (at_once (a ++ take n l) (drop n l) (b + n) (split a l b e h n g) (f (take n l) c (omega arith, omega arith)) (end a l b e h n g))
      go true false d i = tt
      go false u d i = tt

  short : (k : Bool) (n b : ℕ) → Byte b (L.Short k n) → Heads k n (b ∷ [])
  short true n b h = λ bs e. rw (h.0, ← e) (X.short_bytes bs (omega arith))
  short false n b h = λ bs e i. rw (h, ← e) (X.short_int bs i)

  medium : (k : Bool) (g b x : ℕ) → Byte b (L.Medium k g) → Heads k (g * 256 + x) (b ∷ x ∷ [])
  medium true g b x h = λ bs e. rw h.0 (X.medium_bytes g x bs h.1 e)
  medium false g b x h = λ bs e i. rw h.0 (X.medium_int g x bs h.1 e i)

  long : (k : Bool) (b x y z : ℕ) → Byte b (L.Long k) → Heads k (x * 65536 + y * 256 + z) (b ∷ x ∷ y ∷ z ∷ [])
  long true b x y z h = λ bs e. rw h (X.long_bytes x y z bs e)
  long false b x y z h = λ bs e i. rw h (X.long_int x y z bs e i)

  -- one more empty token
  later : (l : List ℕ) (t : Token) → drop p s ≡ 0xff ∷ l → Stood s (p + 1) t → Stood s p t
  later l t e = go t
    where
      next : drop (p + 1) s ≡ l
      next = rest_of s (0xff ∷ []) l p (p + 1) e refl

      more : {w : Word} {q : ℕ} → Stands s (p + 1) w q → Stands s p w q
      more st = record {
        empties = suc st.empties;
        token = st.token;
        rest = st.rest;
        here = e ∙ ap (λ (m : List ℕ). 0xff ∷ m) (sym next ∙ st.here);
        form = st.form;
        end = omega (arith, st.end);
      }

      go : (t : Token) → Stood s (p + 1) t → Stood s p t
      go (K.Int v q) h = more h
      go (K.Bytes b n q) h = (more h.0, h.1)
      go (K.Control c q) h = more h
      go K.End h = (suc h.0, e ∙ ap (λ (m : List ℕ). 0xff ∷ m) (sym next ∙ h.1))
      go K.Broken h = tt

  form-stood : (k : Lead) (b : ℕ) (l : List ℕ) (t : Token) → Byte b k → drop p s ≡ b ∷ l → Stood s (p + 1) t → Stood s p (form_of k b (p + 1) l t)
  unfolding form_of medium_of long_of
  form-stood L.Tiny b l t h e r = at_once (b ∷ []) l (p + 1) e (X.tiny b h) refl
  form-stood (L.Short k n) b l t h e r = atom-stood (b ∷ []) l (p + 1) e refl k n (short k n b h)
  form-stood (L.Medium k g) b [] t h e r = tt
  form-stood (L.Medium k g) b (x ∷ l) t h e r = atom-stood (b ∷ x ∷ []) l (p + 1 + 1) e (omega arith) k (g * 256 + x) (medium k g b x h)
  form-stood (L.Long k) b [] t h e r = tt
  form-stood (L.Long k) b (x ∷ []) t h e r = tt
  form-stood (L.Long k) b (x ∷ y ∷ []) t h e r = tt
  form-stood (L.Long k) b (x ∷ y ∷ z ∷ l) t h e r = atom-stood (b ∷ x ∷ y ∷ z ∷ []) l (p + 1 + 3) e (omega arith) k (x * 65536 + y * 256 + z) (long k b x y z h)
  form-stood L.Control b l t h e r = at_once (b ∷ []) l (p + 1) e (X.mark b h) refl
  form-stood L.Empty b l t h e r = later l t (rw h at e) r
  form-stood L.Broken b l t h e r = tt

-- from p on, byte by byte
stood : (s : List ℕ) → ((i : ℕ) → get_or s i 0 < 256) → (l : List ℕ) (p : ℕ) → drop p s ≡ l → Stood s p (token_of p l)
unfolding token_of
stood s h [] p e = (0, e)
stood s h (b ∷ l) p e =
    let g : b < 256 = rw (← get_or-drop p s 0 0, e) at (h (p + 0)) in
    form-stood s p (lead_of b) b l (token_of (p + 1) l) (byte_of b g) e (stood s h l (p + 1) (rest_of s (b ∷ []) l p (p + 1) e refl))

pub only : (s : List ℕ) (p : ℕ) → ((i : ℕ) → get_or s i 0 < 256) → Stood s p (token_at s p)
only s p h = stood s h (drop p s) p refl
