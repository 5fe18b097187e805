-- No form that is read is shorter than the one that is written, none runs past the input, and none holds more bytes than can be written.
use Prim.Native.Nat.{ℕ, suc, ◌+◌, ◌*◌, ◌%◌, ◌^◌, ◌≤◌, ◌<◌}
use mathlib.Core.Path.{◌≡◌, refl}
use mathlib.Core.List.{List, [], ◌∷◌}
use mathlib.Core.Bool.{Bool, true, false, ◌&&◌, cond}
use mathlib.Core.Logic.{⊎_elim}
use native.Mathlib.Omega.{arith}
use native.Mathlib.Nat.{mod-lt}
use lib.ListN.{length, take, drop, length-drop}
use lib.Seq.{get_or-drop, length-take-le}
use lib.Dec.{leb, eqb, lit<}
use borrow.Author.Tests.{leb-true}
use Rattle.token.specs.declared.Lead.{Lead}
use Rattle.token.specs.declared.Lead.TheVariants as L
use Rattle.token.specs.declared.Token.{Token}
use Rattle.token.specs.declared.Token.TheVariants as K
use Rattle.token.specs.Bytes.{within, be_val}
use Rattle.token.specs.Token.{is_control, atom_of, medium_of, long_of, form_of, lead_of, token_of, token_at, bit}
use Rattle.token.specs.Write.{enc_int, head_of, max_bytes}
use Rattle.token.specs.Laws.{Takes, shortest, Shortest}
use Rattle.token.proofs.Laws.{lt-or-le}
use Rattle.token.proofs.Tokens.{token-none}
use Rattle.token.proofs.Ahead.{Small, be-small}
use Rattle.token.proofs.Writes.{cond-all}
use Rattle.token.proofs.Forms.{sized, tiny-length, short-length, len-one, head-some, bytes-length}
use Rattle.token.proofs.Round.{range}

-- ---- how long the writer's form is at most
pub int-least : (v n : ℕ) → 1 ≤ n → v < 256 ^ n → length (enc_int v) ≤ n + 1
int-least v n h k = ⊎_elim
    (λ (l : v < 64). omega (arith, tiny-length v l))
    (λ (l : 64 ≤ v). omega (arith, short-length v l, (sized v).3 n h k))
    (lt-or-le v 64)

-- ---- what the first byte holds
abbrev Holds : ℕ → Lead → Type 0
Holds b L.Tiny = b < 64
Holds b (L.Short k n) = n < 16
Holds b (L.Medium k h) = h < 8
Holds b (L.Long k) = Unit {0}
Holds b L.Control = Unit {0}
Holds b L.Empty = Unit {0}
Holds b L.Broken = Unit {0}

holds : (b : ℕ) → Holds b (lead_of b)
unfolding lead_of
holds b =
    cond-all (Holds b) (within 0x00 0x3f b) L.Tiny _ (λ e. let r = (range 0x00 0x3f b e).1 in omega arith) λ _.
    cond-all (Holds b) (within 0x80 0xbf b) _ _ (λ _. cond-all (Holds b) (bit 16 b) L.Broken (L.Short (bit 32 b) (b % 16)) (λ _. tt) (λ _. mod-lt b {m = 16} (lit< tt))) λ _.
    cond-all (Holds b) (within 0xc0 0xdf b) _ _ (λ _. cond-all (Holds b) (bit 8 b) L.Broken (L.Medium (bit 16 b) (b % 8)) (λ _. tt) (λ _. mod-lt b {m = 8} (lit< tt))) λ _.
    cond-all (Holds b) (within 0xe0 0xe3 b) _ _ (λ _. cond-all (Holds b) (bit 1 b) L.Broken (L.Long (bit 2 b)) (λ _. tt) (λ _. tt)) λ _.
    cond-all (Holds b) (is_control b) L.Control _ (λ _. tt) λ _.
    cond-all (Holds b) (eqb b 0xff) L.Empty L.Broken (λ _. tt) (λ _. tt)

-- ---- from p the token t takes at least what the writer takes, it ends within n, and its bytes are not too many for an atom
abbrev Spans : ℕ → ℕ → Token → Type 0
Spans p n (K.Int v q) = (p + length (enc_int v) ≤ q) × (q ≤ n)
Spans p n (K.Bytes st len q) = (p + length (head_of len) + len ≤ q) × (q ≤ n) × (st + len ≡ q) × (len < max_bytes)
Spans p n (K.Control c q) = (p + 1 ≤ q) × (q ≤ n)
Spans p n K.End = Unit {0}
Spans p n K.Broken = Unit {0}

wider : (p p' n n' : ℕ) (t : Token) → p ≤ p' → n' ≤ n → Spans p' n' t → Spans p n t
wider p p' n n' (K.Int v q) h k a = (omega arith, omega arith)
wider p p' n n' (K.Bytes st len q) h k a = (omega arith, omega arith, a.2, a.3)
wider p p' n n' (K.Control c q) h k a = (omega arith, omega arith)
wider p p' n n' K.End h k a = tt
wider p p' n n' K.Broken h k a = tt

atom-spans : (p₀ p : ℕ) (k : Bool) (n : ℕ) (l : List ℕ) → p₀ + length (head_of n) ≤ p → n < max_bytes → Small l → Spans p₀ (p + length l) (atom_of k n p l)
unfolding atom_of
atom-spans p₀ p true n l u m s =
    cond-all (Spans p₀ (p + length l)) (leb n (length l)) (K.Bytes p n (p + n)) K.Broken (λ e. let f = leb-true n (length l) e in (omega arith, omega arith, refl, m)) (λ _. tt)
atom-spans p₀ p false n l u m s = go (within 1 8 n) (leb n (length l)) refl refl
  where
    go : (t w : Bool) → within 1 8 n ≡ t → leb n (length l) ≡ w → Spans p₀ (p + length l) (cond (t && w) (K.Int (be_val 0 (take n l)) (p + n)) K.Broken)
    go true true d e =
        let f = leb-true n (length l) e in
        let g = (head-some n).0 in
        let i = int-least (be_val 0 (take n l)) n (range 1 8 n d).0 (be-small n l 0 0 n s (lit< tt) (omega arith)) in
        (omega arith, omega arith)
    go true false d e = tt
    go false w d e = tt

form-spans : (p : ℕ) (k : Lead) (b : ℕ) (l : List ℕ) (t : Token) → Holds b k → Small l → Spans (p + 1) (p + 1 + length l) t → Spans p (p + suc (length l)) (form_of k b (p + 1) l t)
unfolding form_of medium_of long_of
form-spans p L.Tiny b l t h s a = (omega (arith, tiny-length b h), omega arith)
form-spans p (L.Short k n) b l t h s a =
    wider p p _ _ (atom_of k n (p + 1) l) (omega arith) (omega arith) (atom-spans p (p + 1) k n l (omega (arith, len-one n h)) (omega arith) s)
form-spans p (L.Medium k g) b [] t h s a = tt
form-spans p (L.Medium k g) b (x ∷ l) t h s a =
    let n : ℕ = g * 256 + x in
    let u : n < 2048 = omega (arith, s 0) in
    wider p p _ _ (atom_of k n (p + 1 + 1) l) (omega arith) (omega arith) (atom-spans p (p + 1 + 1) k n l (omega (arith, (head-some n).1 u)) (omega arith) (λ i. s (suc i)))
form-spans p (L.Long k) b [] t h s a = tt
form-spans p (L.Long k) b (x ∷ []) t h s a = tt
form-spans p (L.Long k) b (x ∷ y ∷ []) t h s a = tt
form-spans p (L.Long k) b (x ∷ y ∷ z ∷ l) t h s a =
    let n : ℕ = x * 65536 + y * 256 + z in
    let u : n < max_bytes = omega (arith, s 0, s 1, s 2) in
    wider p p _ _ (atom_of k n (p + 1 + 3) l) (omega arith) (omega arith) (atom-spans p (p + 1 + 3) k n l (omega (arith, (head-some n).2)) u (λ i. s (suc (suc (suc i)))))
form-spans p L.Control b l t h s a = (omega arith, omega arith)
form-spans p L.Empty b l t h s a = wider p (p + 1) _ _ t (omega arith) (omega arith) a
form-spans p L.Broken b l t h s a = tt

list-spans : (p : ℕ) (l : List ℕ) → Small l → Spans p (p + length l) (token_of p l)
unfolding token_of
list-spans p [] s = tt
list-spans p (b ∷ l) s = form-spans p (lead_of b) b l (token_of (p + 1) l) (holds b) (λ i. s (suc i)) (list-spans (p + 1) l (λ i. s (suc i)))

spans : (s : List ℕ) (p : ℕ) → Small s → Spans p (length s) (token_at s p)
spans s p b = ⊎_elim
    (λ (h : p < length s).
    let e : p + length (drop p s) ≤ length s = rw length-drop (omega arith) in
    wider p p _ _ (token_at s p) (omega arith) e (list-spans p (drop p s) (λ i. rw get_or-drop (b (p + i)))))
    (λ (h : length s ≤ p). rw (token-none s p h) tt)
    (lt-or-le p (length s))

pub least : Shortest
least s p b = go (token_at s p) (spans s p b)
  where
    go : (t : Token) → Spans p (length s) t → Takes p (shortest s t) (length s) t
    go (K.Int v q) a = a
    go (K.Bytes st len q) a =
        let l : length (take len (drop st s)) ≡ len = length-take-le len (drop st s) (rw length-drop (omega arith)) in
        let e : length (head_of (length (take len (drop st s)))) ≡ length (head_of len) = rw l in
        (omega (arith, bytes-length (take len (drop st s))), a.1)
    go (K.Control c q) a = a
    go K.End a = tt
    go K.Broken a = tt

-- bytes that are read lie in the input and are not too many for an atom
pub bytes_fit : (s : List ℕ) (p st len q : ℕ) → Small s → token_at s p ≡ K.Bytes st len q → (st + len ≤ length s) × (len < max_bytes)
bytes_fit s p st len q b e = let h : Spans p (length s) (K.Bytes st len q) = rw e at (spans s p b) in (omega arith, h.3)
