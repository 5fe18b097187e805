-- What has the form of a token is read as what it says, with empty tokens before it and anything after it.
use Prim.Native.Nat.{ℕ, zero, suc, ◌+◌, ◌-◌, ◌*◌, ◌≤◌}
use mathlib.Core.Path.{◌≡◌, refl, ap, ◌∙◌}
use mathlib.Core.List.{List, [], ◌∷◌, ◌++◌, append_assoc, append-nil}
use mathlib.Core.Bool.{true, false}
use native.Mathlib.Omega.{arith}
use native.Mathlib.Nat.{add-zero}
use lib.ListN.{length, take, drop, replicate, length-append, length-replicate}
use lib.Seq.{take_at, drop-drop, drop-append_seam}
use Rattle.token.specs.declared.Token.{Token}
use Rattle.token.specs.declared.Token.TheVariants as K
use Rattle.token.specs.Bytes.{within}
use Rattle.token.specs.Token.{is_control, lead_of, form_of, atom_of, token_of, token_at}
use Rattle.token.specs.Exact.{worth, Word, IntSize, Form, Reads, Stands}
use Rattle.token.specs.Exact as X
use Rattle.token.proofs.Leads as Leads
use Rattle.token.proofs.Worth.{be-worth}
use Rattle.token.proofs.Tokens.{atom-int, atom-bytes}
use Rattle.token.proofs.Round.{is-tiny, is-short, is-medium, is-long, is_control_lem, range-control}

-- ---- the empty tokens
pub skip : (n p : ℕ) (l : List ℕ) → token_of p (replicate n 0xff ++ l) ≡ token_of (p + n) l
unfolding token_of form_of lead_of within is_control
skip zero p l = rw (add-zero p)
skip (suc n) p l =
    let e : p + 1 + n ≡ p + suc n = omega arith in
    rw e at (skip n (p + 1) l)

-- ---- the token itself
-- the token t says w and ends at q, where its bytes end too
abbrev Told : Word → ℕ → Token → Type 0
Told (X.int v) q t = t ≡ K.Int v q
Told (X.bytes bs) q t = (b : ℕ) × (t ≡ K.Bytes b (length bs) q) × (b + length bs ≡ q)
Told (X.control c) q t = t ≡ K.Control c q

-- an atom, whatever says how many bytes it has
module _ (bs r : List ℕ) (n p q : ℕ) (count : length bs ≡ n) (ends : p + length bs ≡ q) where
  fits : n ≤ length (bs ++ r)
  fits = rw length-append (omega arith)

  told-int : IntSize bs → Told (X.int (worth bs)) q (atom_of false n p (bs ++ r))
  told-int i = rw (← count, ← ends) (atom-int (length bs) p (bs ++ r) (rw count fits) i.0 i.1 ∙ rw (take_at bs r (length bs) refl, be-worth bs))

  told-bytes : Told (X.bytes bs) q (atom_of true n p (bs ++ r))
  told-bytes = (p, rw (← count, ← ends) (atom-bytes (length bs) p (bs ++ r) (rw count fits)), ends)

-- by the first byte
pub told : {c : List ℕ} {w : Word} → Form c w → (p : ℕ) (r : List ℕ) → Told w (p + length c) (token_of p (c ++ r))
told (X.tiny b h) p r = is-tiny p b r (Leads.tiny b (omega arith) (omega arith))
told (X.short_int bs i) p r =
    let e : 0x80 + length bs - 0x80 ≡ length bs = omega arith in
    rw (is-short p (0x80 + length bs) (bs ++ r) false (length bs) (rw e at (Leads.short_int (0x80 + length bs) (omega arith) (omega arith))))
    (told-int bs r (length bs) (p + 1) (p + suc (length bs)) refl (omega arith) i)
told (X.short_bytes bs h) p r =
    let e : 0xa0 + length bs - 0xa0 ≡ length bs = omega arith in
    rw (is-short p (0xa0 + length bs) (bs ++ r) true (length bs) (rw e at (Leads.short_bytes (0xa0 + length bs) (omega arith) (omega arith))))
    (told-bytes bs r (length bs) (p + 1) (p + suc (length bs)) refl (omega arith))
told (X.medium_int h x bs l m i) p r =
    let e : 0xc0 + h - 0xc0 ≡ h = omega arith in
    rw (is-medium p (0xc0 + h) (bs ++ r) false h x (rw e at (Leads.medium_int (0xc0 + h) (omega arith) (omega arith))))
    (told-int bs r (h * 256 + x) (p + 1 + 1) (p + suc (suc (length bs))) m (omega arith) i)
told (X.medium_bytes h x bs l m) p r =
    let e : 0xd0 + h - 0xd0 ≡ h = omega arith in
    rw (is-medium p (0xd0 + h) (bs ++ r) true h x (rw e at (Leads.medium_bytes (0xd0 + h) (omega arith) (omega arith))))
    (told-bytes bs r (h * 256 + x) (p + 1 + 1) (p + suc (suc (length bs))) m (omega arith))
told (X.long_int x y z bs m i) p r =
    rw (is-long p 0xe0 (bs ++ r) false x y z (Leads.long_int 0xe0 (omega arith) (omega arith)))
    (told-int bs r (x * 65536 + y * 256 + z) (p + 1 + 3) (p + suc (suc (suc (suc (length bs))))) m (omega arith) i)
told (X.long_bytes x y z bs m) p r =
    rw (is-long p 0xe2 (bs ++ r) true x y z (Leads.long_bytes 0xe2 (omega arith) (omega arith)))
    (told-bytes bs r (x * 65536 + y * 256 + z) (p + 1 + 3) (p + suc (suc (suc (suc (length bs))))) m (omega arith))
told (X.mark c h) p r = is_control_lem p c r (range-control c h)

-- ---- at a place of the input
-- bytes end where their token ends
behind : {c : List ℕ} {bs : List ℕ} → Form c (X.bytes bs) → (a : List ℕ) × (c ≡ a ++ bs)
behind (X.short_bytes bs h) = ((0xa0 + length bs) ∷ [], refl)
behind (X.medium_bytes h x bs l m) = ((0xd0 + h) ∷ x ∷ [], refl)
behind (X.long_bytes x y z bs m) = (0xe2 ∷ x ∷ y ∷ z ∷ [], refl)

-- a list that starts at p, from k further on
pub rest_of : (s a l : List ℕ) (p b : ℕ) → drop p s ≡ a ++ l → b ≡ p + length a → drop b s ≡ l
rest_of s a l p b e h = rw (h, ← drop-drop (length a) p s, e, drop-append_seam a l)

pub bytes-stand : (s : List ℕ) (p q b : ℕ) (bs : List ℕ) → Stands s p (X.bytes bs) q → b + length bs ≡ q → take (length bs) (drop b s) ≡ bs
bytes-stand s p q b bs st h =
    let a : List ℕ = (behind st.form).0 in
    let e : st.token ≡ a ++ bs = (behind st.form).1 in
    let f : List ℕ = replicate st.empties 0xff ++ a in
    let l : length f ≡ st.empties + length a = simp (length-append, length-replicate) in
    let here : drop p s ≡ f ++ (bs ++ st.rest) = st.here ∙ ap (λ (c : List ℕ). replicate st.empties 0xff ++ c ++ st.rest) e ∙ simp append_assoc in
    rw (rest_of s f (bs ++ st.rest) p b here (omega (arith, st.end, simp length-append at (ap length e)))) (take_at bs st.rest (length bs) refl)

pub taken : (s : List ℕ) (p : ℕ) (w : Word) (q : ℕ) → Stands s p w q → Reads s w q (token_at s p)
taken s p w q st = go w (rw (← read, ← st.end) at (told st.form (p + st.empties) st.rest)) st
  where
    read : token_at s p ≡ token_of (p + st.empties) (st.token ++ st.rest)
    read = ap (token_of p) (st.here ∙ append_assoc (replicate st.empties 0xff) st.token st.rest) ∙ skip st.empties p (st.token ++ st.rest)

    go : (w : Word) → Told w q (token_at s p) → Stands s p w q → Reads s w q (token_at s p)
    go (X.int v) t st = t
    go (X.bytes bs) t st = (t.0, t.1, bytes-stand s p q t.0 bs st t.2)
    go (X.control c) t st = t

pub ends : (s : List ℕ) (p n : ℕ) → drop p s ≡ replicate n 0xff → token_at s p ≡ K.End
unfolding token_of
ends s p n e = rw (e, ← append-nil {A = ℕ} (replicate n 0xff)) (skip n p [])
