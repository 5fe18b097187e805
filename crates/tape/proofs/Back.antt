-- What is written from a tape stands in the bytes, and what is read to a tape stands on it: the same value.
use Rattle.std.specs.Prelude.{Ok, Err, Result}
use Prim.Native.Nat.{ℕ, zero, suc, ◌+◌, ◌*◌, ◌/◌, ◌^◌, ◌≤◌, ◌<◌}
use mathlib.Core.Path.{◌≡◌, refl, sym, ap, ◌∙◌}
use mathlib.Core.List.{List, [], ◌∷◌, ◌++◌, append_assoc}
use mathlib.Core.Bool.{Bool, true, false, cond}
use native.Mathlib.Omega.{arith}
use lib.ListN.{length, drop, get_or, length-take, length-drop}
use lib.Seq.{get_or-drop}
use lib.Dec.{leb, lit≤}
use borrow.Author.Tests.{leb-true}
use Rattle.token.specs.Token.{token_at}
use Rattle.token.specs.Write.{max_bytes, put_end, put_all}
use Rattle.token.proofs.Least.{bytes_fit}
use Rattle.token.proofs.Writes.{told, all-fits, over-drop}
use Rattle.value.specs.Value.{int, bytes, Value, atom, list, named, Values, none, more}
use Rattle.value.specs.Read.{Out, ok, bad, value_at}
use Rattle.value.specs.Source.{shape_of, node_at, tree_at}
use Rattle.value.specs.Plain.{Plain, atom_in, plain_in, plains_in}
use Rattle.value.proofs.Nodes.{node_in, node-held, shape-int, shape-part, shape-control, part-ok}
use Rattle.tape.specs.declared.Took.{Took}
use Rattle.tape.specs.declared.TookError.{TookError}
use Rattle.tape.specs.declared.TookError.TheVariants as T
use Rattle.tape.specs.Write.{enc_value, Small, Within, AllWithin, wrote_end, wrote_all}
use Rattle.tape.specs.Words.{atom_words, words, took_end, took_all}
use Rattle.tape.specs.Laws.{Says, Below, Written, Laid}
use Rattle.tape.proofs.Rows.{Tok, leaf, mark, tok_to, toks, toks_all, Nests, AllNest, Row, All, all_join, all_split, row-all}
use Rattle.tape.proofs.Ran.{Holds, Stands, value_row, value-back}
use Rattle.tape.proofs.Flat.{flat, flat-one, tok_words, value-words, words-three, words-length}
use Rattle.tape.proofs.Nodes.{node-int, node-part}
use Rattle.tape.proofs.Stand.{behind, value_found}

-- ---- what a tape of words of 64 bits holds is within the limits
abbrev SmallTok : List ℕ → Tok → Type 0
SmallTok bs (leaf a) = Small (atom_in bs a)
SmallTok bs (mark c) = Unit {0}

node-small : (t bs : List ℕ) → Below (2 ^ 64) t → (p r : ℕ) (x : Tok) → node_at t (length bs) p ≡ tok_to x r → SmallTok bs x
unfolding atom_in
node-small t bs h p r (leaf (int v)) e = (node-int t (length bs) p v r e).1 h
node-small t bs h p r (leaf (bytes a b)) e = let g = node-part t (length bs) p a b r e in rw length-take (omega (arith, g.2))
node-small t bs h p r (mark c) e = tt

module _ (bs : List ℕ) where
  mutual
    unfolding toks plain_in

    within : (v : Value) (d : ℕ) → Nests v d → All (SmallTok bs) (toks v) → Within (plain_in bs v) d
    within (atom a) d n s = s.0
    within (list p vs) zero n s = n
    within (list p vs) (suc d) n s = all-within vs d n s.1
    within (named a v) zero n s = n
    within (named a v) (suc d) n s = (s.1.0, within v d n (all_split (SmallTok bs) (toks v) (mark 0xf3 ∷ []) s.1.1).0)

    all-within : (vs : Values) (d : ℕ) → AllNest vs d → All (SmallTok bs) (toks_all vs) → AllWithin (plains_in bs vs) d
    all-within none d n s = tt
    all-within (more v vs) d n s = let k = all_split (SmallTok bs) (toks v) (toks_all vs) s in (within v d n.0 k.0, all-within vs d n.1 k.1)

-- ---- what is read of bytes of 8 bits can be laid: its bytes lie in n bytes and are not too many for an atom, and its marks are those of values
abbrev Fit : ℕ → Tok → Type 0
Fit n (leaf (int v)) = Unit {0}
Fit n (leaf (bytes p m)) = (p + m ≤ n) × (m < max_bytes)
Fit n (mark c) = Unit {0}

abbrev Sound : ℕ → Tok → Type 0
Sound n (leaf a) = Fit n (leaf a)
Sound n (mark c) = (0xf0 ≤ c) × (c ≤ 0xf3)

token-fit : (s : List ℕ) → Below 256 s → (p r : ℕ) (x : Tok) → token_at s p ≡ tok_to x r → Fit (length s) x
token-fit s h p r (leaf (int v)) e = tt
token-fit s h p r (leaf (bytes a b)) e = bytes_fit s p a b r h e
token-fit s h p r (mark c) e = tt

module _ (n : ℕ) where
  mutual
    unfolding toks

    sound : (v : Value) → All (Fit n) (toks v) → All (Sound n) (toks v)
    sound (atom a) s = s
    sound (list p vs) s = ((lit≤ tt, lit≤ tt), all_sound vs s.1)
    sound (named a v) s =
        let k = all_split (Fit n) (toks v) (mark 0xf3 ∷ []) s.1.1 in
        ((lit≤ tt, lit≤ tt), (s.1.0, all_join (Sound n) (toks v) (mark 0xf3 ∷ []) (sound v k.0) ((lit≤ tt, lit≤ tt), tt)))

    all_sound : (vs : Values) → All (Fit n) (toks_all vs) → All (Sound n) (toks_all vs)
    all_sound none s = ((lit≤ tt, lit≤ tt), tt)
    all_sound (more v vs) s =
        let k = all_split (Fit n) (toks v) (toks_all vs) s in
        all_join (Sound n) (toks v) (toks_all vs) (sound v k.0) (all_sound vs k.1)

-- ---- where a row's words stand on a tape, the row stands
module _ (r : List ℕ) (m : ℕ) where
  node-laid : (k a b c : ℕ) (y : List ℕ) → drop (k * 3) r ≡ a ∷ b ∷ c ∷ y → node_at r m k ≡ shape_of m (k + 1) a b c
  node-laid k a b c y e =
      let l : k < length r / 3 = omega (arith, length-drop (k * 3) r, ap length e) in
      let f : (i : ℕ) → get_or r (k * 3 + i) 0 ≡ get_or (a ∷ b ∷ c ∷ y) i 0 = λ i. sym (get_or-drop (k * 3) r i 0) ∙ ap (λ (x : List ℕ). get_or x i 0) e in
      let z : k * 3 + 0 ≡ k * 3 = omega arith in
      node_in r m k l ∙ rw (rw z at (f 0), f 1, f 2)

  tok-laid : (x : Tok) (k : ℕ) (y : List ℕ) → Sound m x → drop (k * 3) r ≡ tok_words x ++ y → node_at r m k ≡ tok_to x (k + 1)
  unfolding atom_words
  tok-laid (leaf (int v)) k y s e = node-laid k 1 v 0 y e ∙ shape-int m (k + 1) 1 v 0 refl
  tok-laid (leaf (bytes a b)) k y s e = node-laid k 2 a b y e ∙ shape-part m (k + 1) 2 a b (λ (z : 2 ≡ 1). omega arith) refl ∙ part-ok m (k + 1) a b s.1 s.0
  tok-laid (mark c) k y s e = node-laid k c 0 0 y e ∙ shape-control m (k + 1) c 0 0 (λ (z : c ≡ 1). omega (arith, s.0)) (λ (z : c ≡ 2). omega (arith, s.0)) s.0 s.1

  row_laid : (xs : List Tok) (k q : ℕ) (y : List ℕ) → All (Sound m) xs → drop (k * 3) r ≡ flat tok_words xs ++ y → k + length xs ≡ q → Row (node_at r m) k xs q
  row_laid [] k q y s e f = omega arith
  row_laid (x ∷ xs) k q y s e f =
      let e₁ : drop (k * 3) r ≡ tok_words x ++ (flat tok_words xs ++ y) = e ∙ rw (flat-one tok_words x xs) (append_assoc (tok_words x) (flat tok_words xs) y) in
      let l : k * 3 + length (tok_words x) ≡ (k + 1) * 3 = omega (arith, words-three x) in
      (k + 1, tok-laid x k (flat tok_words xs ++ y) s.0 e₁, row_laid xs (k + 1) q y s.1 (rw l at (behind r (k * 3) (tok_words x) (flat tok_words xs ++ y) e₁)) (omega arith))

-- ---- what the answers say
told_at : (n at z : ℕ) (x : List ℕ) → put_end true n at x ≡ Ok z → (at + length x ≤ n) × (z ≡ at + length x)
told_at n at z x e = let h : (true ≡ true) × (at + length x ≤ n) × (z ≡ at + length x) = rw e at (told true n at x) in (h.1, h.2)

took-at : (n k j y q : ℕ) (v : Value) → took_end n k (ok v q) ≡ Ok (record { node = j; next = y })
    → (k * 3 + length (words v) ≤ n) × (j ≡ k + length (words v) / 3) × (y ≡ q)
unfolding took_end
took-at n k j y q v = go (leb (k * 3 + length (words v)) n) refl
  where
    go : (b : Bool) → leb (k * 3 + length (words v)) n ≡ b
        → cond {A = Result Took TookError} b (Ok (record { node = k + length (words v) / 3; next = q })) (Err T.Full) ≡ Ok (record { node = j; next = y })
        → (k * 3 + length (words v) ≤ n) × (j ≡ k + length (words v) / 3) × (y ≡ q)
    go true h e =
        let r : ◌≡◌ {A = Took} (record { node = k + length (words v) / 3; next = q }) (record { node = j; next = y }) = cc in
        (leb-true (k * 3 + length (words v)) n h, sym (ap (λ (x : Took). x.node) r), sym (ap (λ (x : Took). x.next) r))
    go false h e = absurd (let w : ◌≡◌ {A = ℕ} 0 1 = cc in omega arith)

-- ---- the laws
module _ (t bs out : List ℕ) (i at z : ℕ) (h : Below (2 ^ 64) t) where
  -- whatever stands on the tape
  wrote : (o : Out Value) (w : List ℕ) → Holds (Stands (node_at t (length bs)) 16 i) o → w ≡ wrote_all bs out at o → wrote_end bs (length out) at o ≡ Ok z
      → (x : Plain) × (q : ℕ) × Says bs o x q × Says w (value_at w 16 at) x z
  unfolding wrote_end wrote_all
  wrote (ok v q) w s e f =
      let x : Plain = plain_in bs v in
      let n : Within x 16 = within bs v 16 s.1 (row-all (SmallTok bs) (node_at t (length bs)) (node-small t bs h) i q (toks v) s.0) in
      let a = told_at (length out) at z (enc_value x) f in
      let d : drop at w ≡ enc_value x ++ drop (at + length (enc_value x)) out = ap (drop at) (e ∙ all-fits out at (enc_value x) a.0) ∙ over-drop out (enc_value x) at a.0 in
      let b = value_found w x 16 at (drop (at + length (enc_value x)) out) n d in
      (x, q, (refl, refl), rw b.1 (b.2, sym a.1))
  wrote bad w s e f = absurd (let c : ◌≡◌ {A = ℕ} 0 1 = cc in omega arith)

pub written : Written
written t bs out i at z h f = wrote t bs out i at z h (tree_at t bs 16 i) _ (value_row (node_at t (length bs)) (length t / 3) 16 i) refl f

module _ (s u : List ℕ) (p k j y : ℕ) (h : Below 256 s) where
  -- what is laid on the tape holds the value that was read
  held : (v : Value) (r : List ℕ) → Nests v 16 → All (Sound (length s)) (toks v) → k * 3 + length (words v) ≤ length u → j ≡ k + length (words v) / 3
      → r ≡ put_all true u (k * 3) (words v) → Says s (tree_at r s 16 k) (plain_in s v) j
  held v r n c l e f =
      let x : List ℕ = flat tok_words (toks v) in
      let a : words v ≡ x = value-words v in
      let g : drop (k * 3) r ≡ x ++ drop (k * 3 + length x) u = ap (drop (k * 3)) (f ∙ ap (put_all true u (k * 3)) a ∙ all-fits u (k * 3) x (rw a at l)) ∙ over-drop u x (k * 3) (rw a at l) in
      let m : k + length (toks v) ≡ j = omega (arith, e, ap length a, words-length (toks v)) in
      let b = value-back (node_at r (length s)) (length r / 3) (node-held r (length s)) v 16 k j n (row_laid r (length s) (toks v) k j (drop (k * 3 + length x) u) c g m) in
      rw b.1 (b.2 s, refl)

  -- whatever stands in the bytes
  took : (o : Out Value) → Holds (Stands (token_at s) 16 p) o → took_end (length u) k o ≡ Ok (record { node = j; next = y }) → (x : Plain) × Says s o x y × Says s (tree_at (took_all u k o) s 16 k) x j
  unfolding took_end took_all
  took (ok v q) m e =
      let c = took-at (length u) k j y q v e in
      let f : All (Fit (length s)) (toks v) = row-all (Fit (length s)) (token_at s) (token-fit s h) p q (toks v) m.0 in
      (plain_in s v, (refl, sym c.2), held v (put_all true u (k * 3) (words v)) m.1 (sound (length s) v f) c.0 c.1 refl)
  took bad m e = absurd (let c : ◌≡◌ {A = ℕ} 0 1 = cc in omega arith)

pub laid : Laid
laid s u p k j y h e = took s u p k j y h (value_at s 16 p) (value_row (token_at s) (length s) 16 p) e
