-- Where a value's bytes stand, its tokens stand, and there the value is read.
use Prim.Native.Nat.{ℕ, zero, suc, ◌+◌, ◌≤◌}
use mathlib.Core.Path.{◌≡◌, refl, sym, ap, ◌∙◌}
use mathlib.Core.List.{List, [], ◌∷◌, ◌++◌, append_assoc}
use native.Mathlib.Omega.{arith}
use lib.ListN.{length, take, drop, length-append}
use lib.Dec.{lit≤}
use lib.Seq.{take_at, drop-drop, drop-append_seam}
use Rattle.token.specs.declared.Token.TheVariants as K
use Rattle.token.specs.Token.{token_of, token_at}
use Rattle.token.specs.Write.{head_of, enc_bytes}
use Rattle.token.proofs.Round.{read_int, read-bytes, read-control, here}
use Rattle.value.specs.Value as At
use Rattle.value.specs.Read.{ok, value_at}
use Rattle.value.specs.Plain.{Atom, int, bytes, Plain, atom, list, named, Plains, none, more, atom_in, plain_in, plains_in}
use Rattle.value.proofs.Inside.{token-ends}
use Rattle.tape.specs.Write.{enc_atom, enc_value, enc_values, Small, Within, AllWithin}
use Rattle.tape.specs.Laws.{RoundTrip}
use Rattle.tape.proofs.Rows.{leaf, mark, tok_to, toks, toks_all, Nests, AllNest, Row, join}
use Rattle.tape.proofs.Ran.{value-back}
use Rattle.tape.proofs.Puts.{mark-is}

module _ (w : List ℕ) where
  -- what stands behind x
  pub behind : (p : ℕ) (x y : List ℕ) → drop p w ≡ x ++ y → drop (p + length x) w ≡ y
  behind p x y e = sym (drop-drop (length x) p w) ∙ ap (drop (length x)) e ∙ drop-append_seam x y

  -- ---- a mark, and y behind it
  abbrev MarkStands : ℕ → ℕ → List ℕ → Type 0
  MarkStands c p y = (token_at w p ≡ K.Control c (p + 1)) × (drop (p + 1) w ≡ y)

  mark-stands : (c p : ℕ) (y : List ℕ) → 0xf0 ≤ c → c ≤ 0xf3 → drop p w ≡ c ∷ y → MarkStands c p y
  mark-stands c p y h k e = (ap (token_of p) e ∙ read-control c p y (mark-is c h k), behind p (c ∷ []) y e)

  -- ---- an atom
  abbrev AtomStands : Atom → ℕ → ℕ → Type 0
  AtomStands x p q = (a : At.Atom) × (atom_in w a ≡ x) × (token_at w p ≡ tok_to (leaf a) q)

  inner : (p : ℕ) (bs y : List ℕ) → drop p w ≡ enc_bytes bs ++ y → take (length bs) (drop (p + length (head_of (length bs))) w) ≡ bs
  unfolding enc_bytes
  inner p bs y e =
      let h : List ℕ = head_of (length bs) in
      rw (behind p h (bs ++ y) (e ∙ append_assoc h bs y)) (take_at bs y (length bs) refl)

  atom-stands : (x : Atom) (p : ℕ) (y : List ℕ) → Small x → drop p w ≡ enc_atom x ++ y → AtomStands x p (p + length (enc_atom x))
  unfolding enc_atom atom_in
  atom-stands (int v) p y h e = (At.int v, refl, ap (token_of p) e ∙ read_int v p y h)
  atom-stands (bytes bs) p y h e =
      (At.bytes (p + length (head_of (length bs))) (length bs), ap bytes (inner p bs y e), ap (token_of p) e ∙ read-bytes bs p y)

  -- ---- a value
  abbrev pub Stand : Plain → ℕ → ℕ → ℕ → Type 0
  Stand x d p q = (v : At.Value) × (plain_in w v ≡ x) × Nests v d × Row (token_at w) p (toks v) q

  abbrev AllStand : Plains → ℕ → ℕ → ℕ → Type 0
  AllStand xs d p q = (vs : At.Values) × (plains_in w vs ≡ xs) × AllNest vs d × Row (token_at w) p (toks_all vs) q

  mutual
    unfolding enc_value plain_in toks

    pub value-stands : (x : Plain) (d p q : ℕ) (y : List ℕ) → Within x d → drop p w ≡ enc_value x ++ y → q ≡ p + length (enc_value x) → Stand x d p q
    value-stands (atom a) d p q y h e f =
        let s = atom-stands a p y h e in
        (At.atom s.0, ap atom s.1, tt, (q, s.2 ∙ ap (tok_to (leaf s.0)) (sym f), refl))
    value-stands (list xs) zero p q y h e f = absurd h
    value-stands (list xs) (suc d) p q y h e f =
        let m = mark-stands 0xf0 p (enc_values xs ++ y) (lit≤ tt) (lit≤ tt) e in
        let s = values-stand xs d (p + 1) q y h m.1 (omega arith) in
        (At.list (p + 1) s.0, ap list s.1, s.2, (p + 1, m.0, s.3))
    value-stands (named a x) zero p q y h e f = absurd h
    value-stands (named a x) (suc d) p q y h e f =
        let m = mark-stands 0xf2 p ((enc_atom a ++ (enc_value x ++ (0xf3 ∷ []))) ++ y) (lit≤ tt) (lit≤ tt) e in
        let e₁ : drop (p + 1) w ≡ enc_atom a ++ (enc_value x ++ (0xf3 ∷ y)) = m.1 ∙ simp append_assoc in
        let s = atom-stands a (p + 1) (enc_value x ++ (0xf3 ∷ y)) h.0 e₁ in
        let r : ℕ = p + 1 + length (enc_atom a) in
        let e₂ : drop r w ≡ enc_value x ++ (0xf3 ∷ y) = behind (p + 1) (enc_atom a) (enc_value x ++ (0xf3 ∷ y)) e₁ in
        let z : ℕ = r + length (enc_value x) in
        let v = value-stands x d r z (0xf3 ∷ y) h.1 e₂ refl in
        let n = mark-stands 0xf3 z y (lit≤ tt) (lit≤ tt) (behind r (enc_value x) (0xf3 ∷ y) e₂) in
        let k : z + 1 ≡ q = omega (arith, length-append (enc_atom a) (enc_value x ++ (0xf3 ∷ [])), length-append (enc_value x) (0xf3 ∷ [])) in (
          At.named s.0 v.0,
          rw (s.1, v.1),
          v.2,
          (p + 1, m.0, (r, s.2, join (token_at w) r z q (toks v.0) (mark 0xf3 ∷ []) v.3 (z + 1, n.0, k))),
        )

    values-stand : (xs : Plains) (d p q : ℕ) (y : List ℕ) → AllWithin xs d → drop p w ≡ enc_values xs ++ y → q ≡ p + length (enc_values xs) → AllStand xs d p q
    values-stand none d p q y h e f =
        let m = mark-stands 0xf1 p y (lit≤ tt) (lit≤ tt) e in
        (At.none, refl, tt, (p + 1, m.0, sym f))
    values-stand (more x xs) d p q y h e f =
        let e₁ : drop p w ≡ enc_value x ++ (enc_values xs ++ y) = e ∙ append_assoc (enc_value x) (enc_values xs) y in
        let r : ℕ = p + length (enc_value x) in
        let v = value-stands x d p r (enc_values xs ++ y) h.0 e₁ refl in
        let s = values-stand xs d r q y h.1 (behind p (enc_value x) (enc_values xs ++ y) e₁) (omega (arith, length-append (enc_value x) (enc_values xs))) in (
          At.more v.0 s.0,
          rw (v.1, s.1),
          (v.2, s.2),
          join (token_at w) p r q (toks v.0) (toks_all s.0) v.3 s.3,
        )

  -- where the bytes of x stand, x is read
  abbrev pub Found : Plain → ℕ → ℕ → ℕ → Type 0
  Found x d p q = (v : At.Value) × (value_at w d p ≡ ok v q) × (plain_in w v ≡ x)

  pub value_found : (x : Plain) (d p : ℕ) (y : List ℕ) → Within x d → drop p w ≡ enc_value x ++ y → Found x d p (p + length (enc_value x))
  value_found x d p y h e =
      let s = value-stands x d p (p + length (enc_value x)) y h e refl in
      let r = value-back (token_at w) (length w) (token-ends w) s.0 d p (p + length (enc_value x)) s.2 s.3 in
      (r.0, r.1, r.2 w ∙ s.1)

pub round_trip : RoundTrip
round_trip a b x d h =
    let f = value_found (a ++ enc_value x ++ b) x d (length a) b h (here a (enc_value x) b) in
    rw f.1 (f.2, refl)
