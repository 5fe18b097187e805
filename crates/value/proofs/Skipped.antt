-- Empty tokens between the others change no value: places that stand before the same tokens read alike.
use Prim.Native.Nat.{ℕ, zero, suc, ◌+◌, ◌-◌, ◌≤◌, ◌<◌}
use mathlib.Core.Path.{◌≡◌, refl, sym, ap, ◌∙◌}
use mathlib.Core.List.{List, ◌∷◌, ◌++◌}
use mathlib.Core.Bool.{Bool, true, false, cond}
use native.Mathlib.Omega.{arith}
use lib.ListN.{length, take, drop, length-drop}
use lib.Seq.{drop-drop, drop-append-le, drop_at, take-append-le}
use lib.Dec.{eqb}
use Rattle.token.specs.declared.Token.{Token}
use Rattle.token.specs.declared.Token.TheVariants as K
use Rattle.token.specs.Token.{form_of, token_of, token_at}
use Rattle.token.specs.Laws.{moved}
use Rattle.token.proofs.Leads as Lead
use Rattle.value.specs.Value.{Atom, Value, Values}
use Rattle.value.specs.Plain as P
use Rattle.value.specs.Plain.{atom_in, plain_in, plains_in}
use Rattle.value.specs.Read.{Out, ok, bad, then, mark_of, atom_is, end_or, list_by, named_by, nest_by, value_of, value_by, value_at, values_at}
use Rattle.value.specs.Laws.{AtomLies, One, Stuffed, same, empty, token, Alike}
use Rattle.value.proofs.Outs.{Ends, Any, Has}
use Rattle.value.proofs.Tokens.{token-held}
use Rattle.value.proofs.Held.{value-ends}
use Rattle.value.proofs.Inside.{token-ends, values-step}
use Rattle.value.proofs.Moved.{Whole, token-moved, token-prefix}

-- ---- what stands further on in s, where l is what stands from p on
rest_of : (s l : List ℕ) (p q : ℕ) → l ≡ drop p s → drop (p + q) s ≡ drop q l
rest_of s l p q e = rw (e, drop-drop q p s)

after : (s c l : List ℕ) (p q : ℕ) → c ++ l ≡ drop p s → q ≡ length c → drop (p + q) s ≡ l
after s c l p q e h = rest_of s (c ++ l) p q e ∙ drop_at c l q (sym h)

part_of : (s c l : List ℕ) (p b n : ℕ) → c ++ l ≡ drop p s → b + n ≤ length c → take n (drop (p + b) s) ≡ take n (drop b c)
part_of s c l p b n e h =
    let g : n ≤ length (drop b c) = rw length-drop (omega arith) in
    ap (take n) (rest_of s (c ++ l) p b e ∙ drop-append-le b c l (omega arith)) ∙ take-append-le n (drop b c) l g

skip : (p : ℕ) (l : List ℕ) → token_of p (0xff ∷ l) ≡ token_of (p + 1) l
unfolding token_of form_of
skip p l = rw (Lead.empty 0xff (omega arith) (omega arith))

module _ (s t : List ℕ) where
  -- from p on in s, and from p' on in t, stand the same tokens
  abbrev pub Beside : ℕ → ℕ → Type 0
  Beside p p' = Stuffed (drop p s) (drop p' t)

  -- ---- the same token at both, by the same bytes, with the same tokens after it
  pub data Twins : Token → Token → Type 0 where
    int : (v : ℕ) {q r : ℕ} → Beside q r → Twins (K.Int v q) (K.Int v r)
    bytes : (b c n : ℕ) {q r : ℕ} → take n (drop b s) ≡ take n (drop c t) → Beside q r → Twins (K.Bytes b n q) (K.Bytes c n r)
    control : (c : ℕ) {q r : ℕ} → Beside q r → Twins (K.Control c q) (K.Control c r)
    end : Twins K.End K.End
    broken : Twins K.Broken K.Broken

  -- the token o, p further on in s and p' further on in t: of the same list of bytes
  same-twins : (p p' : ℕ) (l : List ℕ) (o : Token) → l ≡ drop p s → l ≡ drop p' t → Twins (moved p o) (moved p' o)
  same-twins p p' l o e f = go o
    where
      on : (q : ℕ) → Beside (p + q) (p' + q)
      on q = rw (rest_of s l p q e, rest_of t l p' q f) (same (drop q l))

      go : (o : Token) → Twins (moved p o) (moved p' o)
      go (K.Int v q) = Twins.int v (on q)
      go (K.Bytes b n q) = Twins.bytes (p + b) (p' + b) n (rw (rest_of s l p b e, rest_of t l p' b f)) (on q)
      go (K.Control c q) = Twins.control c (on q)
      go K.End = Twins.end
      go K.Broken = Twins.broken

  -- or one token before lists that are the same but for empty tokens
  one-twins : (p p' : ℕ) (c l m : List ℕ) (o : Token) → One c o → Has AtomLies 0 (length c) o → Stuffed l m → c ++ l ≡ drop p s → c ++ m ≡ drop p' t → Twins (moved p o) (moved p' o)
  one-twins p p' c l m o h a r e f = go o h a
    where
      on : (q : ℕ) → q ≡ length c → Beside (p + q) (p' + q)
      on q h = rw (after s c l p q e h, after t c m p' q f h) r

      go : (o : Token) → One c o → Has AtomLies 0 (length c) o → Twins (moved p o) (moved p' o)
      go (K.Int v q) h a = Twins.int v (on q h)
      go (K.Bytes b n q) h a = Twins.bytes (p + b) (p' + b) n (part_of s c l p b n e (omega arith) ∙ sym (part_of t c m p' b n f (omega arith))) (on q h)
      go (K.Control k q) h a = Twins.control k (on q h)
      go K.End h a = Twins.end
      go K.Broken h a = Twins.broken

  one-whole : (c : List ℕ) (o : Token) → One c o → Whole o
  one-whole c (K.Int v q) h = tt
  one-whole c (K.Bytes b n q) h = tt
  one-whole c (K.Control k q) h = tt
  one-whole c K.End h = h
  one-whole c K.Broken h = h

  twins : {l m : List ℕ} (p p' : ℕ) → Stuffed l m → l ≡ drop p s → m ≡ drop p' t → Twins (token_of p l) (token_of p' m)
  twins p p' (same l) e f =
      rw (token-moved p 0 p l (omega arith), token-moved p' 0 p' l (omega arith)) (same-twins p p' l (token_of 0 l) e f)
  twins p p' (empty {m = m} r) e f = rw (skip p' m) (twins p (p' + 1) r e (sym (rest_of t (0xff ∷ m) p' 1 f)))
  twins p p' (token c {l = l} {m = m} h r) e f =
      let w = one-whole c (token_of 0 c) h in
      rw (token-moved p 0 p (c ++ l) (omega arith), token-prefix 0 c l w, token-moved p' 0 p' (c ++ m) (omega arith), token-prefix 0 c m w)
      (one-twins p p' c l m (token_of 0 c) h (token-held c 0) r e f)

  pub token-twins : (p p' : ℕ) → Beside p p' → Twins (token_at s p) (token_at t p')
  token-twins p p' b = twins p p' b refl refl

  -- ---- what is read, and where it ends
  abbrev pub Both : {A : Type 0} → (A → A → Type 0) → Out A → Out A → Type 0
  Both R (ok a q) (ok b r) = R a b × Beside q r
  Both R (ok a q) bad = ⊥
  Both R bad (ok b r) = ⊥
  Both R bad bad = Unit {0}

  pub then-both : {A B : Type 0} (R : A → A → Type 0) (Q : B → B → Type 0) (o u : Out A) (k l : A → ℕ → Out B) → Both R o u
      → ((a b : A) (q r : ℕ) → o ≡ ok a q → R a b → Beside q r → Both Q (k a q) (l b r)) → Both Q (then o k) (then u l)
  unfolding then
  then-both R Q (ok a q) (ok b r) k l x g = g a b q r refl x.0 x.1
  then-both R Q (ok a q) bad k l x g = absurd x
  then-both R Q bad (ok b r) k l x g = absurd x
  then-both R Q bad bad k l x g = tt

  abbrev pub SameAtom : Atom → Atom → Type 0
  SameAtom a b = atom_in s a ≡ atom_in t b

  abbrev pub SameValue : Value → Value → Type 0
  SameValue v w = plain_in s v ≡ plain_in t w

  abbrev pub SameValues : Values → Values → Type 0
  SameValues vs ws = plains_in s vs ≡ plains_in t ws

  abbrev pub NoMatter : Unit {0} → Unit {0} → Type 0
  NoMatter u v = Unit {0}

  pub mark-both : (c : ℕ) {x y : Token} → Twins x y → Both NoMatter (mark_of c x) (mark_of c y)
  unfolding mark_of
  mark-both c (Twins.int v z) = tt
  mark-both c (Twins.bytes b b' n e z) = tt
  mark-both c (Twins.control k {q = q} {r = r} z) = pick (eqb k c) tt
    where
      pick : (b : Bool) (u : Unit {0}) → Both NoMatter (cond b (ok u q) bad) (cond b (ok u r) bad)
      pick true u = (tt, z)
      pick false u = tt
  mark-both c Twins.end = tt
  mark-both c Twins.broken = tt

  atom-both : {x y : Token} → Twins x y → Both SameAtom (atom_is x) (atom_is y)
  unfolding atom_is atom_in
  atom-both (Twins.int v z) = (refl, z)
  atom-both (Twins.bytes b b' n e z) = (ap P.bytes e, z)
  atom-both (Twins.control k z) = tt
  atom-both Twins.end = tt
  atom-both Twins.broken = tt

  token-both : (nest nest' : ℕ → ℕ → Out Value) {x y : Token} → Twins x y → ((c q r : ℕ) → Beside q r → Both SameValue (nest c q) (nest' c r)) → Both SameValue (value_of nest x) (value_of nest' y)
  unfolding value_of plain_in atom_in
  token-both nest nest' (Twins.int v z) g = (refl, z)
  token-both nest nest' (Twins.bytes b b' n e z) g = (ap (λ (l : List ℕ). P.atom (P.bytes l)) e, z)
  token-both nest nest' (Twins.control c {q = q} {r = r} z) g = g c q r z
  token-both nest nest' Twins.end g = tt
  token-both nest nest' Twins.broken g = tt

  or-both : (m n : Out (Unit {0})) (o u : Out Values) → Both NoMatter m n → Both SameValues o u → Both SameValues (end_or m o) (end_or n u)
  unfolding end_or plain_in plains_in
  or-both (ok a q) (ok b r) o u x y = (refl, x.1)
  or-both (ok a q) bad o u x y = absurd x
  or-both bad (ok b r) o u x y = absurd x
  or-both bad bad o u x y = y

  -- ---- values, with f for the values inside
  module _ (d : ℕ) (fb : (p p' : ℕ) → Beside p p' → Both SameValue (value_at s d p) (value_at t d p')) where
    ends : (p : ℕ) → Ends Any p (length s) (value_at s d p)
    ends = value-ends (token_at s) (length s) (token-ends s) (length s) d

    step_both : (p p' : ℕ) → Beside p p' → ((q r : ℕ) → p < q → q ≤ length s → Beside q r → Both SameValues (values_at s d q) (values_at t d r)) → Both SameValues (values_at s d p) (values_at t d p')
    unfolding plain_in plains_in
    step_both p p' b g =
        rw (values-step s d p, values-step t d p')
        (or-both _ _ _ _ (mark-both 0xf1 (token-twins p p' b))
        (then-both SameValue SameValues (value_at s d p) (value_at t d p') _ _ (fb p p' b) (λ v w q r e x z.
        let h : Ends Any p (length s) (ok v q) = rw e at (ends p) in
        then-both SameValues SameValues (values_at s d q) (values_at t d r) _ _ (g q r h.0 h.1 z) (λ vs ws i j f y u.
        (rw (x, y), u)))))

    values-both : (n p p' : ℕ) → length s - p ≤ n → Beside p p' → Both SameValues (values_at s d p) (values_at t d p')
    values-both zero p p' h b = step_both p p' b (λ q r (i : p < q) (j : q ≤ length s) z. absurd (omega arith))
    values-both (suc n) p p' h b = step_both p p' b (λ q r (i : p < q) (j : q ≤ length s) z. values-both n q r (omega arith) z)

    listed-both : (p p' : ℕ) → Beside p p' → Both SameValue (list_by (token_at s) (value_at s d) (length s) p) (list_by (token_at t) (value_at t d) (length t) p')
    unfolding list_by plain_in plains_in
    listed-both p p' b =
        then-both SameValues SameValue (values_at s d p) (values_at t d p') _ _ (values-both (length s) p p' (omega arith) b) (λ vs ws q r e x z.
        (ap P.list x, z))

    named-both : (p p' : ℕ) → Beside p p' → Both SameValue (named_by (token_at s) (value_at s d) p) (named_by (token_at t) (value_at t d) p')
    unfolding named_by plain_in plains_in
    named-both p p' b =
        then-both SameAtom SameValue (atom_is (token_at s p)) (atom_is (token_at t p')) _ _ (atom-both (token-twins p p' b)) (λ a a' q q' e x z.
        then-both SameValue SameValue (value_at s d q) (value_at t d q') _ _ (fb q q' z) (λ v w r r' f y u.
        then-both NoMatter SameValue (mark_of 0xf3 (token_at s r)) (mark_of 0xf3 (token_at t r')) _ _ (mark-both 0xf3 (token-twins r r' u)) (λ c c' i j g l m.
        (rw (x, y), m))))

    nest-both : (c p p' : ℕ) → Beside p p' → Both SameValue (nest_by (token_at s) (value_at s d) (length s) c p) (nest_by (token_at t) (value_at t d) (length t) c p')
    unfolding nest_by
    nest-both c p p' b = go (eqb c 0xf0) (eqb c 0xf2)
      where
        go : (x y : Bool) → Both SameValue
            (cond x (list_by (token_at s) (value_at s d) (length s) p) (cond y (named_by (token_at s) (value_at s d) p) bad))
            (cond x (list_by (token_at t) (value_at t d) (length t) p') (cond y (named_by (token_at t) (value_at t d) p') bad))
        go true y = listed-both p p' b
        go false true = named-both p p' b
        go false false = tt

  -- values, and the values of lists, at such places: the same contents, and they end at such places
  pub value-both : (d p p' : ℕ) → Beside p p' → Both SameValue (value_at s d p) (value_at t d p')
  unfolding value_by
  value-both zero p p' b = token-both _ _ (token-twins p p' b) (λ c q r z. tt)
  value-both (suc d) p p' b = token-both _ _ (token-twins p p' b) (λ c q r z. nest-both d (value-both d) c q r z)

  pub list-both : (d p p' : ℕ) → Beside p p' → Both SameValues (values_at s d p) (values_at t d p')
  list-both d p p' b = values-both d (value-both d) (length s) p p' (omega arith) b

pub skipped : (s t : List ℕ) (d : ℕ) → Stuffed s t → Alike s (value_at s d 0) t (value_at t d 0)
skipped s t d h = go (value_at s d 0) (value_at t d 0) (value-both s t d 0 0 h)
  where
    go : (o u : Out Value) → Both s t (SameValue s t) o u → Alike s o t u
    go (ok v q) (ok w r) x = x.0
    go (ok v q) bad x = x
    go bad (ok w r) x = x
    go bad bad x = tt
