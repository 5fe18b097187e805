-- What `value_by` reads from p to q is the row of the value's tokens, whatever the source; and where such a row stands, it reads the value.
use Prim.Native.Nat.{ℕ, zero, suc}
use mathlib.Core.Path.{◌≡◌, refl, ap, ◌∙◌}
use mathlib.Core.List.{List, [], ◌∷◌}
use mathlib.Core.Bool.{Bool, true, false, cond}
use lib.Dec.{eqb}
use borrow.Author.Tests.{eqb-true}
use Rattle.token.specs.declared.Token.{Token}
use Rattle.token.specs.declared.Token.TheVariants as K
use Rattle.value.specs.Value.{Atom, int, bytes, Value, atom, list, named, Values, none, more}
use Rattle.value.specs.Read.{Out, ok, bad, then, mark_of, atom_is, end_or, values_by, list_by, named_by, nest_by, value_of, value_by}
use Rattle.value.specs.Plain.{plain_in, plains_in}
use Rattle.value.proofs.Outs.{Any, Has}
use Rattle.value.proofs.Held.{value-ends}
use Rattle.value.proofs.Values.{values-step}
use Rattle.tape.proofs.Rows.{leaf, mark, tok_to, toks, toks_all, Nests, AllNest, Row, join, split}

-- P says more of what is read
abbrev pub Holds : {A : Type 0} → (A → ℕ → Type 0) → Out A → Type 0
Holds P (ok a q) = P a q
Holds P bad = Unit {0}

module _ {A B : Type 0} (P : A → ℕ → Type 0) (Q : B → ℕ → Type 0) where
  then-holds : (o : Out A) (k : A → ℕ → Out B) → Holds P o → ((a : A) (q : ℕ) → P a q → Holds Q (k a q)) → Holds Q (then o k)
  unfolding then
  then-holds (ok a q) k h g = g a q h
  then-holds bad k h g = tt

or-holds : (P : Values → ℕ → Type 0) (m : Out (Unit {0})) (o : Out Values) → Holds (λ u q. P none q) m → Holds P o → Holds P (end_or m o)
unfolding end_or
or-holds P (ok u q) o h g = h
or-holds P bad o h g = g

mark-holds : (c : ℕ) (t : Token) → Holds (λ u q. t ≡ K.Control c q) (mark_of c t)
unfolding mark_of
mark-holds c (K.Int v q) = tt
mark-holds c (K.Bytes p n q) = tt
mark-holds c (K.Control k q) = go (eqb k c) tt refl
  where
    go : (t : Bool) (u : Unit {0}) → eqb k c ≡ t → Holds (λ u q₁. K.Control k q ≡ K.Control c q₁) (cond t (ok u q) bad)
    go true u h = rw (eqb-true k c h)
    go false u h = tt
mark-holds c K.End = tt
mark-holds c K.Broken = tt

atom-holds : (t : Token) → Holds (λ a q. t ≡ tok_to (leaf a) q) (atom_is t)
unfolding atom_is
atom-holds (K.Int v q) = refl
atom-holds (K.Bytes p n q) = refl
atom-holds (K.Control c q) = tt
atom-holds K.End = tt
atom-holds K.Broken = tt

module _ (tok : ℕ → Token) where
  -- from p to q stands the value
  abbrev pub Stands : ℕ → ℕ → Value → ℕ → Type 0
  Stands d p v q = Row tok p (toks v) q × Nests v d

  abbrev AllStand : ℕ → ℕ → Values → ℕ → Type 0
  AllStand d p vs q = Row tok p (toks_all vs) q × AllNest vs d

  module _ (d : ℕ) (f : ℕ → Out Value) (fr : (p : ℕ) → Holds (Stands d p) (f p)) where
    values-row : (n p : ℕ) → Holds (AllStand d p) (values_by tok f n p)
    unfolding values_by toks
    values-row zero p = tt
    values-row (suc n) p =
        or-holds (AllStand d p) (mark_of 0xf1 (tok p)) _
        (go (mark_of 0xf1 (tok p)) (mark-holds 0xf1 (tok p)))
        (then-holds (Stands d p) (AllStand d p) (f p) _ (fr p) (λ v q h.
        then-holds (AllStand d q) (AllStand d p) (values_by tok f n q) _ (values-row n q) (λ vs r k.
        (join tok p q r (toks v) (toks_all vs) h.0 k.0, (h.1, k.1)))))
      where
        go : (o : Out (Unit {0})) → Holds (λ u q. tok p ≡ K.Control 0xf1 q) o → Holds (λ u q. AllStand d p none q) o
        go (ok u q) h = ((q, h, refl), tt)
        go bad h = tt

    nest-row : (n p c q : ℕ) → tok p ≡ K.Control c q → Holds (Stands (suc d) p) (nest_by tok f n c q)
    unfolding nest_by list_by named_by toks
    nest-row n p c q e = go (eqb c 0xf0) (eqb c 0xf2) refl refl
      where
        go : (t u : Bool) → eqb c 0xf0 ≡ t → eqb c 0xf2 ≡ u → Holds (Stands (suc d) p) (cond t (list_by tok f n q) (cond u (named_by tok f q) bad))
        go true u h k =
            then-holds (AllStand d q) (Stands (suc d) p) (values_by tok f n q) _ (values-row n q) (λ vs z w.
            ((q, e ∙ ap (λ (x : ℕ). K.Control x q) (eqb-true c 0xf0 h), w.0), w.1))
        go false true h k =
            then-holds (λ a r. tok q ≡ tok_to (leaf a) r) (Stands (suc d) p) (atom_is (tok q)) _ (atom-holds (tok q)) (λ a r x.
            then-holds (Stands d r) (Stands (suc d) p) (f r) _ (fr r) (λ v z w.
            then-holds (λ u y. tok z ≡ K.Control 0xf3 y) (Stands (suc d) p) (mark_of 0xf3 (tok z)) _ (mark-holds 0xf3 (tok z)) (λ u y l.
            ((q, e ∙ ap (λ (x : ℕ). K.Control x q) (eqb-true c 0xf2 k), (r, x, join tok r z y (toks v) (mark 0xf3 ∷ []) w.0 (y, l, refl))), w.1))))
        go false false h k = tt

  token-row : (d : ℕ) (nest : ℕ → ℕ → Out Value) (p : ℕ) (t : Token) → tok p ≡ t → ((c q : ℕ) → t ≡ K.Control c q → Holds (Stands d p) (nest c q)) → Holds (Stands d p) (value_of nest t)
  unfolding value_of toks
  token-row d nest p (K.Int v q) e g = ((q, e, refl), tt)
  token-row d nest p (K.Bytes b n q) e g = ((q, e, refl), tt)
  token-row d nest p (K.Control c q) e g = g c q refl
  token-row d nest p K.End e g = tt
  token-row d nest p K.Broken e g = tt

  -- THERE: the value that is read is the row of its tokens
  pub value_row : (n d p : ℕ) → Holds (Stands d p) (value_by tok n d p)
  unfolding value_by
  value_row n zero p = token-row 0 (λ c q. bad) p (tok p) refl (λ c q e. tt)
  value_row n (suc d) p = token-row (suc d) (nest_by tok (value_by tok n d) n) p (tok p) refl (λ c q e. nest-row d (value_by tok n d) (value_row n d) n p c q e)

-- ---- and back
-- the same contents, wherever lists stand
abbrev pub Alike : Value → Value → Type 0
Alike v w = (s : List ℕ) → plain_in s v ≡ plain_in s w

abbrev AllAlike : Values → Values → Type 0
AllAlike vs ws = (s : List ℕ) → plains_in s vs ≡ plains_in s ws

leaf-reads : (nest : ℕ → ℕ → Out Value) (t : Token) (a : Atom) (q : ℕ) → t ≡ tok_to (leaf a) q → (value_of nest t ≡ ok (atom a) q) × (mark_of 0xf1 t ≡ bad) × (atom_is t ≡ ok a q)
unfolding value_of mark_of atom_is
leaf-reads nest t (int v) q e = rw e (refl, refl, refl)
leaf-reads nest t (bytes p n) q e = rw e (refl, refl, refl)

module _ (tok : ℕ → Token) (N : ℕ) (ta : (p : ℕ) → Has Any p N (tok p)) where
  abbrev Reads : ℕ → ℕ → Value → ℕ → Type 0
  Reads d p v q = (w : Value) × (value_by tok N d p ≡ ok w q) × Alike w v × (mark_of 0xf1 (tok p) ≡ bad)

  abbrev AllRead : ℕ → ℕ → Values → ℕ → Type 0
  AllRead d p vs q = (ws : Values) × (values_by tok (value_by tok N d) N p ≡ ok ws q) × AllAlike ws vs

  atom-back : (a : Atom) (d p q : ℕ) → tok p ≡ tok_to (leaf a) q → Reads d p (atom a) q
  unfolding value_by
  atom-back a zero p q e = let h = leaf-reads (λ c q. bad) (tok p) a q e in (atom a, h.0, λ s. refl, h.1)
  atom-back a (suc d) p q e = let h = leaf-reads (nest_by tok (value_by tok N d) N) (tok p) a q e in (atom a, h.0, λ s. refl, h.1)

  list_back : (b : ℕ) (vs : Values) (d p r q : ℕ) → tok p ≡ K.Control 0xf0 r → AllRead d r vs q → Reads (suc d) p (list b vs) q
  unfolding value_by value_of nest_by list_by then mark_of plain_in
  list_back b vs d p r q e h = (list r h.0, rw (e, h.1), λ s. rw (h.2 s), rw e)

  named_back : (a : Atom) (v : Value) (d p r y z q : ℕ) → tok p ≡ K.Control 0xf2 r → tok r ≡ tok_to (leaf a) y → Reads d y v z → tok z ≡ K.Control 0xf3 q → Reads (suc d) p (named a v) q
  unfolding value_by value_of nest_by named_by then mark_of plain_in
  named_back a v d p r y z q e l h c = (named a h.0, rw (e, (leaf-reads (λ c q. bad) (tok r) a y l).2, h.1, c), λ s. rw (h.2 s), rw e)

  step : (d p : ℕ) → values_by tok (value_by tok N d) N p ≡ end_or (mark_of 0xf1 (tok p)) (then (value_by tok N d p) (λ v q. then (values_by tok (value_by tok N d) N q) (λ vs r. ok (more v vs) r)))
  step d p = values-step tok N ta (value_by tok N d) (value-ends tok N ta N d) p

  none-back : (d p q : ℕ) → tok p ≡ K.Control 0xf1 q → AllRead d p none q
  unfolding end_or mark_of
  none-back d p q e = (none, step d p ∙ rw e, λ s. refl)

  more-back : (v : Value) (vs : Values) (d p r q : ℕ) → Reads d p v r → AllRead d r vs q → AllRead d p (more v vs) q
  unfolding end_or then plain_in
  more-back v vs d p r q h k = (more h.0 k.0, step d p ∙ rw (h.3, h.1, k.1), λ s. rw (h.2 s, k.2 s))

  mutual
    unfolding toks

    -- AND BACK: where the row of a value's tokens stands, a value with the same contents is read
    pub value-back : (v : Value) (d p q : ℕ) → Nests v d → Row tok p (toks v) q → Reads d p v q
    value-back (atom a) d p q n u = atom-back a d p q (u.1 ∙ ap (tok_to (leaf a)) u.2)
    value-back (list b vs) zero p q n u = absurd n
    value-back (list b vs) (suc d) p q n u = list_back b vs d p u.0 q u.1 (values-back vs d u.0 q n u.2)
    value-back (named a v) zero p q n u = absurd n
    value-back (named a v) (suc d) p q n u =
        let w = u.2 in
        let h = split tok w.0 q (toks v) (mark 0xf3 ∷ []) w.2 in
        let y = h.2 in
        named_back a v d p u.0 w.0 h.0 q u.1 w.1 (value-back v d w.0 h.0 n h.1) (y.1 ∙ ap (K.Control 0xf3) y.2)

    values-back : (vs : Values) (d p q : ℕ) → AllNest vs d → Row tok p (toks_all vs) q → AllRead d p vs q
    values-back none d p q n u = none-back d p q (u.1 ∙ ap (K.Control 0xf1) u.2)
    values-back (more v vs) d p q n u =
        let h = split tok p q (toks v) (toks_all vs) u in
        more-back v vs d p h.0 q (value-back v d p h.0 n.0 h.1) (values-back vs d h.0 q n.1 h.2)
