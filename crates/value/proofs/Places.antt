-- A value by its parts: each stands where the value says, for any source of tokens.
use Prim.Native.Nat.{ℕ, zero, suc, ◌-◌}
use mathlib.Core.Path.{◌≡◌, refl, ap, ◌∙◌}
use mathlib.Core.Bool.{Bool, true, false, cond}
use native.Mathlib.Numerals.{sub-one}
use lib.Dec.{eqb}
use borrow.Author.Tests.{eqb-true}
use Rattle.token.specs.declared.Token.{Token}
use Rattle.token.specs.declared.Token.TheVariants as K
use Rattle.value.specs.Value.{Atom, Value, atom, list, named, Values}
use Rattle.value.specs.Read.{Out, ok, bad, mark_of, atom_is, values_by, list_by, named_by, nest_by, value_of, value_by}
use Rattle.value.proofs.Outs.{then_by, mark-token}

-- F2 at p, the name, the value by f, and F3 before q
pub record Named (tok : ℕ → Token) (f : ℕ → Out Value) (p : ℕ) (a : Atom) (v : Value) (q : ℕ) : Type 0 where
  pub name-at : ℕ
  pub value-at : ℕ
  pub value-end : ℕ
  pub opened : tok p ≡ K.Control 0xf2 name-at
  pub name-is : atom_is (tok name-at) ≡ ok a value-at
  pub value-is : f value-at ≡ ok v value-end
  pub shut : tok value-end ≡ K.Control 0xf3 q

module _ (tok : ℕ → Token) (n : ℕ) where
  abbrev Stands : (ℕ → Out Value) → ℕ → Out Value → Type 0
  Stands f p (ok (atom a) q) = atom_is (tok p) ≡ ok a q
  Stands f p (ok (list b vs) q) = (tok p ≡ K.Control 0xf0 b) × (values_by tok f n b ≡ ok vs q)
  Stands f p (ok (named a v) q) = Named tok f p a v q
  Stands f p bad = Unit {0}

  list-stands : (f : ℕ → Out Value) (p b : ℕ) → tok p ≡ K.Control 0xf0 b → Stands f p (list_by tok f n b)
  unfolding list_by
  list-stands f p b h = then_by (Stands f p) (values_by tok f n b) _ tt (λ vs q e. (h, e))

  named-stands : (f : ℕ → Out Value) (p b : ℕ) → tok p ≡ K.Control 0xf2 b → Stands f p (named_by tok f b)
  unfolding named_by
  named-stands f p b h =
      then_by (Stands f p) (atom_is (tok b)) _ tt (λ a r i.
      then_by (Stands f p) (f r) _ tt (λ v z j.
      then_by (Stands f p) (mark_of 0xf3 (tok z)) _ tt (λ u q k. record {
        name-at = b;
        value-at = r;
        value-end = z;
        opened = h;
        name-is = i;
        value-is = j;
        shut = mark-token 0xf3 (tok z) u q k;
      })))

  nest-stands : (f : ℕ → Out Value) (p c b : ℕ) → tok p ≡ K.Control c b → Stands f p (nest_by tok f n c b)
  unfolding nest_by
  nest-stands f p c b h = go (eqb c 0xf0) (eqb c 0xf2) refl refl
    where
      go : (x y : Bool) → eqb c 0xf0 ≡ x → eqb c 0xf2 ≡ y → Stands f p (cond x (list_by tok f n b) (cond y (named_by tok f b) bad))
      go true y i j = list-stands f p b (h ∙ ap (λ (k : ℕ). K.Control k b) (eqb-true c 0xf0 i))
      go false true i j = named-stands f p b (h ∙ ap (λ (k : ℕ). K.Control k b) (eqb-true c 0xf2 j))
      go false false i j = tt

  token-stands : (f : ℕ → Out Value) (nest : ℕ → ℕ → Out Value) (p : ℕ) (t : Token) → tok p ≡ t → ((c b : ℕ) → tok p ≡ K.Control c b → Stands f p (nest c b)) → Stands f p (value_of nest t)
  unfolding value_of atom_is
  token-stands f nest p (K.Int v q) e g = rw e
  token-stands f nest p (K.Bytes b m q) e g = rw e
  token-stands f nest p (K.Control c q) e g = g c q e
  token-stands f nest p K.End e g = tt
  token-stands f nest p K.Broken e g = tt

  value-stands : (d p : ℕ) → Stands (value_by tok n (d - 1)) p (value_by tok n d p)
  unfolding value_by
  value-stands zero p = token-stands _ (λ c q. bad) p (tok p) refl (λ c b e. tt)
  value-stands (suc d) p = rw (sub-one (suc d)) (token-stands _ (nest_by tok (value_by tok n d) n) p (tok p) refl (nest-stands (value_by tok n d) p))

  pub atom-inside : (d p q : ℕ) (a : Atom) → value_by tok n d p ≡ ok (atom a) q → atom_is (tok p) ≡ ok a q
  atom-inside d p q a e = rw e at (value-stands d p)

  -- the values of a list are those that stand at the list's place
  pub list_inside : (d p b q : ℕ) (vs : Values) → value_by tok n d p ≡ ok (list b vs) q → (tok p ≡ K.Control 0xf0 b) × (values_by tok (value_by tok n (d - 1)) n b ≡ ok vs q)
  list_inside d p b q vs e = rw e at (value-stands d p)

  pub named-inside : (d p q : ℕ) (a : Atom) (v : Value) → value_by tok n d p ≡ ok (named a v) q → Named tok (value_by tok n (d - 1)) p a v q
  named-inside d p q a v e = rw e at (value-stands d p)
