-- What is read ends past its start and within the source, and what is true of its atoms by their place is true of it: one walk for every such claim.
use Prim.Native.Nat.{ℕ, zero, suc, ◌≤◌, ◌<◌}
use mathlib.Core.Bool.{Bool, true, false, cond}
use native.Mathlib.Omega.{arith}
use lib.Dec.{eqb}
use Rattle.token.specs.declared.Token.{Token}
use Rattle.token.specs.declared.Token.TheVariants as K
use Rattle.value.specs.Value.{Atom, int, bytes, Value, atom, list, named, Values, none, more}
use Rattle.value.specs.Read.{Out, bad, mark_of, atom_is, values_by, list_by, named_by, nest_by, value_of, value_by}
use Rattle.value.proofs.Outs.{Ends, Any, Has, mark-ends, atom-ends, then-ends, or-ends}

-- claims on atoms and values from p to q that stay true from further out, and go from the parts to the whole
pub record Claim (A : ℕ → ℕ → Atom → Type 0) (X : ℕ → ℕ → Value → Type 0) (Y : ℕ → ℕ → Values → Type 0) : Type 0 where
  pub of-atom : {p p' q q' : ℕ} (a : Atom) → p ≤ p' → q' ≤ q → A p' q' a → A p q a
  pub of-value : {p p' q q' : ℕ} (v : Value) → p ≤ p' → q' ≤ q → X p' q' v → X p q v
  pub of_values : {p p' q q' : ℕ} (vs : Values) → p ≤ p' → q' ≤ q → Y p' q' vs → Y p q vs
  pub at-atom : {p q : ℕ} (a : Atom) → A p q a → X p q (atom a)
  pub at-list : {p q : ℕ} (b : ℕ) (vs : Values) → p < b → b < q → Y p q vs → X p q (list b vs)
  pub at_named : {p q : ℕ} (a : Atom) (v : Value) → A p q a → X p q v → X p q (named a v)
  pub at_none : {p q : ℕ} → Y p q none
  pub at_more : {p q : ℕ} (v : Value) (vs : Values) → X p q v → Y p q vs → Y p q (more v vs)

module _ (A : ℕ → ℕ → Atom → Type 0) (X : ℕ → ℕ → Value → Type 0) (Y : ℕ → ℕ → Values → Type 0) (C : Claim A X Y) (tok : ℕ → Token) (N : ℕ) (ta : (p : ℕ) → Has A p N (tok p)) where
  module _ (f : ℕ → Out Value) (fa : (p : ℕ) → Ends X p N (f p)) where
    pub values-hold : (n p : ℕ) → Ends Y p N (values_by tok f n p)
    unfolding values_by
    values-hold zero p = tt
    values-hold (suc n) p =
        or-ends Y p N (mark_of 0xf1 (tok p)) _ (λ q. C.at_none) (mark-ends A 0xf1 p N (tok p) (ta p))
        (then-ends X Y p p N (f p) _ (fa p) (λ v q h k x.
        then-ends Y Y p q N (values_by tok f n q) _ (values-hold n q) (λ vs r i j y.
        (omega arith, j, C.at_more v vs (C.of-value v (omega arith) (omega arith) x) (C.of_values vs (omega arith) (omega arith) y)))))

    list-holds : (n p b : ℕ) → p < b → Ends X p N (list_by tok f n b)
    unfolding list_by
    list-holds n p b h = then-ends Y X p b N (values_by tok f n b) _ (values-hold n b) (λ vs q i j y.
        (omega arith, j, C.at-list b vs h i (C.of_values vs (omega arith) (omega arith) y)))

    named-holds : (p b : ℕ) → p < b → Ends X p N (named_by tok f b)
    unfolding named_by
    named-holds p b h =
        then-ends A X p b N (atom_is (tok b)) _ (atom-ends A b N (tok b) (ta b)) (λ a q i j x.
        then-ends X X p q N (f q) _ (fa q) (λ v r k l y.
        then-ends Any X p r N (mark_of 0xf3 (tok r)) _ (mark-ends A 0xf3 r N (tok r) (ta r)) (λ u z m o w.
        (omega arith, o, C.at_named a v (C.of-atom a (omega arith) (omega arith) x) (C.of-value v (omega arith) (omega arith) y)))))

    nest_holds : (n p c b : ℕ) → p < b → Ends X p N (nest_by tok f n c b)
    unfolding nest_by
    nest_holds n p c b h = go (eqb c 0xf0) (eqb c 0xf2)
      where
        go : (t u : Bool) → Ends X p N (cond t (list_by tok f n b) (cond u (named_by tok f b) bad))
        go true u = list-holds n p b h
        go false true = named-holds p b h
        go false false = tt

  token-holds : (nest : ℕ → ℕ → Out Value) (p : ℕ) (t : Token) → Has A p N t → ((c q : ℕ) → p < q → Ends X p N (nest c q)) → Ends X p N (value_of nest t)
  unfolding value_of
  token-holds nest p (K.Int v q) h g = (h.0, h.1, C.at-atom (int v) h.2)
  token-holds nest p (K.Bytes b n q) h g = (h.0, h.1, C.at-atom (bytes b n) h.2)
  token-holds nest p (K.Control c q) h g = g c q h.0
  token-holds nest p K.End h g = tt
  token-holds nest p K.Broken h g = tt

  pub value-holds : (n d p : ℕ) → Ends X p N (value_by tok n d p)
  unfolding value_by
  value-holds n zero p = token-holds (λ c q. bad) p (tok p) (ta p) (λ c q h. tt)
  value-holds n (suc d) p = token-holds (nest_by tok (value_by tok n d) n) p (tok p) (ta p) (λ c q h. nest_holds (value_by tok n d) (value-holds n d) n p c q h)

nothing : Claim Any Any Any
nothing = record {
  of-atom = λ a h k x. tt;
  of-value = λ v h k x. tt;
  of_values = λ vs h k x. tt;
  at-atom = λ a x. tt;
  at-list = λ b vs h k x. tt;
  at_named = λ a v x y. tt;
  at_none = tt;
  at_more = λ v vs x y. tt;
}

-- only where it ends
module _ (tok : ℕ → Token) (N : ℕ) (ta : (p : ℕ) → Has Any p N (tok p)) where
  pub value-ends : (n d p : ℕ) → Ends Any p N (value_by tok n d p)
  value-ends = value-holds Any Any Any nothing tok N ta
