-- Going on from where something ends, as the code does; and a list as F0 and what it holds.
use Prim.Native.Nat.{ℕ}
use mathlib.Core.Path.{◌≡◌, refl, ap, ◌∙◌}
use mathlib.Core.List.{List}
use mathlib.Core.Bool.{Bool, true, false, cond}
use lib.Dec.{eqb}
use Rattle.std.specs.Prelude.{Some, None}
use Rattle.token.specs.declared.Token.{Token}
use Rattle.token.specs.declared.Token.TheVariants as K
use Rattle.token.specs.Token.{token_at}
use Rattle.value.specs.Value.{Value, named, list}
use Rattle.value.specs.Read.{Out, ok, bad, then, end_of, mark_of, atom_is, values_by, list_by, named_by, nest_by, value_of, value_by, value_at, values_at}
use Rattle.payload.specs.Payload.{mark_at, list_is, list_at}
use Rattle.value.proofs.Outs.{end_is, then-bad}

module _ {A B : Type 0} where
  none : (o : Out A) (k : A → ℕ → Out B) → ((a : A) (q : ℕ) → k a q ≡ bad) → then o k ≡ bad
  unfolding then
  none (ok a q) k h = h a q
  none bad k h = refl

  both : {C : Type 0} (o : Out A) (k : A → ℕ → Out B) (l : B → ℕ → Out C) → then (then o k) l ≡ then o (λ a q. then (k a q) l)
  unfolding then
  both (ok a q) k l = refl
  both bad k l = refl

  -- only where it ends matters
  pub on : (o : Out A) (k : ℕ → Out B) (q : ℕ) → end_of o ≡ Some q → then o (λ a r. k r) ≡ k q
  unfolding then
  on o k q e = let h = end_is o q e in rw h.1

-- a value that is a list is F0 and what a list holds, one level further in
module _ (tok : ℕ → Token) (f : ℕ → Out Value) (n : ℕ) where
  not_named : (p : ℕ) → then (named_by tok f p) list_is ≡ bad
  unfolding named_by then list_is
  not_named p =
      both (atom_is (tok p)) _ list_is ∙ none (atom_is (tok p)) _ (λ a q.
      both (f q) _ list_is ∙ none (f q) _ (λ v r.
      both (mark_of 0xf3 (tok r)) (λ u z. ok (named a v) z) list_is ∙ none (mark_of 0xf3 (tok r)) _ (λ u z. refl)))

  list-by : (t : Token) → then (value_of (nest_by tok f n) t) list_is ≡ then (mark_of 0xf0 t) (λ u p. then (values_by tok f n p) (λ vs q. ok p q))
  unfolding value_of nest_by list_by mark_of then list_is
  list-by (K.Int v q) = refl
  list-by (K.Bytes p m q) = refl
  list-by (K.Control c q) = go (eqb c 0xf0) (eqb c 0xf2)
    where
      go : (t u : Bool) → then (cond t (list_by tok f n q) (cond u (named_by tok f q) bad)) list_is ≡ then (cond t (ok (tt {0}) q) bad) (λ u p. then (values_by tok f n p) (λ vs q. ok p q))
      go true u = both (values_by tok f n q) (λ vs r. ok (list q vs) r) list_is
      go false true = not_named q
      go false false = refl
  list-by K.End = refl
  list-by K.Broken = refl

module _ (s : List ℕ) (p : ℕ) where
  pub list-is : list_at s p ≡ then (mark_at s 0xf0 p) (λ u b. then (values_at s 15 b) (λ vs q. ok b q))
  unfolding value_by
  list-is = list-by (token_at s) (value_at s 15) _ (token_at s p)

  module _ {A : Type 0} (k : ℕ → ℕ → Out A) where
    pub no-list : end_of (mark_at s 0xf0 p) ≡ None → then (list_at s p) k ≡ bad
    unfolding then
    no-list h = ap (λ (o : Out ℕ). then o k) (list-is ∙ then-bad _ _ h)

    pub no-values : (b : ℕ) → end_of (mark_at s 0xf0 p) ≡ Some b → end_of (values_at s 15 b) ≡ None → then (list_at s p) k ≡ bad
    unfolding then
    no-values b h i = ap (λ (o : Out ℕ). then o k) (list-is ∙ on _ _ _ h ∙ then-bad _ _ i)

    pub in_list : (b q : ℕ) → end_of (mark_at s 0xf0 p) ≡ Some b → end_of (values_at s 15 b) ≡ Some q → then (list_at s p) k ≡ k b q
    unfolding then
    in_list b q h i = ap (λ (o : Out ℕ). then o k) (list-is ∙ on _ _ _ h ∙ on _ _ _ i)
