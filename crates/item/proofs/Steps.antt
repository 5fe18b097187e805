-- The one rule by which a step is used: it finds the end of the list, a value in front of the others, or nothing.
use Prim.Native.Nat.{ℕ}
use mathlib.Core.Path.{◌≡◌, refl, ◌∙◌}
use mathlib.Core.List.{List}
use Rattle.token.specs.Token.{token_at}
use Rattle.value.specs.Value.{int, bytes, Value, atom, list, named, Values, none}
use Rattle.value.specs.Read.{Out, ok, bad, then, mark_of, end_or, value_at, values_at}
use Rattle.value.proofs.Inside.{values-step}
use Rattle.item.specs.declared.Item.{Item}
use Rattle.item.specs.declared.Item.TheVariants as I
use Rattle.item.specs.Item.{item_of, step_of, step_at}
use Rattle.item.specs.Laws.{Follows, Found, Step}

-- what holds of the end, of each value that may come first, and of nothing, holds of a step
module _ (P : Item → Type 0) (s : List ℕ) (d p : ℕ)
    (at-end : (q : ℕ) → values_at s d p ≡ ok none q → P (I.Shut q))
    (at_value : (v : Value) (q : ℕ) → value_at s d p ≡ ok v q → Follows s d (values_at s d p) v q → P (item_of v q))
    (at-nothing : values_at s d p ≡ bad → P I.Broken) where
  by_parts : (m : Out (Unit {0})) (o : Out Value) → mark_of 0xf1 (token_at s p) ≡ m → value_at s d p ≡ o → P (step_of m o)
  unfolding step_of end_or then
  by_parts (ok u q) o e h = at-end q (values-step s d p ∙ rw e)
  by_parts bad (ok v q) e h = at_value v q h (values-step s d p ∙ rw (e, h))
  by_parts bad bad e h = at-nothing (values-step s d p ∙ rw (e, h))

  pub by-step : P (step_at s d p)
  by-step = by_parts (mark_of 0xf1 (token_at s p)) (value_at s d p) refl refl

-- what a step says of the whole list
item-found : (s : List ℕ) (d : ℕ) (o : Out Values) (v : Value) (q : ℕ) → Follows s d o v q → Found s d o (item_of v q)
unfolding item_of
item-found s d o (atom a) q f = (atom a, refl, f)
item-found s d o (list b vs) q f = (list b vs, refl, f)
item-found s d o (named (int n) v) q f = (named (int n) v, refl, f)
item-found s d o (named (bytes b n) v) q f = (named (bytes b n) v, refl, f)

pub found : Step
found s d p = by-step (Found s d (values_at s d p)) s d p (λ q e. e) (λ v q h f. item-found s d (values_at s d p) v q f) (λ e. e)
