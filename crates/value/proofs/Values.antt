-- `opened_by` and `values_by` at what the tests of `opened` and `list` show, for any source whose tokens end past their start and by N; the bound on the steps never shows.
use Prim.Native.Nat.{ℕ, zero, suc, ◌-◌, ◌≤◌, ◌<◌}
use mathlib.Core.Path.{◌≡◌, refl, sym, ap, ◌∙◌}
use native.Mathlib.Omega.{arith}
use native.Mathlib.Numerals.{sub-one}
use borrow.Author.Tests.{eq-eqb, ne_eqb}
use Rattle.token.specs.declared.Token.{Token}
use Rattle.token.specs.declared.Token.TheVariants as K
use Rattle.std.specs.Prelude.{Option, Some, None}
use Rattle.value.specs.Value.{Value, list, named, Values, none, more}
use Rattle.value.specs.Read.{Out, ok, bad, then, end_of, mark_of, atom_is, end_or, values_by, list_by, named_by, nest_by, value_of, value_by, opened_by}
use Rattle.value.proofs.Outs.{Ends, Any, Has, mark-ends, then-agree, then-past, then-bad, then_at, then_is, then-made, end_is, end-bad, or-past, or_at, or-on}

-- ---- a value, by the token that opens it
plain : (nest : ℕ → ℕ → Out Value) (k : Token) → ((c q : ℕ) → k ≡ K.Control c q → ⊥) → end_of (value_of nest k) ≡ end_of (atom_is k)
unfolding value_of atom_is end_of
plain nest (K.Int v q) h = refl
plain nest (K.Bytes b m q) h = refl
plain nest (K.Control c q) h = absurd (h c q refl)
plain nest K.End h = refl
plain nest K.Broken h = refl

module _ (tok : ℕ → Token) (n : ℕ) where
  opens : (d p : ℕ) → value_by tok n d p ≡ opened_by tok n d (tok p)
  unfolding value_by opened_by
  opens zero p = refl
  opens (suc d) p = refl

  -- the value at p ends where that ends which the token there opens
  pub value-by : (d p : ℕ) {t : Token} {e z : Option ℕ} → t ≡ tok p → e ≡ end_of (opened_by tok n d t) → e ≡ z → end_of (value_by tok n d p) ≡ z
  value-by d p h k i = ap end_of (opens d p) ∙ ap (λ (x : Token). end_of (opened_by tok n d x)) (sym h) ∙ sym k ∙ i

  -- an atom is a value, and nothing else but what a control token opens
  pub opened-atom : (d : ℕ) (k : Token) → ((c q : ℕ) → k ≡ K.Control c q → ⊥) → end_of (opened_by tok n d k) ≡ end_of (atom_is k)
  unfolding opened_by
  opened-atom zero k h = plain _ k h
  opened-atom (suc d) k h = plain _ k h

  pub opened-deep : (d c q : ℕ) → d ≡ 0 → opened_by tok n d (K.Control c q) ≡ bad
  unfolding opened_by value_of
  opened-deep zero c q h = refl
  opened-deep (suc d) c q h = absurd (omega arith)

  pub opened-nest : (d c q : ℕ) → (d ≡ 0 → ⊥) → opened_by tok n d (K.Control c q) ≡ nest_by tok (value_by tok n (d - 1)) n c q
  unfolding opened_by value_of
  opened-nest zero c q h = absurd (h refl)
  opened-nest (suc d) c q h = rw (sub-one (suc d))

module _ (tok : ℕ → Token) (f : ℕ → Out Value) (n c p : ℕ) where
  pub nest-list : c ≡ 0xf0 → nest_by tok f n c p ≡ list_by tok f n p
  unfolding nest_by
  nest-list h = simp (eq-eqb c 0xf0 h)

  pub nest-named : (c ≡ 0xf0 → ⊥) → c ≡ 0xf2 → nest_by tok f n c p ≡ named_by tok f p
  unfolding nest_by
  nest-named h k = simp (ne_eqb c 0xf0 h, eq-eqb c 0xf2 k)

  pub nest-other : (c ≡ 0xf0 → ⊥) → (c ≡ 0xf2 → ⊥) → nest_by tok f n c p ≡ bad
  unfolding nest_by
  nest-other h k = simp (ne_eqb c 0xf0 h, ne_eqb c 0xf2 k)

pub list-end : (tok : ℕ → Token) (f : ℕ → Out Value) (n p : ℕ) → end_of (list_by tok f n p) ≡ end_of (values_by tok f n p)
unfolding list_by
list-end tok f n p = then-made (values_by tok f n p) (list p)

-- ---- a named value
module _ (tok : ℕ → Token) (f : ℕ → Out Value) (p : ℕ) where
  pub named_none : end_of (atom_is (tok p)) ≡ None → named_by tok f p ≡ bad
  unfolding named_by
  named_none e = then-bad (atom_is (tok p)) _ e

  pub named-bad : (q : ℕ) → end_of (atom_is (tok p)) ≡ Some q → end_of (f q) ≡ None → end_of (named_by tok f p) ≡ None
  unfolding named_by
  named-bad q e h = then_at (atom_is (tok p)) _ q None e (λ a. rw (then-bad (f q) _ h) (end-bad Value))

  pub named_ok : (q r : ℕ) → end_of (atom_is (tok p)) ≡ Some q → end_of (f q) ≡ Some r → end_of (named_by tok f p) ≡ end_of (mark_of 0xf3 (tok r))
  unfolding named_by
  named_ok q r e h =
      then_at (atom_is (tok p)) _ q _ e (λ a.
      then_at (f q) _ r _ h (λ v.
      then-made (mark_of 0xf3 (tok r)) (λ u. named a v)))

-- ---- the values of a list
module _ (tok : ℕ → Token) (N : ℕ) (ta : (p : ℕ) → Has Any p N (tok p)) (f : ℕ → Out Value) (fa : (p : ℕ) → Ends Any p N (f p)) where
  past : (n p : ℕ) → N ≤ p → values_by tok f n p ≡ bad
  unfolding values_by
  past zero p h = refl
  past (suc n) p h = or-past p N (mark_of 0xf1 (tok p)) _ (mark-ends Any 0xf1 p N (tok p) (ta p)) h ∙ then-past p N (f p) _ (fa p) h

  enough : (n m p : ℕ) → N - p ≤ n → N - p ≤ m → values_by tok f n p ≡ values_by tok f m p
  unfolding values_by
  enough zero m p h i = sym (past m p (omega arith))
  enough (suc n) zero p h i = past (suc n) p (omega arith)
  enough (suc n) (suc m) p h i =
      ap (end_or (mark_of 0xf1 (tok p)))
      (then-agree p N (f p) _ _ (fa p) (λ v q (w : p < q).
      ap (λ (o : Out Values). then o (λ vs r. ok (more v vs) r)) (enough n m q (omega arith) (omega arith))))

  one_more : (n p : ℕ) → values_by tok f (suc n) p ≡ end_or (mark_of 0xf1 (tok p)) (then (f p) (λ v q. then (values_by tok f n q) (λ vs r. ok (more v vs) r)))
  unfolding values_by
  one_more n p = refl

  -- THE STEP: the values from p on are the end of the list, or one value and the values from where it ends
  pub values-step : (p : ℕ) → values_by tok f N p ≡ end_or (mark_of 0xf1 (tok p)) (then (f p) (λ v q. then (values_by tok f N q) (λ vs r. ok (more v vs) r)))
  values-step p = enough N (suc N) p (omega arith) (omega arith) ∙ one_more N p

  pub values-shut : (p q : ℕ) → end_of (mark_of 0xf1 (tok p)) ≡ Some q → values_by tok f N p ≡ ok none q
  values-shut p q e = values-step p ∙ or_at (mark_of 0xf1 (tok p)) _ q e

  pub values-broken : (p : ℕ) → end_of (mark_of 0xf1 (tok p)) ≡ None → end_of (f p) ≡ None → values_by tok f N p ≡ bad
  values-broken p e h = values-step p ∙ or-on (mark_of 0xf1 (tok p)) _ e ∙ then-bad (f p) _ h

  pub values-more : (p q : ℕ) (v : Value) → end_of (mark_of 0xf1 (tok p)) ≡ None → f p ≡ ok v q → values_by tok f N p ≡ then (values_by tok f N q) (λ vs r. ok (more v vs) r)
  values-more p q v e h = values-step p ∙ or-on (mark_of 0xf1 (tok p)) _ e ∙ then_is (f p) _ v q h

  -- the list ends where its rest ends
  pub values-on : (p q : ℕ) → end_of (mark_of 0xf1 (tok p)) ≡ None → end_of (f p) ≡ Some q → end_of (values_by tok f N p) ≡ end_of (values_by tok f N q)
  values-on p q e h =
      let v = end_is (f p) q h in
      ap end_of (values-more p q v.0 e v.1) ∙ then-made (values_by tok f N q) (more v.0)
