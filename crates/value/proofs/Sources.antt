-- Where a value and a list end in any source of tokens, at what the tests of `opened` and `list` show.
use Prim.Native.Nat.{ℕ, ◌-◌, ◌≤◌, ◌<◌}
use mathlib.Core.Path.{◌≡◌, ap, ◌∙◌}
use native.Mathlib.Omega.{arith}
use Rattle.std.specs.Prelude.{Option, Some, None}
use Rattle.token.specs.declared.Token.{Token}
use Rattle.token.specs.declared.Token.TheVariants as K
use Rattle.value.specs.Value.{Value, Values, none}
use Rattle.value.specs.Read.{Out, end_of, mark_of, atom_is, named_by, nest_by, value_by, opened_by}
use Rattle.value.specs.Source.{values_from}
use Rattle.value.proofs.Outs.{Ends, Any, Has, end-at, end-bad, at_ahead}
use Rattle.value.proofs.Held.{value-ends}
use Rattle.value.proofs.Values.{opened-atom, opened-deep, opened-nest, nest-list, nest-named, nest-other, list-end, named_none, named-bad, named_ok, values-shut, values-broken, values-on}

module _ (tok : ℕ → Token) (N : ℕ) where
  -- ---- a value, by the token k that opens it
  module _ (d : ℕ) (k : Token) where
    abbrev it : Option ℕ
    it = end_of (opened_by tok N d k)

    abbrev by : {o : Out Value} (u : Token) → k ≡ u → opened_by tok N d u ≡ o → it ≡ end_of o
    by u e h = ap (λ (x : Token). end_of (opened_by tok N d x)) e ∙ ap end_of h

    pub at-atom : ((c b : ℕ) → k ≡ K.Control c b → ⊥) → it ≡ end_of (atom_is k)
    at-atom = opened-atom tok N d k

    pub at-deep : (c b : ℕ) → d ≡ 0 → k ≡ K.Control c b → it ≡ None
    at-deep c b h e = by (K.Control c b) e (opened-deep tok N d c b h) ∙ end-bad Value

    -- what the control token c opens before b
    module _ (c b : ℕ) (h : d ≡ 0 → ⊥) (e : k ≡ K.Control c b) where
      abbrev f : ℕ → Out Value
      f = value_by tok N (d - 1)

      nest : it ≡ end_of (nest_by tok f N c b)
      nest = by (K.Control c b) e (opened-nest tok N d c b h)

      pub at-list : c ≡ 0xf0 → it ≡ end_of (values_from tok N (d - 1) b)
      at-list i = nest ∙ ap end_of (nest-list tok f N c b i) ∙ list-end tok f N b

      pub at_other : (c ≡ 0xf0 → ⊥) → (c ≡ 0xf2 → ⊥) → it ≡ None
      at_other i j = nest ∙ ap end_of (nest-other tok f N c b i j) ∙ end-bad Value

      module _ (j : c ≡ 0xf2) where
        named : it ≡ end_of (named_by tok f b)
        named = nest ∙ ap end_of (nest-named tok f N c b (λ (i : c ≡ 0xf0). omega arith) j)

        pub at-no-name : end_of (atom_is (tok b)) ≡ None → it ≡ None
        at-no-name l = named ∙ ap end_of (named_none tok f b l) ∙ end-bad Value

        pub at-no-value : (q : ℕ) → end_of (atom_is (tok b)) ≡ Some q → end_of (f q) ≡ None → it ≡ None
        at-no-value q l m = named ∙ named-bad tok f b q l m

        pub at_named : (q r : ℕ) → end_of (atom_is (tok b)) ≡ Some q → end_of (f q) ≡ Some r → it ≡ end_of (mark_of 0xf3 (tok r))
        at_named q r l m = named ∙ named_ok tok f b q r l m

  -- ---- a list
  module _ (held : (p : ℕ) → Has Any p N (tok p)) (d p : ℕ) where
    ends : (p : ℕ) → Ends Any p N (value_by tok N d p)
    ends = value-ends tok N (held) N d

    pub list-shut : (q : ℕ) → end_of (mark_of 0xf1 (tok p)) ≡ Some q → end_of (values_from tok N d p) ≡ Some q
    list-shut q e = ap end_of (values-shut tok N (held) (value_by tok N d) ends p q e) ∙ end-at none q

    pub list-broken : end_of (mark_of 0xf1 (tok p)) ≡ None → end_of (value_by tok N d p) ≡ None → end_of (values_from tok N d p) ≡ None
    list-broken e h = ap end_of (values-broken tok N (held) (value_by tok N d) ends p e h) ∙ end-bad Values

    pub list_on : (q : ℕ) → end_of (mark_of 0xf1 (tok p)) ≡ None → end_of (value_by tok N d p) ≡ Some q → end_of (values_from tok N d p) ≡ end_of (values_from tok N d q)
    list_on q e h = values-on tok N (held) (value_by tok N d) ends p q e h

    pub value-ahead : (q : ℕ) → end_of (value_by tok N d p) ≡ Some q → (p < q) × (q ≤ N)
    value-ahead q e = at_ahead p N q (value_by tok N d p) (ends p) e
