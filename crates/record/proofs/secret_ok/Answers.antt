use Prim.Native.Nat.{ℕ, zero, suc}
use mathlib.Core.Path.{◌≡◌, refl, sym, ◌∙◌, ap, ap₂}
use mathlib.Core.Bool.{Bool, ◌&&◌}
use native.Mathlib.Omega.{arith}
use lib.Bits.{bit_or, or_zero_l, or_add_and, and_le_r}
use lib.Dec.{eqb}
use lib.ListN.{length, drop}
use borrow.Author.Rules.{rules}
use borrow.Author.Tests.{le-leb, lt-leb, eq-eqb, ne_eqb}
use Rattle.std.specs.List.{list_all}
use Rattle.std.proofs.lemmas.List.{length-drop, take_all}
use Rattle.std.proofs.lemmas.List.Folds.{list_all_more}
use Rattle.model.specs.Record.{pin_bytes}
use Rattle.model.specs.Sound.{secret_ok}
use Rattle.record.proofs.Every.{all_from}
use Rattle.record.proofs.secret_ok.Goals as goal

-- an or is 0 where both parts are
or-zero : (a b : ℕ) → eqb (bit_or a b) 0 ≡ eqb a 0 && eqb b 0
or-zero zero b = ap (λ x. eqb x 0) (or_zero_l b)
or-zero (suc a) b =
    let sum = or_add_and (suc a) b in
    let less = and_le_r (suc a) b in
    rw (ne_eqb (bit_or (suc a) b) 0 (λ e. omega arith), ne_eqb (suc a) 0 (λ e. omega arith)) refl

pub returns-in_default : goal.returns-in_default
unfolding secret_ok
returns-in_default c =
    let many : length c.args.x.bytes ≡ pin_bytes = search rules in
    simp (lt-leb c.args.x.len pin_bytes (omega (arith, c.in_default.ensures.lookup.0)))

pub loop-b-preserved : goal.loop-b-preserved
loop-b-preserved c =
    let past = c.in-Some.past.now in
    or-zero c.loop-b.rest _ ∙ ap₂ ◌&&◌ c.loop-b.invariant refl ∙ sym (list_all_more (λ b. eqb b 0) past c.loop-b.b-index 0 (omega arith))

pub returns : goal.returns
unfolding secret_ok
returns c =
    let x = c.args.x in
    let many : length x.bytes ≡ pin_bytes = search rules in
    let cut = c.in-Some.ensures.lookup.0 in
    let zero_b : ℕ → Bool = λ b. eqb b 0 in
    let past : c.in-Some.past.now ≡ drop x.len x.bytes =
    cut.2 ∙ take_all _ _ (omega (arith, length-drop c.from.result x.bytes)) ∙ ap (λ k. drop k x.bytes) c.from.ensures in
    rw (le-leb x.len pin_bytes (omega (arith, cut.0)), eq-eqb _ _ many)
    (c.loop-b.invariant ∙ ap (list_all zero_b) (take_all _ _ c.loop-b-test.false ∙ past) ∙ all_from zero_b 0 x.bytes x.len pin_bytes many)
