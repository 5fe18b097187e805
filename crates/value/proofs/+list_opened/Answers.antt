use mathlib.Core.Path.{◌≡◌, refl, sym, ◌∙◌}
use native.Mathlib.Omega.{arith}
use Rattle.value.proofs.Sources.{at-atom, at-deep, at-list, at_other, at-no-name, at-no-value, at_named, list-shut, list-broken, list_on, value-ahead}
use Rattle.value.proofs.Outs.{marked, called}
use Rattle.value.proofs.Values.{value-by}
use Rattle.value.proofs.+list_opened.Goals as goal

pub list-returns-in-Some : goal.list-returns-in-Some
list-returns-in-Some g t c = sym (c.loop-q.invariant ∙ list-shut _ _ (g.met.S.Source.ahead c.args.from) _ _ _ (marked 0xf1 c.token-t.ensures c.mark.ensures c.in-Some.is))

pub list-returns-in_err-i : goal.list-returns-in_err-i
list-returns-in_err-i g t c = c.from_residual.ensures ∙ sym (c.loop-q.invariant ∙ list-broken _ _ (g.met.S.Source.ahead c.args.from) _ _ (marked 0xf1 c.token-t.ensures c.mark.ensures c.in_default.is) (value-by _ _ _ _ c.token-t.ensures c.opened.ensures c.in_err-i.was))

pub list-loop-q-smaller : goal.list-loop-q-smaller
list-loop-q-smaller g t c = let h = value-ahead _ _ (g.met.S.Source.ahead c.args.from) _ _ _ (value-by _ _ _ _ c.token-t.ensures c.opened.ensures c.in_ok-i.was) in omega arith

pub list-loop-q-preserved : goal.list-loop-q-preserved
list-loop-q-preserved g t c = c.loop-q.invariant ∙ list_on _ _ (g.met.S.Source.ahead c.args.from) _ _ _ (marked 0xf1 c.token-t.ensures c.mark.ensures c.in_default.is) (value-by _ _ _ _ c.token-t.ensures c.opened.ensures c.in_ok-i.was)

pub opened-returns-in_default : goal.opened-returns-in_default
opened-returns-in_default g t c = c.name.ensures ∙ sym (at-atom _ _ _ _ c.in_default.not-Control)

pub opened-returns-then-depth-eq0 : goal.opened-returns-then-depth-eq0
opened-returns-then-depth-eq0 g t c = sym (at-deep _ _ _ _ _ _ c.if-depth-eq0.true c.in-Control.is)

pub opened-returns-in_err-p-in-242 : goal.opened-returns-in_err-p-in-242
opened-returns-in_err-p-in-242 g t c = c.from_residual.ensures ∙ sym (at-no-name _ _ _ _ _ _ c.if-depth-eq0.false c.in-Control.is c.in-242.is (called c.token.ensures c.name-in-242.ensures c.in_err-p-in-242.was))

pub opened-returns-in_err-q-in-242 : goal.opened-returns-in_err-q-in-242
opened-returns-in_err-q-in-242 g t c = c.from_residual-in_err-q-in-242.ensures ∙ sym (at-no-value _ _ _ _ _ _ c.if-depth-eq0.false c.in-Control.is c.in-242.is _ (called c.token.ensures c.name-in-242.ensures c.in_ok-p-in-242.was) (value-by _ _ _ _ c.token-in-242.ensures c.opened.ensures c.in_err-q-in-242.was))

pub opened-returns-in-240 : goal.opened-returns-in-240
opened-returns-in-240 g t c = c.list.ensures ∙ sym (at-list _ _ _ _ _ _ c.if-depth-eq0.false c.in-Control.is c.in-240.is)

pub opened-returns-in_ok-q-in-242 : goal.opened-returns-in_ok-q-in-242
opened-returns-in_ok-q-in-242 g t c = sym (at_named _ _ _ _ _ _ c.if-depth-eq0.false c.in-Control.is c.in-242.is _ _ (called c.token.ensures c.name-in-242.ensures c.in_ok-p-in-242.was) (value-by _ _ _ _ c.token-in-242.ensures c.opened.ensures c.in_ok-q-in-242.was) ∙ marked 0xf3 c.token-in-242-2.ensures c.mark.ensures refl)

pub opened-returns-in_default-code : goal.opened-returns-in_default-code
opened-returns-in_default-code g t c = sym (at_other _ _ _ _ _ _ c.if-depth-eq0.false c.in-Control.is (λ (h : c.in-Control.code ≡ 0xf0). omega arith) (λ (h : c.in-Control.code ≡ 0xf2). omega arith))
