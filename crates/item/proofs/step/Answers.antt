-- `step` tells the end, a named value, any other value and nothing apart.
use mathlib.Core.Path.{sym}
use Rattle.value.specs.Read.{value_at}
use Rattle.value.proofs.Outs.{marked}
use Rattle.value.proofs.Values.{value-by}
use Rattle.item.proofs.Faces.{step-shut, step-bad, step-one, step-named, step-plain}
use Rattle.item.proofs.step.Goals as goal

pub returns-in-Some : goal.returns-in-Some
returns-in-Some c = sym (step-shut _ (value_at c.args.s.now c.args.depth c.args.at) _ (marked 0xf1 c.read-t.ensures c.mark.ensures c.in-Some.is))

pub returns-in_default-opened_in : goal.returns-in_default-opened_in
returns-in_default-opened_in c =
    sym (step-bad _ _ (marked 0xf1 c.read-t.ensures c.mark.ensures c.in_default.is) (value-by _ _ _ _ c.read-t.ensures c.opened_in.ensures c.in_default-opened_in.is))

pub returns-in-Some-mark : goal.returns-in-Some-mark
returns-in-Some-mark c =
    step-one _ _ _ _ (marked 0xf1 c.read-t.ensures c.mark.ensures c.in_default.is) (value-by _ _ _ _ c.read-t.ensures c.opened_in.ensures c.in-Some-opened_in.is)
    (λ w h. c.named.ensures _ w (step-named c.args.s.now _ _ _ _ w (marked 0xf2 c.read-t.ensures c.mark-2.ensures c.in-Some-mark.is) h))

pub returns-in-None : goal.returns-in-None
returns-in-None c =
    step-one _ _ _ _ (marked 0xf1 c.read-t.ensures c.mark.ensures c.in_default.is) (value-by _ _ _ _ c.read-t.ensures c.opened_in.ensures c.in-Some-opened_in.is)
    (λ w h. step-plain c.args.s.now _ _ _ _ w c.read-t.ensures c.flat.ensures (marked 0xf2 c.read-t.ensures c.mark-2.ensures c.in-None.is) h)
