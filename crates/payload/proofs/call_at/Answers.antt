-- `call_at` reads two UIDs, a list, F9 and the status, each from where the one before it ends.
use mathlib.Core.Path.{sym, ◌∙◌}
use Rattle.value.proofs.Outs.{then-bad, then_is}
use Rattle.value.specs.Read.{then}
use Rattle.payload.specs.Found.{found}
use Rattle.payload.specs.Payload.{call_at}
use Rattle.payload.proofs.Steps.{on, no-list, no-values, in_list}
use Rattle.payload.proofs.call_at.Goals as goal

pub returns-in_err-object : goal.returns-in_err-object
unfolding call_at then found
returns-in_err-object c = rw (c.from_residual.ensures, c.in_err-object.ensures)

pub returns-in_err-method : goal.returns-in_err-method
unfolding call_at then found
returns-in_err-method c = rw (c.from_residual-in_err-method.ensures, c.in_ok-object.ensures, c.in_err-method.ensures)

pub returns-in_err-params : goal.returns-in_err-params
unfolding call_at found
returns-in_err-params c =
    rw c.from_residual-in_err-params.ensures (
    then_is _ _ _ _ c.in_ok-object.ensures ∙
    then_is _ _ _ _ c.in_ok-method.ensures ∙
    no-list _ _ _ (sym c.in_err-params.ensures))

pub returns-in_err-c : goal.returns-in_err-c
unfolding call_at found
returns-in_err-c c =
    rw c.from_residual-in_err-c.ensures (
    then_is _ _ _ _ c.in_ok-object.ensures ∙
    then_is _ _ _ _ c.in_ok-method.ensures ∙
    no-values _ _ _ _ (sym c.in_ok-params.ensures) (sym c.in_err-c.ensures))

pub returns-in_err-d : goal.returns-in_err-d
unfolding call_at found
returns-in_err-d c =
    rw c.from_residual-in_err-d.ensures (
    then_is _ _ _ _ c.in_ok-object.ensures ∙
    then_is _ _ _ _ c.in_ok-method.ensures ∙
    in_list _ _ _ _ _ (sym c.in_ok-params.ensures) (sym c.in_ok-c.ensures) ∙
    then-bad _ _ (sym c.in_err-d.ensures))

pub returns-in_err-e : goal.returns-in_err-e
unfolding call_at found
returns-in_err-e c =
    rw c.from_residual-in_err-e.ensures (
    then_is _ _ _ _ c.in_ok-object.ensures ∙
    then_is _ _ _ _ c.in_ok-method.ensures ∙
    in_list _ _ _ _ _ (sym c.in_ok-params.ensures) (sym c.in_ok-c.ensures) ∙
    on _ _ _ (sym c.in_ok-d.ensures) ∙
    then-bad _ _ (sym c.in_err-e.ensures))

pub returns : goal.returns
unfolding call_at found
returns c =
    then_is _ _ _ _ c.in_ok-object.ensures ∙
    then_is _ _ _ _ c.in_ok-method.ensures ∙
    in_list _ _ _ _ _ (sym c.in_ok-params.ensures) (sym c.in_ok-c.ensures) ∙
    on _ _ _ (sym c.in_ok-d.ensures) ∙
    on _ _ _ (sym c.in_ok-e.ensures)
