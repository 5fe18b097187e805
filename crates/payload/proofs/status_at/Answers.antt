-- `status_at` reads F0, three zeros and F1, each from where the one before it ends.
use mathlib.Core.Path.{sym, ap, ◌∙◌}
use Rattle.value.specs.Read.{end_of}
use Rattle.value.proofs.Outs.{then-bad, end-bad}
use Rattle.payload.specs.Payload.{status_at}
use Rattle.payload.proofs.Steps.{on}
use Rattle.payload.proofs.status_at.Goals as goal

pub returns-in_err-a : goal.returns-in_err-a
unfolding status_at
returns-in_err-a c = c.from_residual.ensures ∙ sym (ap end_of (then-bad _ _ (sym c.in_err-a.ensures)) ∙ end-bad _)

pub returns-in_err-b : goal.returns-in_err-b
unfolding status_at
returns-in_err-b c =
    c.from_residual-in_err-b.ensures ∙ sym (ap end_of (
    on _ _ _ (sym c.in_ok-a.ensures) ∙
    then-bad _ _ (sym c.in_err-b.ensures)) ∙ end-bad _)

pub returns-in_err-c : goal.returns-in_err-c
unfolding status_at
returns-in_err-c c =
    c.from_residual-in_err-c.ensures ∙ sym (ap end_of (
    on _ _ _ (sym c.in_ok-a.ensures) ∙
    on _ _ _ (sym c.in_ok-b.ensures) ∙
    then-bad _ _ (sym c.in_err-c.ensures)) ∙ end-bad _)

pub returns-in_err-d : goal.returns-in_err-d
unfolding status_at
returns-in_err-d c =
    c.from_residual-in_err-d.ensures ∙ sym (ap end_of (
    on _ _ _ (sym c.in_ok-a.ensures) ∙
    on _ _ _ (sym c.in_ok-b.ensures) ∙
    on _ _ _ (sym c.in_ok-c.ensures) ∙
    then-bad _ _ (sym c.in_err-d.ensures)) ∙ end-bad _)

pub returns : goal.returns
unfolding status_at
returns c =
    c.mark_at-2.ensures ∙ sym (ap end_of (
    on _ _ _ (sym c.in_ok-a.ensures) ∙
    on _ _ _ (sym c.in_ok-b.ensures) ∙
    on _ _ _ (sym c.in_ok-c.ensures) ∙
    on _ _ _ (sym c.in_ok-d.ensures)))
