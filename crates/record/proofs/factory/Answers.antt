-- `factory` meets its contract: N and the MSID in bounds, or number 1.
use mathlib.Core.Path.{refl, sym, ◌∙◌}
use native.Mathlib.Omega.{arith}
use lib.ListN.{length}
use borrow.Author.Tests.{eq-eqb, ne_eqb}
use Rattle.model.specs.Step.{made}
use Rattle.record.proofs.factory.Goals as goal
use Rattle.record.proofs.factory.Goals.{then-size_ok+else-msid-eq-PIN_BYTES, else-size_ok}

pub returns-then-msid-eq-PIN_BYTES : goal.returns-then-msid-eq-PIN_BYTES
unfolding made
returns-then-msid-eq-PIN_BYTES c =
    rw (c.factory_card-card.ensures, c.msid_of-bytes.ensures, sym c.size_ok.ensures ∙ c.if-size_ok.true, eq-eqb (length c.args.msid.now) 32 (omega arith)) refl

pub returns : goal.returns
unfolding made
returns c =
    let size = sym c.size_ok.ensures in
    elim c.if-size_ok.branch [
      | then-size_ok+else-msid-eq-PIN_BYTES w ↦ rw (c.refused.ensures, size ∙ w.if-size_ok.true, ne_eqb _ _ w.if-msid-eq-PIN_BYTES.false) refl
      | else-size_ok w ↦ rw (c.refused.ensures, size ∙ w.if-size_ok.false) refl
    ]
