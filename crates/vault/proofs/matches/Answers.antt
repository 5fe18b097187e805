use mathlib.Core.Path.{ap, ◌∙◌}
use native.Mathlib.Omega.{arith}
use lib.ListN.{length, length-take, take}
use Rattle.model.specs.Vault.{same}
use Rattle.vault.proofs.Alike.{alike-none, alike-more, alike_all}
use Rattle.vault.proofs.matches.Goals as goal

pub loop-i-init : goal.loop-i-init
loop-i-init c = alike-none c.part-stored.result.now c.args.sent.now

pub loop-i-preserved : goal.loop-i-preserved
loop-i-preserved c =
    rw (c.byte_of.ensures, c.byte_of-in-loop-i.ensures) (alike-more c.part-stored.result.now c.args.sent.now c.loop-i.i c.loop-i.equal c.loop-i.invariant)

pub returns : goal.returns
returns c =
    let x = c.args.x in
    let pin = c.part-stored.ensures ∙ ap (λ k. take k x.bytes) c.from.ensures in
    alike_all c.part-stored.result.now c.args.sent.now c.loop-i.i c.loop-i.equal (omega (arith, ap length pin, length-take x.len x.bytes)) c.loop-i.invariant ∙ ap (λ p. same p c.args.sent.now) pin
