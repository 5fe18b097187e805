-- One part behind another.
use mathlib.Core.Path.{refl}
use native.Mathlib.Omega.{arith}
use Rattle.image.proofs.Puts.{started, turned}
use Rattle.image.proofs.put_each.Goals as goal

pub loop-x-init : goal.loop-x-init
loop-x-init g c = (refl, started g.T.Part.bytes g.T.Part.size _ _ c.args.l.now)

pub loop-x-preserved : goal.loop-x-preserved
loop-x-preserved g c =
    let l = c.loop-x in
    let part = g.T.Part in
    (omega arith, turned part.bytes part.size c.args.l.now l.x-index c.x-item.result _ _ _ _ _ _ c.loop-x-test.true c.x-item.is c.requires l.invariant.1 c.put-p.ensures)
