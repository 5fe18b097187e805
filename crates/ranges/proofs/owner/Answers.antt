-- `owner` meets its contract.
use mathlib.Core.Path.{◌≡◌, ◌∙◌, ap}
use lib.ListN.{length}
use native.Mathlib.Omega.{arith}
use Rattle.ranges.specs.Owner.{owner_below, owner_of}
use Rattle.ranges.proofs.owner.Goals as goal

pub returns : goal.returns
unfolding owner_of
returns c =
    let e : c.loop-i.i ≡ length c.args.rows = omega arith in
    c.loop-i.invariant ∙ ap (owner_below c.args.rows c.args.s) e
