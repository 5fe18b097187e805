-- `owner` meets its contract. The loop has found the owner among the rows that it passed.
use mathlib.Core.Path.{◌≡◌}
use Rattle.ranges.specs.Owner.{owner_below}
use Rattle.ranges.proofs.owner.Given as goal

abbrev pub invariant-loop-i : goal.invariant-loop-i
invariant-loop-i l = l.got ≡ owner_below l.rows l.s l.i
