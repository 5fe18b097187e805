-- `clear` meets its contract. Every sector from `start` up to `at` lets pass; a run that has one owner is judged by its first sector.
use Prim.Native.Nat.{◌≤◌, ◌-◌}
use Rattle.ranges.proofs.Verdicts.{Passed}
use Rattle.ranges.proofs.clear.Given as goal

abbrev pub invariant-loop-at : goal.invariant-loop-at
invariant-loop-at l = (l.start ≤ l.at) × (l.at ≤ l.end) × Passed l.rows l.write l.start l.at

abbrev pub decreases-loop-at : goal.decreases-loop-at
decreases-loop-at l = l.end - l.at
