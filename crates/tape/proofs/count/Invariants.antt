-- `tape::count` meets its contract. The loop's invariant: the tokens before p are passed, and m of them.
use Prim.Native.Nat.{◌-◌}
use Rattle.tape.proofs.Loaded.{Counted}
use Rattle.tape.proofs.count.Given as goal

abbrev pub invariant-loop-p : goal.invariant-loop-p
invariant-loop-p l = Counted l.s l.at l.z l.p l.m

abbrev pub decreases-loop-p : goal.decreases-loop-p
decreases-loop-p l = l.z - l.p
