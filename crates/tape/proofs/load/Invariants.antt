-- `tape::load` meets its contract. The loop's invariant: the tokens before p are passed, and their words stand on the tape from the node i on.
use Prim.Native.Nat.{◌-◌}
use Rattle.tape.proofs.Loaded.{Loaded}
use Rattle.tape.proofs.load.Given as goal

abbrev pub invariant-loop-p : goal.invariant-loop-p
invariant-loop-p l = Loaded l.s l.at l.z l.initial.tape l.i l.p l.j l.tape

abbrev pub decreases-loop-p : goal.decreases-loop-p
decreases-loop-p l = l.z - l.p
