-- `tape::room` meets its contract. The loop's invariant: the nodes before j are passed, and p is the place behind their bytes.
use Rattle.tape.proofs.Filled.{Measured}
use Rattle.tape.proofs.room.Given as goal

abbrev pub invariant-loop-j : goal.invariant-loop-j
invariant-loop-j l = Measured l.tape.nodes.now l.tape.bytes.now l.i l.q l.at l.n l.j l.p
