-- `tape::fill` meets its contract. The loop's invariant: the nodes before j are passed, and their bytes stand in the buffer from at to p.
use Rattle.tape.proofs.Filled.{Filled}
use Rattle.tape.proofs.fill.Given as goal

abbrev pub invariant-loop-j : goal.invariant-loop-j
invariant-loop-j l = Filled l.tape.nodes.now l.tape.bytes.now l.i l.q l.at l.initial.out l.j l.p l.out
