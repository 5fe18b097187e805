-- `tape::triple` meets its contract: three stores in a row.
use native.Mathlib.Omega.{arith}
use lib.ListN.{length-set}
use Rattle.tape.proofs.Puts.{over-three}
use Rattle.tape.proofs.triple.Goals as goal

pub bounds-tape-p-2 : goal.bounds-tape-p-2
bounds-tape-p-2 c = simp length-set (omega arith)

pub bounds-tape-p-3 : goal.bounds-tape-p-3
bounds-tape-p-3 c = simp length-set (omega arith)

pub returns : goal.returns
returns c = over-three c.args.tape.now c.args.p c.args.a c.args.b c.args.c (omega arith)
