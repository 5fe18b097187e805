-- `put_resets` meets its contract, byte by byte.
use native.Mathlib.Omega.{arith}
use Rattle.answer.proofs.Written.{said, behind}
use Rattle.answer.proofs.Spelled.{resets-is, no-resets-is}
use Rattle.answer.proofs.put_resets.Goals as goal
use Rattle.answer.proofs.put_resets.Goals.{then-program, else-program}

pub returns : goal.returns
returns c =
    let front = behind c.put_byte-a.ensures c.put_byte-b.ensures (omega arith) in
    elim c.if-program.branch [
      | then-program w ↦
          let both = behind front w.put_byte-c.ensures (omega arith) in
          said (behind both (rw (w.out-is, w.c-is) at c.put_byte.ensures) (omega arith)) (resets-is _ w.if-program.true) (omega arith)
      | else-program w ↦ said (behind front (rw (w.out-is, w.c-is) at c.put_byte.ensures) (omega arith)) (no-resets-is _ w.if-program.false) (omega arith)
    ]
