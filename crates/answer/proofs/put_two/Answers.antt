-- `put_two` meets its contract, piece by piece.
use native.Mathlib.Omega.{arith}
use Rattle.answer.proofs.Written.{said, behind}
use Rattle.answer.proofs.Spelled.{two_is}
use Rattle.answer.proofs.put_two.Goals as goal

pub returns : goal.returns
returns c =
    let one = behind c.put_calling-p.ensures (rw c.from.ensures at c.put_int-q.ensures) (omega arith) in
    let two = behind one (rw c.from-2.ensures at c.put_int-s.ensures) (omega arith) in
    said (behind two c.put_ending.ensures (omega arith)) (two_is _ _ _) (omega arith)
