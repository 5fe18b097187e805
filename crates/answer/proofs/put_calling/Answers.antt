-- `put_calling` meets its contract, piece by piece.
use native.Mathlib.Omega.{arith}
use Rattle.answer.proofs.Written.{said, behind}
use Rattle.answer.proofs.Spelled.{calling-is}
use Rattle.answer.proofs.put_calling.Goals as goal

pub returns : goal.returns
returns c =
    let manager = behind c.put_byte-a.ensures c.put_uid-b.ensures (omega arith) in
    let call = behind manager c.put_uid-c.ensures (omega arith) in
    said (behind call c.put_byte.ensures (omega arith)) (calling-is _) (omega arith)
