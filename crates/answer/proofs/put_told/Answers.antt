-- `put_told` meets its contract: a result list of one list.
use Prim.Native.Nat.{◌+◌, ◌-◌}
use native.Mathlib.Omega.{arith}
use Rattle.value.specs.Plain.{list}
use Rattle.tape.specs.Write.{enc_value}
use Rattle.model.specs.Answer.{one, told, answer}
use Rattle.answer.proofs.Written.{said, behind}
use Rattle.answer.proofs.Spelled.{result-is, one-is}
use Rattle.answer.proofs.put_told.Goals as goal

pub returns : goal.returns
unfolding answer
returns c =
    let a = c.args in
    let v = list (told a.c a.o (a.last + 1 - a.first) a.first) in
    let front = behind c.put_byte-p.ensures c.put_columns-q.ensures (omega arith) in
    said (behind front c.put_ending.ensures (omega arith)) (result-is (one v) (enc_value v) _ (one-is v)) (omega arith)
