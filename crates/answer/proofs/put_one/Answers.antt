-- `put_one` meets its contract: a result list of one flag.
use native.Mathlib.Omega.{arith}
use Rattle.tape.specs.Write.{enc_value}
use Rattle.model.specs.Answer.{flag, one}
use Rattle.answer.proofs.Written.{said, behind}
use Rattle.answer.proofs.Spelled.{result-is, one-is}
use Rattle.answer.proofs.put_one.Goals as goal

pub returns : goal.returns
returns c =
    let v = flag c.args.on in
    let front = behind c.put_byte-p.ensures c.put_flag-q.ensures (omega arith) in
    said (behind front c.put_ending.ensures (omega arith)) (result-is (one v) (enc_value v) _ (one-is v)) (omega arith)
