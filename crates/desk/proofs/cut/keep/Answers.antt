-- What is cut to the room is put whole.
use Rattle.std.proofs.Common.{arith}
use Rattle.desk.proofs.Cuts.{keeps, full}
use Rattle.desk.proofs.cut.keep.Goals as goal

pub returns-then-line-len : goal.returns-then-line-len
returns-then-line-len c = let all = full c.args.line.now _ _ (omega arith) in record { count = all.0; buffer = all.1 }

pub returns : goal.returns
returns c = let all = keeps c.args.line.now _ _ _ _ _ (omega arith) c.front.ensures c.put_text.ensures.answer c.put_text.ensures.buffer in record { count = all.0; buffer = all.1 }
