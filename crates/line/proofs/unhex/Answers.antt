-- `line::unhex` meets its contract.
use Rattle.std.proofs.Common.{arith}
use Rattle.line.proofs.Puts.{bytes-gone}
use Rattle.line.proofs.unhex.Goals as goal

pub returns-then-s-at : goal.returns-then-s-at
returns-then-s-at c = let p = bytes-gone c.args.out.now c.args.s.now c.args.at c.args.len (grind arith) in record { answer = p.answer; buffer = p.buffer }
