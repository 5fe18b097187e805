-- `line::put_hex` meets its contract.
use Rattle.std.proofs.Common.{arith}
use Rattle.std.proofs.lemmas.Bool.Decides.{nat_tests}
use Rattle.line.proofs.Puts.{hex-none, hex-some}
use Rattle.line.proofs.put_hex.Goals as goal

pub returns-then-is_empty : goal.returns-then-is_empty
returns-then-is_empty c = let e = hex-none c.args.s.now (grind (arith, nat_tests)) in record { answer = rw e c.plain.ensures.answer; buffer = rw e c.plain.ensures.buffer }

pub returns : goal.returns
returns c = let e = hex-some c.args.s.now (grind (arith, nat_tests)) in record { answer = rw e c.spelled.ensures.answer; buffer = rw e c.spelled.ensures.buffer }
