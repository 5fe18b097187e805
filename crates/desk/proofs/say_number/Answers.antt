-- A number has at most 20 digits.
use native.Mathlib.Omega.{arith}
use Rattle.desk.proofs.Written.{decimal-short, text-there}
use Rattle.desk.proofs.say_number.Goals as goal

pub returns : goal.returns
returns c = text-there _ _ _ _ c.put_decimal.ensures.answer c.put_decimal.ensures.buffer (omega (arith, decimal-short c.args.v))
