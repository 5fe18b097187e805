-- `put_plain` meets its contract: an empty result list.
use mathlib.Core.List.{[]}
use native.Mathlib.Omega.{arith}
use Rattle.value.specs.Plain.{none}
use Rattle.answer.proofs.Written.{said, behind}
use Rattle.answer.proofs.Spelled.{result-is, none_is}
use Rattle.answer.proofs.put_plain.Goals as goal

pub returns : goal.returns
returns c = said (behind c.put_byte-p.ensures c.put_ending.ensures (omega arith)) (result-is none [] _ none_is) (omega arith)
