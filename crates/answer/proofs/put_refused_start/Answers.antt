-- `put_refused_start` meets its contract: a call with an empty list.
use mathlib.Core.List.{[]}
use native.Mathlib.Omega.{arith}
use Rattle.value.specs.Plain.{none}
use Rattle.model.specs.Uids.{sync_session}
use Rattle.answer.proofs.Written.{said, behind}
use Rattle.answer.proofs.Spelled.{call-is, none_is}
use Rattle.answer.proofs.put_refused_start.Goals as goal

pub returns : goal.returns
returns c = said (behind c.put_calling-p.ensures c.put_ending.ensures (omega arith)) (call-is sync_session none [] _ none_is) (omega arith)
