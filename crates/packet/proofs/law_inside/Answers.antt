-- `packet::law_inside` meets its contract: what `sealed` tests puts the payload inside the request.
use native.Mathlib.Omega.{arith}
use lib.ListN.{length}
use Rattle.packet.specs.Laws.{Contained}
use Rattle.packet.proofs.Envelope.{opened-by}
use Rattle.packet.proofs.law_inside.Goals as goal

pub returns : goal.returns
returns c = λ s. opened-by s (Contained (length s)) (λ f. (f.some, omega arith)) (λ _. tt)
