-- `packet::law_pad` meets its contract: the remainders by 4 are counted out.
use native.Mathlib.Omega.{arith}
use Rattle.packet.specs.Envelope.{pad_of}
use Rattle.packet.proofs.law_pad.Goals as goal

pub returns : goal.returns
unfolding pad_of
returns c = λ n. (omega arith, omega arith)
