-- `put_uid` meets its contract: the head of eight bytes, and the eight.
use mathlib.Core.Path.{refl}
use mathlib.Core.Bool.{true}
use native.Mathlib.Omega.{arith}
use Rattle.token.specs.Bytes.{be_of}
use Rattle.token.proofs.Writes.{be-length}
use Rattle.answer.proofs.Written.{said, behind, put}
use Rattle.answer.proofs.Spelled.{uid-is}
use Rattle.answer.proofs.put_uid.Goals as goal

pub returns : goal.returns
returns c =
    let u = c.args.u in
    let digits = put true 8 _ _ _ _ (be_of 8 u) _ refl c.put_number.ensures.answer c.put_number.ensures.buffer c.unwrap_or.ensures (omega (arith, be-length 8 u)) (omega arith) in
    said (behind c.put_byte-a.ensures digits (omega arith)) (uid-is u) (omega arith)
