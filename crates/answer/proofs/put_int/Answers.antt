-- `put_int` meets its contract: there is room for the longest integer.
use mathlib.Core.Path.{refl}
use mathlib.Core.Bool.{true}
use native.Mathlib.Omega.{arith}
use Rattle.token.specs.Write.{enc_int}
use Rattle.model.proofs.Short.{int-short}
use Rattle.answer.proofs.Written.{put}
use Rattle.answer.proofs.put_int.Goals as goal

pub returns : goal.returns
returns c =
    let v = c.args.v in
    put true 9 _ _ _ _ (enc_int v) _ refl c.put_int.ensures.answer c.put_int.ensures.buffer c.unwrap_or.ensures (int-short v) (omega arith)
