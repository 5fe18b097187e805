-- `put_number` writes the lowest n bytes of a number: there is room for them.
use mathlib.Core.Path.{refl, ◌∙◌}
use native.Mathlib.Omega.{arith}
use Rattle.token.specs.Bytes.{be_of}
use Rattle.token.proofs.Writes.{all-fits, be-length}
use Rattle.image.proofs.put_number.Goals as goal

pub returns : goal.returns
returns c = let a = c.args in
    let n = be-length a.n a.v in
    (refl, c.put_number.ensures.buffer ∙ all-fits a.out.now a.at (be_of a.n a.v) (omega arith), n)
