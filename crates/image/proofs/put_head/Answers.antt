-- `put_head` writes the version, the counts, N and the MSID.
use native.Mathlib.Omega.{arith}
use mathlib.Core.Path.{◌≡◌}
use lib.ListN.{length}
use Rattle.image.proofs.Puts.{behind, sized}
use Rattle.image.specs.Write.{head_of}
use borrow.Author.Rules.{rules}
use Rattle.image.proofs.put_head.Goals as goal

pub returns : goal.returns
unfolding head_of
returns c = let many : length c.args.msid ≡ 32 = search rules in
    let one = behind _ _ _ _ _ _ _ _ 3 8 c.put_bytes-a.ensures c.put_number-b.ensures (omega arith) in
    behind _ _ _ _ _ _ _ _ 11 32 one (sized _ _ _ _ _ _ _ many c.put_bytes.ensures) (omega arith)
