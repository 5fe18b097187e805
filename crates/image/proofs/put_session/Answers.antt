-- `put_session` writes the session, part behind part.
use native.Mathlib.Omega.{arith}
use mathlib.Core.Path.{◌≡◌}
use lib.ListN.{length}
use Rattle.image.specs.Write.{session_of}
use Rattle.image.proofs.Puts.{behind, sized}
use borrow.Author.Rules.{rules}
use Rattle.image.proofs.put_session.Goals as goal

pub returns : goal.returns
unfolding session_of
returns c = let many : length c.args.x.proved ≡ 13 = search rules in
    let one = behind _ _ _ _ _ _ _ _ 2 4 c.put_each-a.ensures (rw c.from.ensures at c.put_number-b.ensures) (omega arith) in
    let two = behind _ _ _ _ _ _ _ _ 6 4 one (rw c.from-2.ensures at c.put_number-c.ensures) (omega arith) in
    behind _ _ _ _ _ _ _ _ 10 13 two (sized _ _ _ _ _ _ _ (omega arith) c.put_each.ensures) (omega arith)
