-- `ranges_at` reads the range rows, one after another.
use borrow.Author.Rules.{rules}
use Prim.Native.Nat.{ℕ, ◌+◌, ◌*◌}
use Rattle.image.specs.Read.{row_at}
use Rattle.image.proofs.Arrays.{filled}
use Rattle.image.proofs.ranges_at.Goals as goal

pub returns : goal.returns
returns c = let a = c.args in filled (λ (k : ℕ). row_at a.s.now (a.p + 21 * k)) (λ x r f' e. search rules) c.from_fn.ensures.items
