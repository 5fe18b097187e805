-- `pins_at` reads the PINs, one after another.
use borrow.Author.Rules.{rules}
use Prim.Native.Nat.{ℕ, ◌+◌, ◌*◌}
use Rattle.image.specs.Read.{pin_at}
use Rattle.image.proofs.Arrays.{filled}
use Rattle.image.proofs.pins_at.Goals as goal

pub returns : goal.returns
returns c = let a = c.args in filled (λ (k : ℕ). pin_at a.s.now (a.p + 33 * k)) (λ x r f' e. search rules) c.from_fn.ensures.items
