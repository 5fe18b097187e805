-- `flags_at` reads a flag of each authority.
use borrow.Author.Rules.{rules}
use Prim.Native.Nat.{ℕ, ◌+◌}
use Rattle.image.specs.Read.{flag_at}
use Rattle.image.proofs.Arrays.{filled}
use Rattle.image.proofs.flags_at.Goals as goal

pub returns : goal.returns
returns c = let a = c.args in filled (λ (k : ℕ). flag_at a.s.now (a.p + k)) (λ x r f' e. search rules) c.from_fn.ensures.items
