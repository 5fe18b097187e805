-- `tries_at` reads the Tries of each PIN row.
use borrow.Author.Rules.{rules}
use Prim.Native.Nat.{ℕ, ◌+◌}
use lib.ListN.{get_or}
use Rattle.image.specs.Types.{PinRow}
use Rattle.image.proofs.Arrays.{filled}
use Rattle.image.proofs.tries_at.Goals as goal

row : ℕ → PinRow
row n = record { tries = n }

pub returns : goal.returns
unfolding row
returns c = let a = c.args in filled (λ (k : ℕ). row (get_or a.s.now (a.p + k) 0)) (λ x r f' e. search rules) c.from_fn.ensures.items
