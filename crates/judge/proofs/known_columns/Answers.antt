-- `known_columns` meets its contract: the bits below the one past the last column.
use Prim.Native.Nat.{◌≤◌}
use lib.Pow.{pow_pos}
use Rattle.judge.proofs.Known.{last_small, shifted, up_to}
use Rattle.judge.proofs.known_columns.Goals as goal
use Rattle.judge.proofs.known_columns.Goals.{After-last_column-last}

small : (c : After-last_column-last) → c.last_column-last.result ≤ 19
small c = rw c.last_column-last.ensures (last_small c.args.o)

pub overflow_sub-result : goal.overflow_sub-result
overflow_sub-result c = rw (shifted _ (small c)) (pow_pos _)

pub returns : goal.returns
returns c = λ k. rw (shifted _ (small c), ← c.last_column-last.ensures) (up_to c.last_column-last.result k)
