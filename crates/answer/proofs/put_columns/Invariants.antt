-- `put_columns` meets its contract. The invariant: the columns that are still to come, put from here on, make the whole list.
use Prim.Native.Nat.{◌+◌}
use mathlib.Core.Path.{◌≡◌}
use lib.ListN.{length}
use Rattle.answer.proofs.Listed.{Still}
use Rattle.answer.proofs.put_columns.Given as goal

abbrev pub invariant-loop-k : goal.invariant-loop-k
invariant-loop-k l = Still l.c l.o (l.last + 1) l.first l.initial.out l.initial.p l.k l.out l.p × (length l.out ≡ length l.initial.out)
