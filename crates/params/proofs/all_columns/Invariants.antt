-- `all_columns` puts one column a step: what t and the values left make is what the whole list makes.
use Prim.Native.Nat.{◌-◌}
use mathlib.Core.Path.{◌≡◌}
use lib.ListN.{length}
use Rattle.std.specs.Prelude.{Ok}
use Rattle.value.specs.Read.{values_at}
use Rattle.params.specs.Columns.{empty}
use Rattle.params.proofs.Putting.{made}
use Rattle.params.proofs.all_columns.Given as goal

abbrev pub invariant-loop-t : goal.invariant-loop-t
invariant-loop-t l = made (Ok empty) (values_at l.s 13 l.at) ≡ made l.t (values_at l.s 13 l.i)

abbrev pub decreases-loop-t : goal.decreases-loop-t
decreases-loop-t l = length l.s - l.i
