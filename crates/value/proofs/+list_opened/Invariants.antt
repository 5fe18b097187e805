-- `opened` and `list` say where the value and the list end, in any source: the depth falls from a value to what stands inside it, and the loop goes on by the step of a list.
use Prim.Native.Nat.{◌+◌, ◌-◌}
use mathlib.Core.Path.{◌≡◌}
use Rattle.value.specs.Read.{end_of}
use Rattle.value.specs.Source.{values_from}
use Rattle.value.proofs.+list_opened.Given as goal

abbrev pub decreases-list : goal.decreases-list
decreases-list g l = l.depth + l.depth + 1

abbrev pub decreases-opened : goal.decreases-opened
decreases-opened g l = l.depth + l.depth

abbrev pub invariant-list-loop-q : goal.invariant-list-loop-q
invariant-list-loop-q g l = end_of (values_from (g.S.Source.token_in l.from) (g.S.Source.size l.from) l.depth l.at) ≡ end_of (values_from (g.S.Source.token_in l.from) (g.S.Source.size l.from) l.depth l.i)

abbrev pub decreases-list-loop-q : goal.decreases-list-loop-q
decreases-list-loop-q g l = g.S.Source.size l.from - l.i
