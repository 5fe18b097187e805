-- `secret_ok` meets its contract: what the loop has gathered is 0 exactly if every byte that it has passed is.
use mathlib.Core.Path.{◌≡◌}
use lib.Dec.{eqb}
use lib.ListN.{take}
use Rattle.std.specs.List.{list_all}
use Rattle.record.proofs.secret_ok.Given as goal

abbrev pub invariant-loop-b : goal.invariant-loop-b
invariant-loop-b l = eqb l.rest 0 ≡ list_all (λ b. eqb b 0) (take l.b-index l.past)
