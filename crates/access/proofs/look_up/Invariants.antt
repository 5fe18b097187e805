-- `look_up` meets its contract. The invariant: what is found is the word of the rows that were asked.
use lib.ListN.{take}
use Rattle.model.specs.Access.{access_rows}
use Rattle.access.proofs.Search.{Says}
use Rattle.access.proofs.look_up.Given as goal

abbrev pub invariant-loop-row : goal.invariant-loop-row
invariant-loop-row l = Says l.s l.kind l.own l.m (take l.row-index access_rows) l.found
