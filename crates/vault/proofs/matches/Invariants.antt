-- The loop has compared the bytes that it passed; the lengths were compared first.
use Rattle.ranges.specs.Decides.{Decides}
use Rattle.vault.proofs.Alike.{Alike}
use Rattle.vault.proofs.matches.Given as goal

abbrev pub invariant-loop-i : goal.invariant-loop-i
invariant-loop-i l = Decides l.equal (Alike l.stored l.sent l.i)
