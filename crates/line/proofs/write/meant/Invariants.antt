-- The loop's invariant: the first i bytes that the digits say stand from at on.
use Rattle.std.proofs.Common.{◌≡◌}
use Rattle.std.proofs.Math.Seq.{paste}
use Rattle.line.specs.Hex.{bytes_of}
use Rattle.line.proofs.write.meant.Given as goal

abbrev pub invariant-loop-i : goal.invariant-loop-i
invariant-loop-i l = l.out ≡ paste l.initial.out l.at (bytes_of l.s) l.i
