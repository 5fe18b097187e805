-- The loop's invariant: the digits of the bytes so far stand from at on.
use Rattle.std.proofs.Common.{◌≡◌, ◌+◌, ◌*◌, take}
use Rattle.token.specs.Bytes.{over}
use Rattle.line.specs.Hex.{digits_of}
use Rattle.line.proofs.write.spelled.Given as goal

abbrev pub invariant-loop-b : goal.invariant-loop-b
invariant-loop-b l = (l.end ≡ l.at + 2 * l.b-index) × (l.out ≡ over l.initial.out l.at (digits_of (take l.b-index l.s)))
