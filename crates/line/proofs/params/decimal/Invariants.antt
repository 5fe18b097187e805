-- The loop's invariant: what is left makes the whole number after v, and v has 64 bits.
use Rattle.std.proofs.Common.{◌≡◌, ◌<◌, ◌^◌, drop}
use Rattle.line.specs.Number.{value_of}
use Rattle.line.proofs.params.decimal.Given as goal

abbrev pub invariant-loop-b : goal.invariant-loop-b
invariant-loop-b l = (value_of 0 l.w ≡ value_of l.v (drop l.b-index l.w)) × (l.v < 2 ^ 64)
