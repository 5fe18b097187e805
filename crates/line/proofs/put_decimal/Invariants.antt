-- `line::put_decimal` meets its contract. The loop's invariant: the digits of w, up to j of them, and then what stands from j on, are the digits of v.
use Prim.Native.Nat.{◌^◌, ◌≤◌, ◌<◌}
use mathlib.Core.Path.{◌≡◌}
use mathlib.Core.List.{◌++◌}
use lib.ListN.{length, drop}
use Rattle.line.specs.Number.{dec_of}
use Rattle.line.proofs.put_decimal.Given as goal

abbrev pub invariant-loop-w : goal.invariant-loop-w
invariant-loop-w l = (0 < l.j) × (l.j ≤ 20) × (l.w < 10 ^ l.j) × (length l.d ≡ 20) × (dec_of 20 l.v ≡ dec_of l.j l.w ++ drop l.j l.d)

abbrev pub decreases-loop-w : goal.decreases-loop-w
decreases-loop-w l = l.j
