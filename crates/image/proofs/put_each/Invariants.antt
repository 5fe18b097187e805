-- `put_each` writes the parts of a list, one behind another: those before x are there.
use Prim.Native.Nat.{◌*◌}
use mathlib.Core.Path.{◌≡◌}
use lib.ListN.{length, take}
use Rattle.image.specs.Write.{each_of, Put}
use Rattle.image.proofs.put_each.Given as goal

abbrev pub invariant-loop-x : goal.invariant-loop-x
invariant-loop-x g l = (length l.out ≡ length l.initial.out)
    × Put l.initial.out l.at (each_of g.T.Part.bytes (take l.x-index l.l)) (g.T.Part.size * l.x-index) l.p l.out
