-- A Get's cell block: "unknown column, start column above end column (0C)".
use Prim.Native.Nat.{◌≤◌, ◌<◌}
use Rattle.std.specs.Prelude.{Some}
use mathlib.Core.Path.{◌≡◌, refl}
use mathlib.Core.Bool.{Bool, true, false, ◌&&◌}
use native.Mathlib.Omega.{arith}
use borrow.Author.Tests.{le-leb, lt-leb}
use Rattle.params.specs.declared.Block.{Block}
use Rattle.model.specs.declared.Object.{Object}
use Rattle.model.specs.declared.Status.TheVariants as E
use Rattle.model.specs.declared.Decision.{Decision}
use Rattle.model.specs.declared.Decision.TheVariants as D
use Rattle.model.specs.declared.Judged.{Judged}
use Rattle.model.specs.declared.Judged.TheVariants.{Settled}
use Rattle.model.specs.Access.{last_column}
use Rattle.model.specs.Judge.{need, bound_of, judge_get}

-- two checks that refuse alike: whichever fails
refused_alike : (b : Bool) (d : Decision) → need b d (Settled d) ≡ Settled d
unfolding need
refused_alike true d = refl
refused_alike false d = refl

need_false : (d : Decision) (j : Judged) → need false d j ≡ Settled d
unfolding need
need_false d j = refl

no_end : (b : Bool) → (b && false) ≡ false
no_end true = refl
no_end false = refl

-- the block's first and last column, and the last that is known
module _ (o : Object) (b : Block) where
  pub block_past : last_column o < bound_of (last_column o) b.end → judge_get o (Some b) ≡ Settled (D.Refuse E.InvalidParameter)
  unfolding judge_get need
  block_past h = simp (lt-leb _ _ h, no_end)

  pub block_turned : bound_of (last_column o) b.end < bound_of 0 b.start → judge_get o (Some b) ≡ Settled (D.Refuse E.InvalidParameter)
  unfolding judge_get
  block_turned h = simp (lt-leb _ _ h, need_false, refused_alike)

  pub block_told : bound_of (last_column o) b.end ≤ last_column o → bound_of 0 b.start ≤ bound_of (last_column o) b.end
      → judge_get o (Some b) ≡ Settled (D.Told o (bound_of 0 b.start) (bound_of (last_column o) b.end))
  unfolding judge_get need
  block_told h g =
      let in_front : bound_of 0 b.start ≤ last_column o = omega arith in
      simp (le-leb _ _ h, le-leb _ _ g, le-leb _ _ in_front)
