-- `fits` meets its contract.
use Prim.Native.Nat.{◌+◌}
use mathlib.Core.Path.{refl}
use native.Mathlib.Omega.{arith}
use borrow.Author.Count.{below_more}
use Rattle.ranges.proofs.Decide.{from-true, from_false}
use Rattle.ranges.proofs.Fitted.{range-row, fit-from}
use Rattle.ranges.proofs.fits.Goals as goal

pub pairs-preserved : goal.pairs-preserved
pairs-preserved c = (
  c.loop-b.invariant.0,
  below_more _ _ c.pairs.invariant.1
      (λ o. (c.within.ensures.holds c.if-not-within.false, (λ j m p. c.loop-b.invariant.1 j (omega arith) p))),
)

pub returns-then-not-apart : goal.returns-then-not-apart
returns-then-not-apart c =
    let e = range-row c.args.rows _ c.loop-b.b-index c.loop-b-test.true in
    from_false refl
    (λ f. c.apart.ensures.fails c.if-not-apart.true (rw e (f.apart c.pairs.i (c.loop-b.b-index + 1) (omega arith) (omega arith) (omega arith))))

pub loop-b-preserved : goal.loop-b-preserved
loop-b-preserved c =
    let e = range-row c.args.rows _ c.loop-b.b-index c.loop-b-test.true in
    (c.loop-b.invariant.0, below_more _ _ c.loop-b.invariant.1 (λ o. rw e at c.apart.ensures.holds c.if-not-apart.false))

pub returns-after-pairs : goal.returns-after-pairs
returns-after-pairs c = from-true c.pairs.invariant.0 (fit-from _ _ c.pairs.i (omega arith) c.pairs.invariant.1)
