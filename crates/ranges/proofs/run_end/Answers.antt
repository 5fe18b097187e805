-- `run_end` meets its contract.
use native.Mathlib.Omega.{arith}
use Rattle.ranges.proofs.Fitted.{range-row}
use Rattle.ranges.proofs.Owners.{owner-alike, owner-done}
use Rattle.ranges.proofs.run_end.Goals as goal

pub loop-a-preserved : goal.loop-a-preserved
loop-a-preserved c =
    let got = c.border-end.ensures in
    let e = range-row c.args.rows 4 c.loop-a.a-index c.loop-a-test.true in
    (got.0, omega arith, (λ s a b. owner-alike _ _ _ _ (rw e at got.2 s a b) (c.loop-a.invariant.2 s a (omega arith))))

pub returns : goal.returns
returns c =
    let loop = c.loop-a in
    (loop.invariant.0, loop.invariant.1, (λ s a b. owner-done _ _ _ _ (omega arith) (loop.invariant.2 s a b)))
