-- `all_columns` puts one column a step.
use mathlib.Core.Path.{sym, ◌∙◌}
use native.Mathlib.Omega.{arith}
use Rattle.std.proofs.Common.{of_calls}
use Rattle.params.specs.Columns.{put_column}
use Rattle.params.proofs.Putting.{put_next, put_broken, walks}
use Rattle.params.proofs.all_columns.Goals as goal

pub returns-in-Shut : goal.returns-in-Shut
returns-in-Shut c = sym (c.loop-t.invariant ∙ walks _ _ c.loop-t.t _ c.in-Shut.ensures)

pub loop-t-smaller-in-Named : goal.loop-t-smaller-in-Named
loop-t-smaller-in-Named c = let w = walks c.args.s.now c.loop-t.i c.loop-t.t _ c.in-Named.ensures in omega (arith, w.1, w.2)

pub loop-t-preserved-in-Named : goal.loop-t-preserved-in-Named
loop-t-preserved-in-Named c =
    rw (put_next c.loop-t.t c.and_then-t.result (λ t. put_column t c.in-Named.name c.in-Named.slot) (search of_calls))
    (c.loop-t.invariant ∙ (walks c.args.s.now c.loop-t.i c.loop-t.t _ c.in-Named.ensures).0)

pub loop-t-smaller : goal.loop-t-smaller
loop-t-smaller c = let w = walks c.args.s.now c.loop-t.i c.loop-t.t _ c.in-Plain.ensures in omega (arith, w.1, w.2)

pub loop-t-preserved : goal.loop-t-preserved
loop-t-preserved c =
    rw (c.and-t.ensures, put_broken c.loop-t.t)
    (c.loop-t.invariant ∙ (walks c.args.s.now c.loop-t.i c.loop-t.t _ c.in-Plain.ensures).0)

pub returns-in-Broken : goal.returns-in-Broken
returns-in-Broken c = sym (c.loop-t.invariant ∙ walks _ _ c.loop-t.t _ c.in-Broken.ensures)
