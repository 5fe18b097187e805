-- `set` meets its contract: a law for each return.
use mathlib.Core.Path.{◌∙◌}
use native.Mathlib.Omega.{arith}
use Rattle.ranges.proofs.Edits.{judged, moved, no-row}
use Rattle.ranges.proofs.set.Goals as goal
use Rattle.ranges.proofs.set.Goals.{then-k-ge-ROWS-via-then-k-ge-ROWS, then-k-ge-ROWS-via-else-k-ge-ROWS+then-not-spares}

pub returns-then-k-ge-ROWS : goal.returns-then-k-ge-ROWS
returns-then-k-ge-ROWS c =
    elim c.then-k-ge-ROWS.branch [
      | then-k-ge-ROWS-via-then-k-ge-ROWS w ↦ no-row _ _ _ _ (omega arith)
      | then-k-ge-ROWS-via-else-k-ge-ROWS+then-not-spares w ↦ moved _ _ _ _ (omega arith) _ w.spares.ensures w.if-not-spares.true
    ]

pub returns : goal.returns
returns c = c.then_some.ensures ∙ judged _ _ _ _ (omega arith) _ c.spares.ensures c.if-not-spares.false _ c.edited-next.ensures _ c.fits.ensures
