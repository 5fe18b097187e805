-- `reset_rows` meets its contract.
use Rattle.std.proofs.Common.{rules, arith}
use Rattle.ranges.specs.Row.{no_row}
use Rattle.ranges.specs.Reset.{reset_rows}
use Rattle.ranges.proofs.Mapped.{mapped}
use Rattle.ranges.proofs.reset_rows.Goals as goal

pub returns : goal.returns
unfolding reset_rows
returns c = rw c.if-not-active.false (mapped _ _ _ (omega (arith, c.map.ensures.items.long)) (λ i l. let h = c.map.ensures.items.at i no_row no_row (omega arith) in search rules))
