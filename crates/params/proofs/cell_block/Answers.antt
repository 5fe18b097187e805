-- `cell_block` takes the names 3 and 4 of its list, in that order.
use mathlib.Core.Path.{◌∙◌}
use Rattle.params.proofs.Lists.{cells_are}
use Rattle.params.proofs.cell_block.Goals as goal

pub returns : goal.returns
returns c = c.block_of.ensures ∙ cells_are c.args.s.now _ c.take-a.ensures c.take-b.ensures c.last.ensures
