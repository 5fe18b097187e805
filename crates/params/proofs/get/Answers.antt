-- `get` wants one list and nothing more.
use mathlib.Core.Path.{sym, ◌∙◌}
use Rattle.params.proofs.Lists.{get_list}
use Rattle.params.proofs.get.Goals as goal

pub returns : goal.returns
returns c = c.cell_block.ensures ∙ get_list c.args.s.now _ c.first-a.ensures _ (sym c.last.ensures ∙ c.if-not-last.false) c.in-List.is
