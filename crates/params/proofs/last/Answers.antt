-- `last` tells whether the list ends here.
use mathlib.Core.Path.{sym, ◌∙◌}
use Rattle.params.proofs.Taking.{last-says}
use Rattle.params.proofs.last.Goals as goal

pub returns : goal.returns
returns c = c.is_some.ensures ∙ sym (last-says c.args.s.now c.args.depth c.args.at _ (sym c.mark_at.ensures))
