-- `reset_set` takes one value or two, and nothing more.
use mathlib.Core.Path.{sym, ◌∙◌}
use native.Mathlib.Omega.{arith}
use Rattle.std.proofs.lemmas.Grind.{common_steps}
use Rattle.params.proofs.Shapes.{resets_two}
use Rattle.params.proofs.reset_set.Goals as goal

pub returns : goal.returns
returns c =
    grind (arith, common_steps, resets_two c.args.s.now _ c.first-a.ensures (sym c.last.ensures ∙ c.if-last.false) c.first-b.ensures (sym c.last-2.ensures ∙ c.if-not-last.false))
