-- `none_from` meets its contract: the chain asks the flags from the first on.
use mathlib.Core.Path.{◌≡◌, ◌∙◌}
use mathlib.Core.Bool.{false, not}
use lib.ListN.{length}
use borrow.Author.Rules.{rules}
use Rattle.std.proofs.Common.{tests}
use Rattle.std.proofs.lemmas.Iterator.{YieldsList-from_slice}
use Rattle.std.proofs.lemmas.Iterator.Adapters.{YieldsList-from_skip}
use Rattle.std.proofs.lemmas.Iterator.Search.{all_from_yields_List}
use Rattle.model.specs.Record.{pin_count}
use Rattle.record.proofs.Every.{all_from}
use Rattle.record.proofs.none_from.Goals as goal

pub returns : goal.returns
returns c =
    let many : length c.args.flags ≡ pin_count = search rules in
    all_from_yields_List not _ _ _ c.all.ensures.ran (YieldsList-from_skip c.args.first (YieldsList-from_slice c.args.flags cc) cc) (λ x b q k. search (rules, tests)) ∙ all_from not false c.args.flags c.args.first pin_count many
