-- `blank_rows` meets its contract: the chain asks every row.
use mathlib.Core.Path.{◌≡◌, ◌∙◌}
use lib.ListN.{length}
use borrow.Author.Rules.{rules}
use Rattle.std.proofs.Common.{tests}
use Rattle.std.proofs.lemmas.Iterator.{YieldsList-from_slice}
use Rattle.std.proofs.lemmas.Iterator.Search.{all_from_yields_List}
use Rattle.ranges.specs.Row.{row_count, no_row}
use Rattle.model.specs.Sound.{blank_row}
use Rattle.model.proofs.Fields.{mapped}
use Rattle.record.proofs.Every.{all_rows}
use Rattle.record.proofs.blank_rows.Goals as goal

pub returns : goal.returns
returns c =
    let many : length c.args.rows ≡ row_count = search (rules, mapped) in
    all_from_yields_List blank_row _ _ _ c.all.ensures.ran (YieldsList-from_slice c.args.rows cc) (λ x b q k. search (rules, tests)) ∙ all_rows blank_row no_row c.args.rows row_count many
