-- `tries_ok` meets its contract: the chain asks every counter.
use mathlib.Core.Bool.{Bool}
use mathlib.Core.Path.{◌≡◌, ◌∙◌}
use lib.ListN.{length}
use lib.Dec.{leb}
use borrow.Author.Rules.{rules}
use borrow.Author.Tests.{eq-eqb}
use Rattle.std.proofs.Common.{tests}
use Rattle.std.proofs.lemmas.Iterator.{YieldsList-from_slice}
use Rattle.std.proofs.lemmas.Iterator.Search.{all_from_yields_List}
use Rattle.model.specs.Record.{pin_count, try_limit}
use Rattle.model.specs.Sound.{tries_ok}
use Rattle.model.specs.declared.PinRow.{PinRow}
use Rattle.record.proofs.Every.{all_rows}
use Rattle.record.proofs.tries_ok.Goals as goal

pub returns : goal.returns
unfolding tries_ok
returns c =
    let many : length c.args.pins ≡ pin_count = search rules in
    let within : PinRow → Bool = λ row. leb row.tries try_limit in
    rw (eq-eqb _ _ many)
    (all_from_yields_List within _ _ _ c.all.ensures.ran (YieldsList-from_slice c.args.pins cc) (λ x b q k. search (rules, tests)) ∙ all_rows within (record { tries = 0 }) c.args.pins pin_count many)
