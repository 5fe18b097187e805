-- `blank_secrets` meets its contract: the chain asks every PIN.
use mathlib.Core.Path.{◌≡◌, ◌∙◌}
use mathlib.Core.Bool.{Bool}
use mathlib.Core.List.{[]}
use lib.ListN.{length}
use lib.Dec.{eqb}
use borrow.Author.Rules.{rules}
use Rattle.std.proofs.Common.{tests}
use Rattle.std.proofs.lemmas.Iterator.{YieldsList-from_slice}
use Rattle.std.proofs.lemmas.Iterator.Search.{all_from_yields_List}
use Rattle.model.specs.Record.{pin_count}
use Rattle.model.specs.Sound.{blank_secrets}
use Rattle.model.specs.declared.Secret.{Secret}
use Rattle.model.proofs.Fields.{mapped}
use Rattle.record.proofs.Every.{all_rows}
use Rattle.record.proofs.blank_secrets.Goals as goal

pub returns : goal.returns
unfolding blank_secrets
returns c =
    let many : length c.args.l ≡ pin_count = search (rules, mapped) in
    let empty : Secret → Bool = λ x. eqb x.len 0 in
    all_from_yields_List empty _ _ _ c.all.ensures.ran (YieldsList-from_slice c.args.l cc) (λ x b q k. search (rules, tests)) ∙ all_rows empty (record { bytes = []; len = 0 }) c.args.l pin_count many
