-- `secrets_ok` meets its contract: the chain asks every PIN.
use mathlib.Core.Path.{◌≡◌, ◌∙◌}
use mathlib.Core.List.{[]}
use lib.ListN.{length}
use borrow.Author.Rules.{rules}
use borrow.Author.Tests.{eq-eqb}
use Rattle.std.proofs.Common.{tests}
use Rattle.std.proofs.lemmas.Iterator.{YieldsList-from_slice}
use Rattle.std.proofs.lemmas.Iterator.Search.{all_from_yields_List}
use Rattle.model.specs.Record.{pin_count}
use Rattle.model.specs.Sound.{secret_ok, secrets_ok}
use Rattle.model.proofs.Fields.{mapped}
use Rattle.record.proofs.Every.{all_rows}
use Rattle.record.proofs.secrets_ok.Goals as goal

pub returns : goal.returns
unfolding secrets_ok
returns c =
    let many : length c.args.l ≡ pin_count = search (rules, mapped) in
    rw (eq-eqb _ _ many)
    (all_from_yields_List secret_ok _ _ _ c.all.ensures.ran (YieldsList-from_slice c.args.l cc) (λ x b q k. search (rules, tests)) ∙ all_rows secret_ok (record { bytes = []; len = 0 }) c.args.l pin_count many)
