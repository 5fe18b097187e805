-- `put_vault` writes the PINs and their copies.
use native.Mathlib.Omega.{arith}
use mathlib.Core.Path.{◌≡◌}
use lib.ListN.{length}
use borrow.Author.Rules.{rules}
use Rattle.model.proofs.Fields.{mapped}
use Rattle.image.proofs.Puts.{behind, sized}
use Rattle.image.specs.Write.{vault_of}
use Rattle.image.proofs.put_vault.Goals as goal

pub returns : goal.returns
unfolding vault_of
returns c = let live : length c.args.v.live ≡ 13 = search (rules, mapped) in
    let kept : length c.args.v.kept ≡ 13 = search (rules, mapped) in
    behind _ _ _ _ _ _ _ _ 429 429 (sized _ _ _ _ _ _ _ (omega arith) c.put_each-a.ensures) (sized _ _ _ _ _ _ _ (omega arith) c.put_each.ensures) (omega arith)
