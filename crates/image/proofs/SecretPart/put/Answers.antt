-- A PIN is written: its length, and its bytes behind it.
use native.Mathlib.Omega.{arith}
use mathlib.Core.Path.{◌≡◌}
use mathlib.Core.List.{[], ◌∷◌}
use lib.ListN.{length}
use borrow.Author.Rules.{rules}
use Rattle.image.specs.Write.{pin_of}
use Rattle.image.proofs.Puts.{behind, sized}
use Rattle.image.proofs.SecretPart.put.Goals as goal

pub returns : goal.returns
unfolding pin_of
returns c = let many : length c.args.self.bytes ≡ 32 = search rules in
    behind _ _ _ (c.args.self.len ∷ []) _ _ _ _ 1 32 c.put_byte-a.ensures (sized _ _ _ _ _ _ _ many c.put_bytes.ensures) (omega arith)
