-- `put_byte` is one store.
use mathlib.Core.Path.{refl}
use mathlib.Core.List.{[], ◌∷◌}
use Rattle.token.proofs.Writes.{over-sets}
use borrow.Author.Rules.{rules}
use Rattle.image.proofs.put_byte.Goals as goal

pub returns : goal.returns
returns c = (refl, over-sets c.args.out.now (c.args.x ∷ []) c.args.at (search rules), refl)
