-- `table` meets its contract: the constant is the table of the definition.
use mathlib.Core.Path.{refl}
use Rattle.model.specs.Access.{access_rows}
use Rattle.access.proofs.table.Goals as goal

pub returns : goal.returns
unfolding access_rows
returns c = refl
