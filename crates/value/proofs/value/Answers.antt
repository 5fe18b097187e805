-- `value` is `opened` by the token that stands there.
use mathlib.Core.Path.{refl, sym}
use Rattle.value.proofs.Values.{value-by}
use Rattle.value.proofs.value.Goals as goal

pub returns : goal.returns
returns g c = sym (value-by _ _ _ _ c.token.ensures c.opened.ensures refl)
