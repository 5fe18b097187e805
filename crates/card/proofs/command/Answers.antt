-- The payload lies inside the request.
use mathlib.Core.Path.{sym}
use lib.Seq.{length-take-le}
use Rattle.card.proofs.Opened.{inside}
use Rattle.card.proofs.command.Goals as goal

pub slice_bounds-hear-end : goal.slice_bounds-hear-end
slice_bounds-hear-end c = sym (length-take-le _ _ (inside _ _ _ c.open.ensures c.in-Some.is))
