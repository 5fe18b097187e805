-- The text is the one for no card.
use Rattle.std.proofs.Common.{refl}
use Rattle.desk.specs.Texts.{no_card}
use Rattle.desk.proofs.no_card.Goals as goal

pub returns : goal.returns
unfolding no_card
returns c = (refl, c.say-count.ensures)
