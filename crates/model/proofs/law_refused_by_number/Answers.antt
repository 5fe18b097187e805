-- `law_refused_by_number` holds.
use Rattle.model.proofs.TurnedAway.{turned-away}
use Rattle.model.proofs.law_refused_by_number.Goals as goal

pub returns : goal.returns
returns c = turned-away
