-- `law_not_shown` holds.
use Rattle.model.proofs.Transactions.{nothing-shows}
use Rattle.model.proofs.law_not_shown.Goals as goal

pub returns : goal.returns
returns c = nothing-shows
