-- `law_abandon` holds.
use Rattle.model.proofs.Transactions.{abandon-puts-back}
use Rattle.model.proofs.law_abandon.Goals as goal

pub returns : goal.returns
returns c = abandon-puts-back
