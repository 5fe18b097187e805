-- `law_commit` holds.
use Rattle.model.proofs.Transactions.{commit-keeps}
use Rattle.model.proofs.law_commit.Goals as goal

pub returns : goal.returns
returns c = commit-keeps
