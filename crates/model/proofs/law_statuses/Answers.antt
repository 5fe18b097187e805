-- Each answer carries the status of the first fault that applies.
use Rattle.model.proofs.Statuses.{statuses-as-said}
use Rattle.model.proofs.law_statuses.Goals as goal

pub returns : goal.returns
returns c = statuses-as-said
