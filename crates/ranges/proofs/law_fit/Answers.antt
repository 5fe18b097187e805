-- The tests of rows decide the statement over sectors.
use Rattle.ranges.proofs.Fitted.{fit-decides}
use Rattle.ranges.proofs.law_fit.Goals as goal

pub returns : goal.returns
returns c = fit-decides
