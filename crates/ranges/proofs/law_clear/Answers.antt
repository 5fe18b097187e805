-- A clear transfer passes at each sector that it touches.
use Rattle.ranges.proofs.Verdicts.{clear-decides}
use Rattle.ranges.proofs.law_clear.Goals as goal

pub returns : goal.returns
returns c = clear-decides
