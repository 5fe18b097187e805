-- No sector lies in two ranges, and the shares add up, in every record that a run reaches.
use Rattle.model.proofs.Reached.{ranges_apart}
use Rattle.model.proofs.law_apart.Goals as goal

pub returns : goal.returns
returns c = ranges_apart
