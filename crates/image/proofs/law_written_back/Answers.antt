-- Every image that is taken writes back to itself.
use Rattle.image.proofs.Again.{image-again}
use Rattle.image.proofs.law_written_back.Goals as goal

pub returns : goal.returns
returns c = image-again
