-- What was written has the one length, is taken, and is read back.
use Rattle.image.proofs.Back.{image-back}
use Rattle.image.proofs.law_read_back.Goals as goal

pub returns : goal.returns
returns c = image-back
