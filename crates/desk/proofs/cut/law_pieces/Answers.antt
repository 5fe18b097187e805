-- However the input is cut into pieces.
use Rattle.desk.proofs.Cuts.{pieces}
use Rattle.desk.proofs.cut.law_pieces.Goals as goal

pub returns : goal.returns
returns c = pieces
