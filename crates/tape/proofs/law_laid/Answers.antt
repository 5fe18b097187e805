-- `tape::law_laid` holds: what is read to a tape stands on it.
use Rattle.tape.proofs.Back.{laid}
use Rattle.tape.proofs.law_laid.Goals as goal

pub returns : goal.returns
returns c = laid
