-- `tape::law_written` holds: what is written from a tape stands in the bytes.
use Rattle.tape.proofs.Back.{written}
use Rattle.tape.proofs.law_written.Goals as goal

pub returns : goal.returns
returns c = written
