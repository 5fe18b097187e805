-- `line::law_read_back` holds: what is written is read back as a word of a line, whatever stands around it.
use Rattle.line.proofs.Back.{digits-back, bytes_back, number-back}
use Rattle.line.proofs.law_read_back.Goals as goal

pub returns : goal.returns
returns c = record { digits = digits-back; bytes = bytes_back; number = number-back }
