-- `packet::law_read_back` meets its contract.
use Rattle.packet.proofs.Round.{read_back}
use Rattle.packet.proofs.law_read_back.Goals as goal

pub returns : goal.returns
returns c = read_back
