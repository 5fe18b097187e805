-- The witness is as stated.
use Rattle.histories.proofs.Speaks.{secrecy-speaks}
use Rattle.histories.proofs.law_secrecy_speaks.Goals as goal

pub returns : goal.returns
returns c = secrecy-speaks
