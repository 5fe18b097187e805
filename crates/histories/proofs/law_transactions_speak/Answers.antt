-- The witness is as stated.
use Rattle.histories.proofs.Speaks.{transactions-speak}
use Rattle.histories.proofs.law_transactions_speak.Goals as goal

pub returns : goal.returns
returns c = transactions-speak
