-- The histories of parameters are as stated.
use Rattle.histories.proofs.Parameters.{parameters}
use Rattle.histories.proofs.law_parameters_worked.Goals as goal

pub returns : goal.returns
returns c = parameters
