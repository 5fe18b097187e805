-- `law_secrecy` holds.
use Rattle.model.proofs.SoundStep.{sound-step}
use Rattle.model.proofs.Secrecy.{secrecy}
use Rattle.model.proofs.law_secrecy.Goals as goal

pub returns : goal.returns
returns c = secrecy sound-step
