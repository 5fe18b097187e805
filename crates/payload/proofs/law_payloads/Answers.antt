-- `payload::law_payloads` holds: each of the five rows of tokens is read as its payload, and nothing else is.
use Rattle.payload.proofs.Taken.{taken}
use Rattle.payload.proofs.Only.{only}
use Rattle.payload.proofs.law_payloads.Goals as goal

pub returns : goal.returns
returns c = record { taken = taken; only = only }
