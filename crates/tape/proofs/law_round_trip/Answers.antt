-- `tape::law_round_trip` holds: what is written is read back as the same value.
use Rattle.tape.proofs.Stand.{round_trip}
use Rattle.tape.proofs.law_round_trip.Goals as goal

pub returns : goal.returns
returns c = round_trip
