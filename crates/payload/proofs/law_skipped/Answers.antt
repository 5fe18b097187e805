-- `payload::law_skipped` states `Skipped`, which `skipped` shows.
use Rattle.payload.proofs.Skipped.{skipped}
use Rattle.payload.proofs.law_skipped.Goals as goal

pub returns : goal.returns
returns c = skipped
