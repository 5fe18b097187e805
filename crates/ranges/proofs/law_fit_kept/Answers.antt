-- A Set and a reset keep a fit.
use Rattle.ranges.proofs.Edits.{set-fits}
use Rattle.ranges.proofs.Mapped.{reset-fits}
use Rattle.ranges.proofs.law_fit_kept.Goals as goal

pub returns : goal.returns
returns c = record { by_set = set-fits; by_reset = reset-fits }
