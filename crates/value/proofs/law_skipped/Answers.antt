-- Empty tokens change nothing, from `Skipped`.
use Rattle.value.proofs.Skipped.{skipped}
use Rattle.value.proofs.law_skipped.Goals as goal

pub returns : goal.returns
returns c = skipped
