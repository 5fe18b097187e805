-- From a factory record number 1 never comes.
use Rattle.model.proofs.Numbered.{never-unsound}
use Rattle.model.proofs.law_never_unsound.Goals as goal

pub returns : goal.returns
returns c = never-unsound
