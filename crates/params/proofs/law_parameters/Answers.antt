-- Exactly which values are the parameters of each method.
use mathlib.Core.Path.{refl}
use Rattle.params.specs.Names.{nothing}
use Rattle.params.proofs.ExactKinds.{none_left}
use Rattle.params.proofs.ExactShapes as shapes
use Rattle.params.proofs.ExactSet.{set_is}
use Rattle.params.proofs.ExactColumns.{set_only}
use Rattle.params.proofs.law_parameters.Goals as goal

pub returns : goal.returns
unfolding nothing
returns c = record {
  start = shapes.start_is;
  start_only = shapes.start_only;
  proof = shapes.proof-is;
  proof_only = shapes.proof_only;
  get = shapes.get-is;
  get_only = shapes.get_only;
  set = set_is;
  set_only = set_only;
  bare = refl;
  bare_only = none_left;
  resets = shapes.resets-are;
  resets_only = shapes.resets_only;
}
