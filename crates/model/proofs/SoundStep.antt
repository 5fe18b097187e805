-- An event leaves a sound record sound.
use mathlib.Core.Path.{◌≡◌}
use mathlib.Core.Bool.{true}
use Rattle.model.specs.Types.{Card}
use Rattle.model.specs.Sound.{sound}
use Rattle.model.specs.Step.{Event, next}
use Rattle.model.proofs.Reached.{always-sound}

pub sound-step : (k : Card) (e : Event) → sound k ≡ true → sound (next k e) ≡ true
sound-step = always-sound.step
