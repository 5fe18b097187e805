-- `self_of` meets its contract: 0 for what is no row.
use Prim.Native.Nat.{ℕ}
use mathlib.Core.Path.{◌≡◌, refl, sym}
use Rattle.model.specs.declared.Object.{Object}
use Rattle.model.specs.declared.Object.TheVariants as O
use Rattle.model.specs.Access.{self_of}
use Rattle.access.proofs.self_of.Goals as goal

-- an object that is neither an authority nor a PIN
no-row : (o : Object) → ((r : ℕ) → o ≡ O.Authority r → ⊥) → ((r : ℕ) → o ≡ O.Pin r → ⊥) → self_of o ≡ 0
unfolding self_of
no-row O.PinSid h k = refl
no-row O.PinMsid h k = refl
no-row O.TperInfo h k = refl
no-row O.SpAdmin h k = refl
no-row O.SpLocking h k = refl
no-row O.ThisSp h k = refl
no-row (O.Authority r) h k = absurd (h r refl)
no-row (O.Pin r) h k = absurd (k r refl)
no-row (O.Range i) h k = refl
no-row O.MbrControl h k = refl
no-row O.Nothing h k = refl

pub returns-in_default : goal.returns-in_default
returns-in_default c = sym (no-row _ c.in_default.not-Authority c.in_default.not-Pin)
