-- Only an authority with a PIN row is marked as proved.
use Rattle.std.proofs.Common.{◌≡◌, ◌≤◌, ℕ, List, Bool, true, length, refl, rules, arith}
use lib.Seq.{set_out}
use Rattle.model.specs.declared.Who.{Who}
use Rattle.model.specs.declared.Who.TheVariants as W
use Rattle.model.specs.Apply.{proving}
use Rattle.model.proofs.Session.proving.Goals as goal

pub returns-then-r-lt-PINS : goal.returns-then-r-lt-PINS
unfolding proving
returns-then-r-lt-PINS c = simp c.in-Row.is

pub returns-else-r-lt-PINS : goal.returns-else-r-lt-PINS
unfolding proving
returns-else-r-lt-PINS c =
    let many : length c.args.self.proved ≡ 13 = search rules in
    let past : 13 ≤ c.in-Row.r = c.if-r-lt-PINS.false in
    simp (c.in-Row.is, set_out c.args.self.proved c.in-Row.r true (omega (arith, many, past)))

nobody : (l : List Bool) (w : Who) → ((r : ℕ) → w ≡ W.Row r → ⊥) → l ≡ proving l w
unfolding proving
nobody l (W.Row r) h = absurd (h r refl)
nobody l _ h = refl

pub returns-in_default : goal.returns-in_default
returns-in_default c = rw (← nobody c.args.self.proved c.args.who c.in_default.not-Row) refl
