-- Every sector has one owner, and where the rows fit no other.
use native.Mathlib.Omega.{arith}
use Rattle.ranges.specs.Owner.{owner_of}
use Rattle.ranges.proofs.Owners.{owns, owns-once}
use Rattle.ranges.proofs.law_owner.Goals as goal

pub returns : goal.returns
returns c = record { some = owns; no_other = λ rows n s o f x. owns-once rows s n f o (owner_of rows s) x (owns rows s (omega arith)) }
