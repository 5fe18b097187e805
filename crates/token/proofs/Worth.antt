-- The number that bytes make, gathered from the first to the last, is what they are worth.
use Prim.Native.Nat.{ℕ, ◌+◌, ◌*◌, ◌^◌}
use mathlib.Core.Path.{◌≡◌, ◌∙◌}
use mathlib.Core.List.{List, [], ◌∷◌}
use native.Mathlib.Omega.{arith}
use native.Mathlib.Nat.{add-mul, mul_assoc, pow-succ'}
use lib.ListN.{length}
use Rattle.token.specs.Bytes.{be_val}
use Rattle.token.specs.Exact.{worth}

after : (a : ℕ) (bs : List ℕ) → be_val a bs ≡ a * 256 ^ length bs + worth bs
unfolding be_val worth
after a [] = omega arith
after a (b ∷ bs) = after (a * 256 + b) bs ∙ rw (add-mul, mul_assoc, ← pow-succ' 256 (length bs)) (omega arith)

pub be-worth : (bs : List ℕ) → be_val 0 bs ≡ worth bs
be-worth bs = after 0 bs ∙ omega arith
