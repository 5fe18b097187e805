-- Cases on a test, and on the numbers 1 to 8.
use Prim.Native.Nat.{ℕ, zero, suc, ◌≤◌}
use mathlib.Core.Path.{◌≡◌, refl}
use mathlib.Core.Bool.{Bool, true, false, cond}
use native.Mathlib.Omega.{arith}
use Rattle.std.proofs.lemmas.Bool.{both_ways}
pub use Rattle.token.proofs.Writes.{cond-all as cond_ind}

-- what holds of either arm
pub whichever : {A : Type 0} (P : A → Type 0) (b : Bool) (x y : A) → P x → P y → P (cond b x y)
whichever P b x y f g = cond_ind P b x y (λ _. f) (λ _. g)

-- a test within what f is of
pub of_cond : {A B : Type 0} (f : A → B) (b : Bool) (x y : A) → f (cond b x y) ≡ cond b (f x) (f y)
of_cond f true x y = refl
of_cond f false x y = refl

pub never : {P : Type 0} {b : Bool} → b ≡ false → b ≡ true → P
never e f = absurd (both_ways _ e f)

pub up_to4 : (F : ℕ → Type 0) → F 1 → F 2 → F 3 → F 4 → (k : ℕ) → 1 ≤ k → k ≤ 4 → F k
up_to4 F a b c d zero l m = absurd (omega arith)
up_to4 F a b c d (suc zero) l m = a
up_to4 F a b c d (suc (suc zero)) l m = b
up_to4 F a b c d (suc (suc (suc zero))) l m = c
up_to4 F a b c d (suc (suc (suc (suc zero)))) l m = d
up_to4 F a b c d (suc (suc (suc (suc (suc k))))) l m = absurd (omega arith)

pub up_to8 : (F : ℕ → Type 0) → F 1 → F 2 → F 3 → F 4 → F 5 → F 6 → F 7 → F 8 → (k : ℕ) → 1 ≤ k → k ≤ 8 → F k
up_to8 F a b c d e f g h zero l m = absurd (omega arith)
up_to8 F a b c d e f g h (suc zero) l m = a
up_to8 F a b c d e f g h (suc (suc zero)) l m = b
up_to8 F a b c d e f g h (suc (suc (suc zero))) l m = c
up_to8 F a b c d e f g h (suc (suc (suc (suc zero)))) l m = d
up_to8 F a b c d e f g h (suc (suc (suc (suc (suc k))))) l m = up_to4 (λ x. F (suc (suc (suc (suc x))))) e f g h (suc k) (omega arith) (omega arith)
