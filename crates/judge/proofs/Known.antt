-- The known columns as a set: all bits up to the last column's.
use Prim.Native.Nat.{ℕ, zero, suc, ◌+◌, ◌-◌, ◌*◌, ◌/◌, ◌%◌, ◌^◌, ◌≤◌}
use mathlib.Core.Path.{◌≡◌, refl, ap, ◌∙◌}
use mathlib.Core.Bool.{Bool, true, false, ◌&&◌}
use native.Mathlib.Nat.{add-zero, zero-add, pow-suc, div-div-eq-div-mul, div-one, zero-div, mul_comm, one-mul, mod-eq_of_lt}
use native.Mathlib.Numerals.{add-one}
use native.Mathlib.Omega.{arith}
use lib.Dec.{leb, leb-zero, leb-suc-zero, leb-suc-suc}
use lib.Pow.{pow_pos, pow-lt}
use Rattle.std.specs.List.{list_all, range_with_len}
use Rattle.ranges.specs.Decides.{all}
use Rattle.params.specs.declared.Columns.{Columns}
use Rattle.model.specs.declared.Object.{Object}
use Rattle.model.specs.declared.Object.TheVariants as O
use Rattle.model.specs.Access.{has_column, last_column}
use Rattle.model.specs.Judge.{at_given}

pub last_small : (o : Object) → last_column o ≤ 19
unfolding last_column
last_small O.PinSid = omega arith
last_small O.PinMsid = omega arith
last_small O.TperInfo = omega arith
last_small O.SpAdmin = omega arith
last_small O.SpLocking = omega arith
last_small O.ThisSp = omega arith
last_small (O.Authority r) = omega arith
last_small (O.Pin r) = omega arith
last_small (O.Range k) = omega arith
last_small O.MbrControl = omega arith
last_small O.Nothing = omega arith

-- so the bit past the last column is one of 32
pub shifted : (l : ℕ) → l ≤ 19 → 1 * 2 ^ (l + 1) % 2 ^ 32 ≡ 2 ^ (l + 1)
shifted l h = rw (one-mul (2 ^ (l + 1))) (mod-eq_of_lt (pow-lt {i = l + 1} {j = 32} (omega arith)))

-- all bits below n: the lowest, and the others
ones : (n k : ℕ) → has_column (2 ^ n - 1) k ≡ leb (suc k) n
ones zero k = rw (zero-div (2 ^ k), leb-suc-zero k)
ones (suc n) zero = let odd : (2 ^ n * 2 - 1) % 2 ≡ 1 = omega (arith, pow_pos n) in rw (pow-suc 2 n, div-one (2 ^ n * 2 - 1), odd, leb-suc-suc 0 n, leb-zero n)
ones (suc n) (suc k) =
    let half : (2 ^ n * 2 - 1) / 2 ≡ 2 ^ n - 1 = omega (arith, pow_pos n) in
    rw (pow-suc 2 n, pow-suc 2 k, mul_comm (2 ^ k) 2, ← div-div-eq-div-mul (2 ^ n * 2 - 1) 2 (2 ^ k), half, leb-suc-suc (suc k) n) (ones n k)

pub up_to : (l k : ℕ) → has_column (2 ^ (l + 1) - 1) k ≡ leb k l
up_to l k = rw (add-one l) (ones (suc l) k ∙ leb-suc-suc k l)

-- two tests that say the same of each column
pub same_test : (t : Columns) (f g : ℕ → Bool) → ((k : ℕ) → f k ≡ g k) → at_given f t ≡ at_given g t
same_test t f g e = λ i. at_given (λ k. e k i) t

-- ---- the numbers below n, asked from the first on
turned_about : (a b c : Bool) → (a && (b && c)) ≡ (b && (a && c))
turned_about true b c = refl
turned_about false true c = refl
turned_about false false c = refl

last_first : (f : ℕ → Bool) (a n : ℕ) → list_all f (range_with_len a (suc n)) ≡ (f (a + n) && list_all f (range_with_len a n))
last_first f a zero = rw add-zero refl
last_first f a (suc n) =
    let next : a + 1 + n ≡ a + suc n = omega arith in
    ap (λ x. f a && x) (last_first f (a + 1) n) ∙ rw next (turned_about (f a) (f (a + suc n)) (list_all f (range_with_len (a + 1) n)))

pub each_below : (f : ℕ → Bool) (n : ℕ) → list_all f (range_with_len 0 n) ≡ all f n
unfolding all
each_below f zero = refl
each_below f (suc n) = (rw (zero-add n) at (last_first f 0 n)) ∙ ap (λ x. f n && x) (each_below f n)
