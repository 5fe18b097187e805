-- Digits read as a number.
use Rattle.std.proofs.Common.{ℕ, ◌+◌, ◌*◌, ◌^◌, ◌≤◌, ◌<◌, ◌≡◌, List, [], ◌∷◌, length, drop, get_or, arith, add-one, Option, Result, Ok, Err, SomeIff, ok_or, IsErrAnd, ap, ◌∙◌}
use Rattle.std.proofs.Math.ListN.{drop_of_length-le}
use Rattle.std.proofs.Math.Seq.{drop-cons}
use borrow.Author.Tests.{lt-ltb, le-ltb}
use Rattle.line.specs.declared.Why.{Why}
use Rattle.line.specs.declared.Why.TheVariants as Y
use Rattle.line.specs.Hex.{digit_of}
use Rattle.line.specs.Number.{value_of, sized}

module _ (w : List ℕ) (v i : ℕ) where
  pub value_on : i < length w → value_of v (drop i w) ≡ value_of (v * 10 + digit_of (get_or w i 0)) (drop (i + 1) w)
  unfolding value_of
  value_on h = rw (drop-cons w i 0, add-one)

  pub value-end : length w ≤ i → value_of v (drop i w) ≡ v
  unfolding value_of
  value-end h = rw drop_of_length-le

-- more digits make it no less
pub value_grows : (v : ℕ) (l : List ℕ) → v ≤ value_of v l
unfolding value_of
value_grows v [] = omega arith
value_grows v (b ∷ l) = omega (arith, value_grows (v * 10 + digit_of b) l)

module _ (v : ℕ) where
  pub sized-is : v < 2 ^ 64 → sized v ≡ Ok v
  unfolding sized
  sized-is h = rw (lt-ltb v (2 ^ 64) h)

  pub sized-large : 2 ^ 64 ≤ v → sized v ≡ Err Y.Large
  unfolding sized
  sized-large h = rw (le-ltb v (2 ^ 64) h)

-- so one that is too large already stays so
pub large : (n v : ℕ) (l : List ℕ) → n ≡ value_of v l → 2 ^ 64 ≤ v → sized n ≡ Err Y.Large
large n v l e h = sized-large n (omega (arith, value_grows v l))

-- what `?` answers
pub same_error : {A : Type 0} (r : Result A Why) (x y : Why) → IsErrAnd r (λ e. e ≡ x) → x ≡ y → r ≡ Err y
same_error (Ok a) x y h e = absurd h
same_error (Err w) x y h e = ap Err (h ∙ e)

-- a sum or a product that is refused has more than 64 bits
pub refused : (r : Option ℕ) (x : ℕ) (y : Why) → SomeIff r (x < 2 ^ 64) x → Err y ≡ ok_or r Y.Large → (y ≡ Y.Large) × (2 ^ 64 ≤ x)
refused r x y h e = grind arith

-- and one that is taken has not
pub taken : (r : Option ℕ) (x y : ℕ) → SomeIff r (x < 2 ^ 64) x → Ok y ≡ ok_or r Y.Large → y ≡ x
taken r x y h e = grind arith
