-- Numbers as bytes, the highest first, and bytes put into a buffer.
use Rattle.std.specs.Prelude.{ℕ, zero, suc, ◌+◌, ◌*◌, ◌/◌, ◌%◌, List, [], ◌∷◌, ◌++◌, Bool, ◌&&◌, cond, length, take, drop, leb}

-- b is from lo to hi
unfoldable pub within : ℕ → ℕ → ℕ → Bool
within lo hi b = leb lo b && leb b hi

-- the number that the bytes make after a
unfoldable pub be_val : ℕ → List ℕ → ℕ
be_val a [] = a
be_val a (b ∷ l) = be_val (a * 256 + b) l

-- the number that n bytes of s make from at on, and 0 where they are not there or too many for 64 bits
unfoldable pub number_at : List ℕ → ℕ → ℕ → ℕ
number_at s at n = cond (leb n 8 && leb (at + n) (length s)) (be_val 0 (take n (drop at s))) 0

-- the lowest n bytes of v
unfoldable pub be_of : ℕ → ℕ → List ℕ
be_of zero v = []
be_of (suc n) v = be_of n (v / 256) ++ ((v % 256) ∷ [])

-- d with bs in it from at on
unfoldable pub over : List ℕ → ℕ → List ℕ → List ℕ
over d at bs = take at d ++ bs ++ drop (at + length bs) d
