-- Hex digits, in either case when read, in lower case when written.
use Rattle.std.specs.Prelude.{ℕ, ◌+◌, ◌-◌, ◌*◌, ◌/◌, ◌%◌, List, [], ◌∷◌, cond, ltb}
use Rattle.token.specs.Bytes.{within}

-- what a digit says: 0 to 9, A to F, a to f; 16 for any other byte
unfoldable pub digit_of : ℕ → ℕ
digit_of b = cond (within 48 57 b) (b - 48) (cond (within 65 70 b) (b - 55) (cond (within 97 102 b) (b - 87) 16))

-- and how it is written
unfoldable pub char_of : ℕ → ℕ
char_of d = cond (ltb d 10) (48 + d) (87 + d)

-- bytes as digits, two for each, the higher first
unfoldable pub digits_of : List ℕ → List ℕ
digits_of [] = []
digits_of (b ∷ l) = char_of (b / 16) ∷ char_of (b % 16) ∷ digits_of l

-- the byte that two digits say; what is no digit counts as 0
unfoldable pub byte_of : ℕ → ℕ → ℕ
byte_of x y = digit_of x % 16 * 16 + digit_of y % 16

-- and the bytes that a row of them says; a last one without a second is left out
unfoldable pub bytes_of : List ℕ → List ℕ
bytes_of [] = []
bytes_of (x ∷ []) = []
bytes_of (x ∷ y ∷ l) = byte_of x y ∷ bytes_of l
