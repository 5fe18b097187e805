-- Numbers in decimal digits.
use Rattle.std.specs.Prelude.{ℕ, zero, suc, ◌+◌, ◌*◌, ◌/◌, ◌%◌, ◌^◌, List, [], ◌∷◌, ◌++◌, cond, ltb, Result, Ok, Err}
use Rattle.line.specs.declared.Why.{Why}
use Rattle.line.specs.declared.Why.TheVariants as Y
use Rattle.line.specs.Hex.{digit_of, char_of}

-- the number that digits make after a
unfoldable pub value_of : ℕ → List ℕ → ℕ
value_of a [] = a
value_of a (b ∷ l) = value_of (a * 10 + digit_of b) l

-- the number v, where it has 64 bits
unfoldable pub sized : ℕ → Result ℕ Why
sized v = cond (ltb v (2 ^ 64)) (Ok v) (Err Y.Large)

-- the digits of v, up to k of them, with no zero in front
unfoldable pub dec_of : ℕ → ℕ → List ℕ
dec_of zero v = []
dec_of (suc k) v = cond (ltb v 10) (char_of v ∷ []) (dec_of k (v / 10) ++ (char_of (v % 10) ∷ []))

-- 64 bits take no more than 20
abbrev pub decimal_of : ℕ → List ℕ
decimal_of v = dec_of 20 v
