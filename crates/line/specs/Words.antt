-- The words of a line, each by its place.
use Rattle.std.specs.Prelude.{ℕ, ◌+◌, ◌-◌, List, [], ◌∷◌, Bool, not, ◌||◌, cond, length, take, drop, ltb, leb, eqb, Option, Some, None}
use Rattle.line.specs.Hex.{digit_of}

-- space, tab, carriage return
unfoldable pub blank : ℕ → Bool
blank b = eqb b 32 || eqb b 9 || eqb b 13

-- anything but a blank
abbrev pub mark : ℕ → Bool
mark b = not (blank b)

-- anything but a digit below the base n
unfoldable pub past : ℕ → ℕ → Bool
past n b = leb n (digit_of b)

-- the first place where t holds in l, which starts at p; the place after l where it never does
unfoldable pub first_of : (ℕ → Bool) → ℕ → List ℕ → ℕ
first_of t p [] = p
first_of t p (b ∷ l) = cond (t b) p (first_of t (p + 1) l)

-- the first place of s from at on where t holds
abbrev pub first_at : (ℕ → Bool) → List ℕ → ℕ → ℕ
first_at t s at = first_of t at (drop at s)

-- the word that starts at p, up to the place after it; and the next word from at on
abbrev pub word_from : List ℕ → ℕ → Option (ℕ × ℕ)
word_from s p = cond (ltb p (length s)) (Some (p, first_at blank s p)) None

unfoldable pub word_at : List ℕ → ℕ → Option (ℕ × ℕ)
word_at s at = word_from s (first_at mark s at)

-- what stands from p up to e
abbrev pub part : List ℕ → ℕ → ℕ → List ℕ
part s p e = take (e - p) (drop p s)
