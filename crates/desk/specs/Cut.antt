-- Where a line ends, and what is kept of it, in input that comes in pieces.
use Rattle.std.specs.Prelude.{ℕ, ◌+◌, ◌-◌, ◌≤◌, ◌≡◌, Bool, List, ◌++◌, length, take, eqb}
use Rattle.token.specs.Bytes.{over}
use Rattle.line.specs.Words.{first_of}

abbrev pub is_feed : ℕ → Bool
is_feed b = eqb b 10

-- the place of the first line feed, or the end
abbrev pub line_end : List ℕ → ℕ
line_end s = first_of is_feed 0 s

-- of s, what there is room for behind the first len bytes of a line of n
abbrev pub fitting : ℕ → ℕ → List ℕ → List ℕ
fitting n len s = take (n - len) s

-- how long the line is then, and the buffer
unfoldable pub kept_end : ℕ → ℕ → List ℕ → ℕ
kept_end n len s = len + length (fitting n len s)

unfoldable pub kept : List ℕ → ℕ → List ℕ → List ℕ
kept d len s = over d len (fitting (length d) len s)

-- a line that does not end in a goes on in b, and what is kept of the two is what is kept of them in one
pub record Pieces : Type 0 where
  pub place : (a b : List ℕ) → line_end a ≡ length a → line_end (a ++ b) ≡ length a + line_end b
  pub count : (n len : ℕ) (a b : List ℕ) → kept_end n (kept_end n len a) b ≡ kept_end n len (a ++ b)
  pub buffer : (d : List ℕ) (len : ℕ) (a b : List ℕ) → len ≤ length d → kept (kept d len a) (kept_end (length d) len a) b ≡ kept d len (a ++ b)
