-- What is shown of text that is written and read.
use Rattle.std.specs.Prelude.{ℕ, ◌+◌, ◌*◌, ◌^◌, ◌<◌, ◌≡◌, List, [], ◌∷◌, ◌++◌, true, length, get_or, Ok}
use Rattle.line.specs.Words.{blank}
use Rattle.line.specs.Number.{decimal_of}
use Rattle.line.specs.Write.{hex_text, bytes_at}
use Rattle.line.specs.Line.{number_at, hex_at}

-- a word ends before b
abbrev pub Ends : List ℕ → Type 0
Ends [] = Unit {0}
Ends (x ∷ b) = blank x ≡ true

-- what is written is read back as a word of a line, whatever stands around it
pub record ReadBack : Type 0 where
  pub digits : (a b bs : List ℕ) → ((i : ℕ) → get_or bs i 0 < 256) → Ends b
      → hex_at (a ++ hex_text bs ++ b) (length a) ≡ Ok (length a, 2 * length bs, length a + length (hex_text bs))
  pub bytes : (a b bs : List ℕ) → ((i : ℕ) → get_or bs i 0 < 256) → bytes_at (a ++ hex_text bs ++ b) (length a) (2 * length bs) ≡ bs
  pub number : (a b : List ℕ) (v : ℕ) → v < 2 ^ 64 → Ends b → number_at (a ++ decimal_of v ++ b) (length a) ≡ Ok (v, length a + length (decimal_of v))
