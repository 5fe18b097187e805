-- What is written: all of it, or nothing where there is no room.
use Rattle.std.specs.Prelude.{ℕ, ◌+◌, List, [], ◌∷◌, cond, length, take, drop, leb}
use Rattle.line.specs.Hex.{digits_of, bytes_of}

-- bytes as text: `-` where there are none
unfoldable pub hex_text : List ℕ → List ℕ
hex_text [] = 45 ∷ []
hex_text (b ∷ l) = digits_of (b ∷ l)

-- the bytes that len digits of s say from at on; none where they are not there
unfoldable pub bytes_at : List ℕ → ℕ → ℕ → List ℕ
bytes_at s at len = cond (leb (at + len) (length s)) (bytes_of (take len (drop at s))) []

-- the place after bs, put at at into a buffer of n bytes, and at itself where there is no room. (What the buffer holds then: `put_all true` of `token`.)
unfoldable pub put_end : ℕ → ℕ → List ℕ → ℕ
put_end n at bs = cond (leb (at + length bs) n) (at + length bs) at
