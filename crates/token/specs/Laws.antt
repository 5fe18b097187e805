-- What is shown of single tokens.
use Rattle.std.specs.Prelude.{ℕ, ◌+◌, ◌^◌, ◌≤◌, ◌<◌, ◌≡◌, List, [], ◌∷◌, ◌++◌, true, length, take, drop, get_or}
use Rattle.token.specs.declared.Token.{Token}
use Rattle.token.specs.declared.Token.TheVariants as K
use Rattle.token.specs.Token.{token_of, token_at, is_control}
use Rattle.token.specs.Write.{enc_int, enc_bytes, max_bytes}

-- what is written is read back, with anything before it and after it
pub record ReadBack : Type 0 where
  pub int : (a b : List ℕ) (v : ℕ) → v < 2 ^ 64 → token_at (a ++ enc_int v ++ b) (length a) ≡ K.Int v (length a + length (enc_int v))
  pub bytes : (a b bs : List ℕ) → length bs < max_bytes
      → (p : ℕ) × (token_at (a ++ enc_bytes bs ++ b) (length a) ≡ K.Bytes p (length bs) (length a + length (enc_bytes bs)))
      × (take (length bs) (drop p (a ++ enc_bytes bs ++ b)) ≡ bs)
  pub control : (a b : List ℕ) (c : ℕ) → is_control c ≡ true → token_at (a ++ (c ∷ []) ++ b) (length a) ≡ K.Control c (length a + 1)

-- from p the token t takes at least m bytes and ends within n
abbrev pub Takes : ℕ → ℕ → ℕ → Token → Type 0
Takes p m n (K.Int v q) = (p + m ≤ q) × (q ≤ n)
Takes p m n (K.Bytes st len q) = (p + m ≤ q) × (q ≤ n)
Takes p m n (K.Control c q) = (p + m ≤ q) × (q ≤ n)
Takes p m n K.End = Unit {0}
Takes p m n K.Broken = Unit {0}

-- the length of the form that the writer gives the token t of s
abbrev pub shortest : List ℕ → Token → ℕ
shortest s (K.Int v q) = length (enc_int v)
shortest s (K.Bytes st len q) = length (enc_bytes (take len (drop st s)))
shortest s (K.Control c q) = 1
shortest s K.End = 0
shortest s K.Broken = 0

-- no form that the reader reads is shorter than the writer's, and none runs past the input
abbrev pub Shortest : Type 0
Shortest = (s : List ℕ) (p : ℕ) → ((i : ℕ) → get_or s i 0 < 256) → Takes p (shortest s (token_at s p)) (length s) (token_at s p)

-- bytes that are read lie within the token, and an integer has 64 bits
abbrev pub Lies : ℕ → Token → Type 0
Lies p (K.Int v q) = v < 2 ^ 64
Lies p (K.Bytes st len q) = (p < st) × (st + len ≡ q)
Lies p (K.Control c q) = is_control c ≡ true
Lies p K.End = Unit {0}
Lies p K.Broken = Unit {0}

abbrev pub Inside : Type 0
Inside = (s : List ℕ) (p : ℕ) → ((i : ℕ) → get_or s i 0 < 256) → Lies p (token_at s p)

-- a token with its places k further on
abbrev pub moved : ℕ → Token → Token
moved k (K.Int v q) = K.Int v (k + q)
moved k (K.Bytes st len q) = K.Bytes (k + st) len (k + q)
moved k (K.Control c q) = K.Control c (k + q)
moved k K.End = K.End
moved k K.Broken = K.Broken

-- an empty token in front changes nothing but the places
abbrev pub Skipped : Type 0
Skipped = (p : ℕ) (l : List ℕ) → token_of p (0xff ∷ l) ≡ moved 1 (token_of p l)
