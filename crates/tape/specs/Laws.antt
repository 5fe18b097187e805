-- "What our writer of tokens writes, our reader reads back as the same value."
use Rattle.std.specs.Prelude.{ℕ, ◌+◌, ◌≤◌, ◌<◌, ◌^◌, ◌≡◌, List, ◌++◌, length, get_or, Ok}
use Rattle.value.specs.Value.{Value}
use Rattle.value.specs.Read.{Out, ok, bad, value_at}
use Rattle.value.specs.Source.{tree_at}
use Rattle.value.specs.Plain.{Plain, plain_in}
use Rattle.tape.specs.Write.{enc_value, Within, wrote_end, wrote_all}
use Rattle.tape.specs.Words.{took_end, took_all}

-- the value x stands in s where o says, and ends at z
abbrev pub Says : List ℕ → Out Value → Plain → ℕ → Type 0
Says s (ok v q) x z = (plain_in s v ≡ x) × (q ≡ z)
Says s bad x z = ⊥

-- the bytes of any value within the limits are read as that value, with anything before them and after them
abbrev pub RoundTrip : Type 0
RoundTrip = (a b : List ℕ) (x : Plain) (d : ℕ) → Within x d
    → Says (a ++ enc_value x ++ b) (value_at (a ++ enc_value x ++ b) d (length a)) x (length a + length (enc_value x))

-- words of 64 bits, bytes of 8
abbrev pub Below : ℕ → List ℕ → Type 0
Below b l = (i : ℕ) → get_or l i 0 < b

-- where the writer answers a place, the bytes that it leaves read as the value on the tape and end there
abbrev pub Written : Type 0
Written = (t bs out : List ℕ) (i at z : ℕ) → Below (2 ^ 64) t → wrote_end bs (length out) at (tree_at t bs 16 i) ≡ Ok z
    → (x : Plain) × (q : ℕ) × Says bs (tree_at t bs 16 i) x q
    × Says (wrote_all bs out at (tree_at t bs 16 i)) (value_at (wrote_all bs out at (tree_at t bs 16 i)) 16 at) x z

-- where the reader answers a node and a place, the tape that it leaves says the very value that stands in the bytes
abbrev pub Laid : Type 0
Laid = (s u : List ℕ) (p k j y : ℕ) → Below 256 s → took_end (length u) k (value_at s 16 p) ≡ Ok (record { node = j; next = y })
    → (x : Plain) × Says s (value_at s 16 p) x y × Says s (tree_at (took_all u k (value_at s 16 p)) s 16 k) x j

-- no bytes that read as the same value are fewer than the writer's
abbrev pub NotLonger : List ℕ → ℕ → Out Value → Type 0
NotLonger s p (ok v q) = p + length (enc_value (plain_in s v)) ≤ q
NotLonger s p bad = Unit {0}

abbrev pub Shortest : Type 0
Shortest = (s : List ℕ) (d p : ℕ) → Below 256 s → NotLonger s p (value_at s d p)
