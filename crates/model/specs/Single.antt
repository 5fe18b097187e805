-- "Show that it admits one outcome only": what comes back of a request, and the buffer lent for the answer.
use Rattle.std.specs.Prelude.{ℕ, ◌≤◌, ◌≡◌, List, ◌≢◌, length, get_or}
use Rattle.model.specs.Types.{Card, Outcome}
use Rattle.model.specs.Step.{command, outcome_of, buffer_of}

-- a card that meets the promise: on the request s and a buffer that held old it brings back r and leaves last
pub record Meets (k : Card) (s old : List ℕ) (r : Outcome) (last : List ℕ) : Type 0 where
  pub outcome : r ≡ outcome_of (command k (length old) s)
  pub buffer : last ≡ buffer_of (command k (length old) s) old

pub record OneOutcome : Type 0 where
  pub one : (k : Card) (s old : List ℕ) (r q : Outcome) (last end : List ℕ) → Meets k s old r last → Meets k s old q end → (r ≡ q) × (last ≡ end)
  -- the buffer keeps its length, and "bytes past it are unchanged"
  pub length : (k : Card) (s old : List ℕ) (r : Outcome) (last : List ℕ) → Meets k s old r last → length last ≡ length old
  pub past : (k : Card) (s old : List ℕ) (r : Outcome) (last : List ℕ) (i : ℕ) → Meets k s old r last → r.count ≤ i → get_or last i 0 ≡ get_or old i 0
  -- "Every other number brings no answer and changes nothing"
  pub nothing : (k : Card) (s old : List ℕ) (r : Outcome) (last : List ℕ) → Meets k s old r last → r.number ≢ 0
      → (r.count ≡ 0) × (r.card ≡ k) × (last ≡ old)
