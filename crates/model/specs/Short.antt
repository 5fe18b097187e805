-- "An answer never exceeds 2,048 bytes": it fits the buffer, in whole fours.
use Rattle.std.specs.Prelude.{ℕ, ◌%◌, ◌≤◌, ◌≡◌, List, [], ◌≢◌, length}
use Rattle.model.specs.Types.{Card}
use Rattle.model.specs.Step.{command}

pub record AnswersShort : Type 0 where
  pub short : (k : Card) (room : ℕ) (s : List ℕ) → length (command k room s).bytes ≤ 2048
  pub fits : (k : Card) (room : ℕ) (s : List ℕ) → length (command k room s).bytes ≤ room
  -- "up to a multiple of 4"
  pub fours : (k : Card) (room : ℕ) (s : List ℕ) → length (command k room s).bytes % 4 ≡ 0
  -- an answer there is exactly where the number is 0: the envelope's 56 bytes, and a payload
  pub some : (k : Card) (room : ℕ) (s : List ℕ) → (command k room s).number ≡ 0 → 60 ≤ length (command k room s).bytes
  pub none : (k : Card) (room : ℕ) (s : List ℕ) → (command k room s).number ≢ 0 → (command k room s).bytes ≡ []
