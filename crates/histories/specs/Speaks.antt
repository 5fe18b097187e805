-- The laws of secrecy and of transactions speak of something: records and runs in which all that they suppose is so.
use Rattle.std.specs.Prelude.{◌≡◌, true, false, List, [], ◌∷◌, ◌≢◌}
use Rattle.model.specs.declared.Card.{Card}
use Rattle.model.specs.Sound.{sound}
use Rattle.model.specs.Step.{Event}
use Rattle.model.specs.Seen.{trace, answered, said}
use Rattle.model.specs.Laws.{AnsweredAlike, Transaction, within, Commits, Abandons}

-- two records that differ in a PIN and in nothing else
pub record Apart (one other : Card) : Type 0 where
  pub first : sound one ≡ true
  pub second : sound other ≡ true
  pub cells : one.cells ≡ other.cells
  pub pins : one.vault ≢ other.vault

pub record SecrecySpeaks : Type 0 where
  pub one : Card
  pub other : Card
  pub apart : Apart one other
  -- a PIN that is wrong for both, and a run after it: all that is seen agrees
  pub wrong : Event
  pub later : List Event
  pub compared : answered one wrong ≡ said false
  pub alike : AnsweredAlike one other (wrong ∷ later)
  pub agree : trace one (wrong ∷ later) ≡ trace other (wrong ∷ later)
  -- the PIN of one: here they are told apart, by the answer to the comparison
  pub right : Event
  pub known : (answered one right ≡ said true) × (answered other right ≡ said false)
  pub differ : trace one (right ∷ []) ≢ trace other (right ∷ [])

-- a transaction in which a table and a PIN change, and which can be committed, abandoned or ended with its session
pub record TransactionsSpeak : Type 0 where
  pub before : Card
  pub begin : Event
  pub inner : List Event
  pub transaction : Transaction before begin inner
  pub tables : (within before begin inner).cells.tables ≢ before.cells.tables
  pub pins : (within before begin inner).vault.live ≢ before.vault.live
  pub commit : (z : Event) × Commits (within before begin inner) z
  pub abandon : (z : Event) × Abandons (within before begin inner) z
