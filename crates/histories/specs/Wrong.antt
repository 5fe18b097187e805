-- The five wrong cards that document 01 shuts out by name, each of the type of the right one, and told apart by a run.
use Rattle.std.specs.Prelude.{ℕ, ◌+◌, ◌≡◌, true, cond, List, [], ◌∷◌, ◌≢◌, get_or, set, None}
use Rattle.packet.specs.Envelope.{packet_of, opened_of}
use Rattle.model.specs.declared.Card.{Card}
use Rattle.model.specs.Record as R
use Rattle.model.specs.Step.{Event, next}
use Rattle.model.specs.Seen.{sees}
use Rattle.histories.specs.Worked.{card, locking}

pub record Machine : Type 0 where
  pub after : Card → Event → Card
  pub shows : Card → Event → List ℕ

unfoldable pub rules : Machine
rules = record { after = next; shows = λ k e. (sees k e).bytes }

-- "the card that answers 01 to everything"
unfoldable pub refuser : Machine
refuser = record { after = next; shows = λ k e. packet_of 0 0 (0xf0 ∷ 0xf1 ∷ 0xf9 ∷ 0xf0 ∷ 0x01 ∷ 0x00 ∷ 0x00 ∷ 0xf1 ∷ []) }

-- "the card with one fixed answer", whichever it is
unfoldable pub fixed : List ℕ → Machine
fixed bytes = record { after = next; shows = λ k e. bytes }

-- "the card that answers well and stores nothing": no table and no PIN
unfoldable pub forgetful : Machine
forgetful = record {
  after = λ k e. record { cells = R.with_tables (next k e).cells k.cells.tables; vault = k.vault };
  shows = λ k e. (sees k e).bytes;
}

-- "one that commits a transaction at its first Set": what stands in a transaction is what will be put back
unfoldable pub committing : Card → Card
committing k =
    cond k.cells.undo.live
    (record {
      cells = R.with_undo k.cells (record { live = true; was = k.cells.tables });
      vault = record { live = k.vault.live; kept = k.vault.live };
    })
    k

unfoldable pub hasty : Machine
hasty = record { after = λ k e. committing (next k e); shows = λ k e. (sees k e).bytes }

-- "one that invents the byte count": the ComPacket's Length is one more
unfoldable pub inventive : Machine
inventive = record { after = next; shows = λ k e. set (sees k e).bytes 19 (get_or (sees k e).bytes 19 0 + 1) }

-- what a card answers, event by event
unfoldable pub answers_of : Machine → Card → List Event → List (List ℕ)
answers_of m k [] = []
answers_of m k (e ∷ es) = m.shows k e ∷ answers_of m (m.after k e) es

-- a run from the factory's card, or from the one that Admin1 has opened, on which it answers otherwise than the rules
abbrev pub ToldApart : Machine → Card → Type 0
ToldApart m k = (es : List Event) × (answers_of m k es ≢ answers_of rules k es)

pub record ShutOut : Type 0 where
  pub refuses_all : ToldApart refuser card
  pub one_answer : (bytes : List ℕ) → ToldApart (fixed bytes) card
  pub stores_nothing : ToldApart forgetful locking
  pub commits_early : ToldApart hasty locking
  pub invents_count : ToldApart inventive card
  -- and what it answers is no packet
  pub sums : (e : Event) × (opened_of (inventive.shows card e) ≡ None)
