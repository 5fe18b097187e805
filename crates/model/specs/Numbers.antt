-- The numbers of "What comes back", lowest first, in words of their own.
use Rattle.std.specs.Prelude.{ℕ, ◌+◌, ◌<◌, ◌≡◌, true, false, List, ◌≢◌, ◌⊎◌, length, take, None}
use Rattle.packet.specs.Envelope.{opened_of}
use Rattle.payload.specs.declared.Payload.TheVariants as P
use Rattle.payload.specs.Payload.{payload_at}
use Rattle.model.specs.Types.{Card}
use Rattle.model.specs.Record.{factory_card}
use Rattle.model.specs.Sound.{sound}
use Rattle.model.specs.Step.{Event, command, power, reset, ruling_number, media, run}
use Rattle.model.specs.Sent.{Says, InSession}
use Rattle.model.specs.Laws.{Made}

-- n is i where P is so; where it is not, n is what follows
abbrev pub First : ℕ → ℕ → Type 0 → Type 0 → Type 0
First n i P rest = (P × (n ≡ i)) ⊎ ((P → ⊥) × rest)

-- "TSN, HSN neither 0, 0 nor the open session"
abbrev pub Neither : Card → ℕ → ℕ → Type 0
Neither k tsn hsn = ((tsn ≡ 0) × (hsn ≡ 0) → ⊥) × (InSession k tsn hsn → ⊥)

-- "payload broken, or no call, on 0, 0"
abbrev pub NoCall : List ℕ → ℕ → ℕ → ℕ → ℕ → Type 0
NoCall s tsn hsn start len =
    (tsn ≡ 0) × (hsn ≡ 0)
    × ((object method params : ℕ) → payload_at (take (start + len) s) start ≡ P.Call object method params → ⊥)

abbrev pub Numbered : Card → ℕ → List ℕ → ℕ → Type 0
Numbered k room s n =
    First n 1 (sound k ≡ false)
    (First n 2 (room < 2048)
    (First n 3 (2048 < length s)
    (First n 4 (opened_of s ≡ None)
    ((tsn hsn start len : ℕ) → Says s tsn hsn start len
    → First n 5 (Neither k tsn hsn)
    (First n 6 (NoCall s tsn hsn start len)
    (n ≡ 0))))))

-- TPER_RESET is disabled in the cells from before a transaction
pub record Disabled (k : Card) : Type 0 where
  pub within : k.cells.undo.live ≡ true → k.cells.undo.was.resettable ≡ false
  pub outside : k.cells.undo.live ≡ false → k.cells.tables.resettable ≡ false

pub record NumbersInOrder : Type 0 where
  pub packets : (k : Card) (room : ℕ) (s : List ℕ) → Numbered k room s (command k room s).number
  pub powers : (k : Card) → First (power k).number 1 (sound k ≡ false) ((power k).number ≡ 0)
  pub resets : (k : Card) → First (reset k).number 1 (sound k ≡ false) (First (reset k).number 7 (Disabled k) ((reset k).number ≡ 0))
  pub media : (k : Card) (write : _) (start count : ℕ)
      → First (ruling_number (media k write start count)) 1 (sound k ≡ false) (ruling_number (media k write start count) ≡ 0)

-- from a factory record number 1 never comes
pub record NeverUnsound : Type 0 where
  pub packets : (n : ℕ) (msid : List ℕ) (es : List Event) (room : ℕ) (s : List ℕ) → Made n msid → (command (run (factory_card n msid) es) room s).number ≢ 1
  pub powers : (n : ℕ) (msid : List ℕ) (es : List Event) → Made n msid → (power (run (factory_card n msid) es)).number ≡ 0
  pub media : (n : ℕ) (msid : List ℕ) (es : List Event) (write : _) (start count : ℕ) → Made n msid → ruling_number (media (run (factory_card n msid) es) write start count) ≡ 0
