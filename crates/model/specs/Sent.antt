-- What comes in: a packet that is heard, with its numbers and its payload, and the open session that it is for.
use Rattle.std.specs.Prelude.{ℕ, ◌+◌, ◌≤◌, ◌≡◌, true, List, length, take, Some}
use Rattle.packet.specs.Envelope.{opened_of}
use Rattle.payload.specs.declared.Payload.{Payload}
use Rattle.payload.specs.Payload.{payload_at}
use Rattle.model.specs.Types.{Card}
use Rattle.model.specs.Sound.{sound}
use Rattle.model.specs.Step.{Event, packet, powered, was_reset, asked}

-- the envelope says these
abbrev pub Says : List ℕ → ℕ → ℕ → ℕ → ℕ → Type 0
Says s tsn hsn start len = opened_of s ≡ Some (record { tsn = record { 0 = tsn }; hsn = record { 0 = hsn }; start = start; len = len })

-- a packet with this payload, on these numbers, that neither its record nor its room, length or envelope turns away
pub record Comes (k : Card) (room : ℕ) (s : List ℕ) (tsn hsn start len : ℕ) (p : Payload) : Type 0 where
  pub sound : sound k ≡ true
  pub enough : 2048 ≤ room
  pub size : length s ≤ 2048
  pub says : Says s tsn hsn start len
  pub payload : payload_at (take (start + len) s) start ≡ p

-- the numbers are the open session's
pub record InSession (k : Card) (tsn hsn : ℕ) : Type 0 where
  pub live : k.cells.session.live ≡ true
  pub by_tsn : k.cells.session.tsn.0 ≡ tsn
  pub by_hsn : k.cells.session.hsn.0 ≡ hsn

-- a packet with this payload for the open session
pub record Sent (k : Card) (room : ℕ) (s : List ℕ) (p : Payload) : Type 0 where
  pub tsn : ℕ
  pub hsn : ℕ
  pub start : ℕ
  pub len : ℕ
  pub comes : Comes k room s tsn hsn start len p
  pub session : InSession k tsn hsn

abbrev pub Sends : Card → Event → Payload → Type 0
Sends k (packet room s) p = Sent k room s p
Sends k powered p = ⊥
Sends k was_reset p = ⊥
Sends k (asked write start count) p = ⊥
