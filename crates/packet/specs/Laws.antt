-- What is shown of the envelope.
use Rattle.std.specs.Prelude.{ℕ, ◌+◌, ◌%◌, ◌≤◌, ◌<◌, ◌^◌, ◌≡◌, List, ◌++◌, true, length, take, drop, Option, Some, None}
use Rattle.packet.specs.declared.Packet.{Packet}
use Rattle.packet.specs.Envelope.{pad_of, carried, opened_of, packet_of, payload_start}

-- what is written is read as the same TSN, HSN and payload, with anything after it
pub record Says (s : List ℕ) (tsn hsn : ℕ) (payload : List ℕ) : Type 0 where
  pub opened : opened_of s ≡ Some (record { tsn = record { 0 = tsn }; hsn = record { 0 = hsn }; start = payload_start; len = length payload })
  pub held : take (length payload) (drop payload_start s) ≡ payload

abbrev pub ReadBack : Type 0
ReadBack = (tsn hsn : ℕ) (payload rest : List ℕ) → tsn < 2 ^ 32 → hsn < 2 ^ 32 → carried (length payload) ≡ true
    → Says (packet_of tsn hsn payload ++ rest) tsn hsn payload

-- a packet that is accepted has all its bytes, the pad with them, inside the request
abbrev pub Contained : ℕ → Option Packet → Type 0
Contained n (Some packet) = (1 ≤ packet.len) × (packet.start + packet.len + pad_of packet.len ≤ n)
Contained n None = Unit {0}

abbrev pub Inside : Type 0
Inside = (s : List ℕ) → Contained (length s) (opened_of s)

-- "0 to 3 pad bytes up to a multiple of 4"
abbrev pub Padded : Type 0
Padded = (n : ℕ) → (pad_of n < 4) × ((n + pad_of n) % 4 ≡ 0)
