-- The envelope field by field, each with its offset: exactly which requests are opened and what is read from them, and every byte that is written.
use Rattle.std.specs.Prelude.{ℕ, ◌+◌, ◌*◌, ◌%◌, ◌≤◌, ◌<◌, ◌^◌, ◌≡◌, List, length, get_or, take, drop, Option, Some, None}
use Rattle.packet.specs.declared.Packet.{Packet}
use Rattle.packet.specs.Envelope.{opened_of, packet_of}

-- "All fields big-endian": the two bytes from p on, and the four
abbrev pub two : List ℕ → ℕ → ℕ
two s p = get_or s p 0 * 256 + get_or s (p + 1) 0

abbrev pub four : List ℕ → ℕ → ℕ
four s p = get_or s p 0 * 16777216 + get_or s (p + 1) 0 * 65536 + get_or s (p + 2) 0 * 256 + get_or s (p + 3) 0

-- what a request must say, and the TSN, the HSN and the payload's length that it names; no other field is looked at
pub record Envelope (s : List ℕ) (tsn hsn len : ℕ) : Type 0 where
  -- ComPacket, 20 bytes: reserved 4, ComID 2, extension 2, OutstandingData 4, MinTransfer 4, Length 4
  pub com_id : two s 4 ≡ 0x1000
  pub extension : two s 6 ≡ 0
  pub com_length : four s 16 ≡ 24 + four s 40
  pub received : 20 + four s 16 ≤ length s
  -- Packet, 24: TSN 4, HSN 4, sequence 4, reserved 2, AckType 2, acknowledgement 4, Length 4
  pub tsn_field : four s 20 ≡ tsn
  pub hsn_field : four s 24 ≡ hsn
  -- "0 to 3 pad bytes up to a multiple of 4"; "Packet Length = 12 + S + pad"
  pub packet_length : (pad : ℕ) × (pad < 4) × ((len + pad) % 4 ≡ 0) × (four s 40 ≡ 12 + len + pad)
  -- Subpacket, 12: reserved 6, Kind 2, Length 4
  pub kind : two s 50 ≡ 0
  pub sub_length : four s 52 ≡ len
  pub payload : 1 ≤ len

-- a request that is opened; broken is what is left
abbrev pub Says : List ℕ → Option Packet → Type 0
Says s (Some packet) = (packet.start ≡ 56) × Envelope s packet.tsn.0 packet.hsn.0 packet.len
Says s None = Unit {0}

-- the bytes from a up to b are zero
abbrev pub Zero : List ℕ → ℕ → ℕ → Type 0
Zero s a b = (i : ℕ) → a ≤ i → i < b → get_or s i 1 ≡ 0

-- every byte of a packet that is written: "Other fields are .. zero when written"
pub record Written (s : List ℕ) (tsn hsn : ℕ) (payload : List ℕ) : Type 0 where
  pub says : Envelope s tsn hsn (length payload)
  -- nothing stands behind it
  pub whole : length s ≡ 20 + four s 16
  -- reserved; extension, OutstandingData, MinTransfer; sequence, reserved, AckType, acknowledgement; reserved, Kind
  pub reserved : Zero s 0 4
  pub com_packet : Zero s 6 16
  pub packet : Zero s 28 40
  pub subpacket : Zero s 44 52
  pub carries : take (length payload) (drop 56 s) ≡ payload
  pub pad : Zero s (56 + length payload) (length s)
  pub bytes : ((j : ℕ) → get_or payload j 0 < 256) → (i : ℕ) → get_or s i 0 < 256

pub record FieldsAsSaid : Type 0 where
  pub taken : (s : List ℕ) (tsn hsn len : ℕ) → Envelope s tsn hsn len → opened_of s ≡ Some (record { tsn = record { 0 = tsn }; hsn = record { 0 = hsn }; start = 56; len = len })
  pub only : (s : List ℕ) → Says s (opened_of s)
  pub written : (tsn hsn : ℕ) (payload : List ℕ) → tsn < 2 ^ 32 → hsn < 2 ^ 32 → 1 ≤ length payload → length payload + 39 < 2 ^ 32
      → Written (packet_of tsn hsn payload) tsn hsn payload
