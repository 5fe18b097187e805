-- The envelope: ComPacket of 20 bytes, Packet of 24, Subpacket of 12, the payload and its pad. "All fields big-endian".
use Rattle.std.specs.Prelude.{ℕ, ◌+◌, ◌-◌, ◌%◌, List, ◌++◌, Bool, ◌&&◌, cond, length, take, drop, replicate, leb, ltb, eqb, Option, Some, None, Result, Ok, Err}
use Rattle.token.specs.declared.PutError.{PutError}
use Rattle.token.specs.declared.PutError.TheVariants as P
use Rattle.token.specs.Bytes.{be_of, number_at}
use Rattle.packet.specs.declared.Packet.{Packet}

-- ComPacket: reserved 4, ComID 2, extension 2, OutstandingData 4, MinTransfer 4, Length 4
abbrev pub com_id : List ℕ → ℕ
com_id s = number_at s 4 2

abbrev pub extension : List ℕ → ℕ
extension s = number_at s 6 2

abbrev pub com_length : List ℕ → ℕ
com_length s = number_at s 16 4

-- Packet: TSN 4, HSN 4, sequence 4, reserved 2, AckType 2, acknowledgement 4, Length 4
abbrev pub tsn_at : List ℕ → ℕ
tsn_at s = number_at s 20 4

abbrev pub hsn_at : List ℕ → ℕ
hsn_at s = number_at s 24 4

abbrev pub packet_length : List ℕ → ℕ
packet_length s = number_at s 40 4

-- Subpacket: reserved 6, Kind 2, Length 4
abbrev pub kind : List ℕ → ℕ
kind s = number_at s 50 2

abbrev pub sub_length : List ℕ → ℕ
sub_length s = number_at s 52 4

-- where the payload starts
abbrev pub payload_start : ℕ
payload_start = 56

-- the pad bytes after n bytes, "up to a multiple of 4"
unfoldable pub pad_of : ℕ → ℕ
pad_of n = (4 - n % 4) % 4

-- "ComID is 1000 hex, extension 0", Kind 0, S ≥ 1, and the three sums, as whole numbers; bytes beyond are ignored
unfoldable pub sealed : List ℕ → Bool
sealed s =
    eqb (com_id s) 0x1000
    && (eqb (extension s) 0
    && (eqb (kind s) 0
    && (leb 1 (sub_length s)
    && (eqb (packet_length s) (12 + sub_length s + pad_of (sub_length s))
    && (eqb (com_length s) (24 + packet_length s)
    && leb (20 + com_length s) (length s))))))

unfoldable pub opened_of : List ℕ → Option Packet
opened_of s = cond (sealed s) (Some (record { tsn = record { 0 = tsn_at s }; hsn = record { 0 = hsn_at s }; start = payload_start; len = sub_length s })) None

-- the number of document 01: 4, envelope broken; a packet that is opened is not turned away here
abbrev pub number_of : Option Packet → ℕ
number_of (Some packet) = 0
number_of None = 4

-- what stands before a payload of n bytes: other fields are zero
unfoldable pub header : ℕ → ℕ → ℕ → List ℕ
header tsn hsn n =
    be_of 4 0 ++ be_of 2 0x1000 ++ be_of 2 0 ++ be_of 4 0 ++ be_of 4 0 ++ be_of 4 (24 + (12 + n + pad_of n))
    ++ be_of 4 tsn ++ be_of 4 hsn ++ be_of 4 0 ++ be_of 2 0 ++ be_of 2 0 ++ be_of 4 0 ++ be_of 4 (12 + n + pad_of n)
    ++ be_of 6 0 ++ be_of 2 0 ++ be_of 4 n

-- the whole packet
unfoldable pub packet_of : ℕ → ℕ → List ℕ → List ℕ
packet_of tsn hsn payload = header tsn hsn (length payload) ++ payload ++ replicate (pad_of (length payload)) 0

-- the lengths fit their fields, and there is a payload
unfoldable pub carried : ℕ → Bool
carried n = leb 1 n && ltb (36 + n + pad_of n) 0x100000000

-- the payload of n bytes stands in d where it belongs; what the writer answers
unfoldable pub seal_end : ℕ → ℕ → Result ℕ PutError
seal_end room n = cond (carried n) (cond (leb (payload_start + n + pad_of n) room) (Ok (payload_start + n + pad_of n)) (Err P.Full)) (Err P.Outside)

-- and what d holds then
unfoldable pub seal_all : List ℕ → ℕ → ℕ → ℕ → List ℕ
seal_all d tsn hsn n =
    cond (carried n && leb (payload_start + n + pad_of n) (length d))
    (packet_of tsn hsn (take n (drop payload_start d)) ++ drop (payload_start + n + pad_of n) d)
    d
