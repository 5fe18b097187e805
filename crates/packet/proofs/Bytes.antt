-- Every byte that is written.
use Prim.Native.Nat.{ℕ, zero, suc, ◌+◌, ◌-◌, ◌/◌, ◌%◌, ◌^◌, ◌≤◌, ◌<◌}
use mathlib.Core.Path.{◌≡◌, refl}
use mathlib.Core.List.{List, [], ◌∷◌, ◌++◌, append-nil}
use native.Mathlib.Omega.{arith}
use lib.ListN.{length, get_or, take, drop, replicate, length-append, length-replicate, get_or-replicate}
use lib.Seq.{get_or-take, get_or-drop, take_all, drop_at}
use lib.Dec.{lit≤, lit<}
use Rattle.token.specs.Bytes.{be_of}
use Rattle.packet.specs.Envelope.{pad_of, header, packet_of}
use Rattle.packet.specs.Laws.{Says as Reads}
use Rattle.packet.specs.Exact.{four, Envelope, Zero, Written}
use Rattle.packet.proofs.Writes.{carried-all, header-length}
use Rattle.packet.proofs.Round.{read_back}
use Rattle.packet.proofs.Fields.{only-said}

-- ---- zeros: those of a part are those of the whole
zero-from : (s : List ℕ) (a b k : ℕ) → b ≤ a + k → take k (drop a s) ≡ replicate k 0 → Zero s a b
zero-from s a b k h e i l m =
    let j : i - a < k = omega arith in
    let f : a + (i - a) ≡ i = omega arith in
    let g : get_or (take k (drop a s)) (i - a) 1 ≡ 0 = rw e (get_or-replicate k (i - a) 0 1 j) in
    rw (get_or-take k (drop a s) (i - a) 1 j, get_or-drop a s (i - a) 1, f) at g

-- ---- bytes: each field is made of them
record Small (l : List ℕ) : Type 0 where
  byte : (i : ℕ) → get_or l i 0 < 256

small-append : (k l : List ℕ) → Small k → Small l → Small (k ++ l)
small-append k l a b = record { byte = go k a.byte }
  where
    go : (k : List ℕ) → ((i : ℕ) → get_or k i 0 < 256) → (i : ℕ) → get_or (k ++ l) i 0 < 256
    go [] a i = b.byte i
    go (x ∷ k) a zero = a zero
    go (x ∷ k) a (suc i) = go k (λ j. a (suc j)) i

small_one : (b : ℕ) → b < 256 → Small (b ∷ [])
small_one b h = record { byte = go }
  where
    go : (i : ℕ) → get_or (b ∷ []) i 0 < 256
    go zero = h
    go (suc i) = lit< tt

small-number : (n v : ℕ) → Small (be_of n v)
unfolding be_of
small-number zero v = record { byte = λ i. lit< tt }
small-number (suc n) v = small-append _ _ (small-number n (v / 256)) (small_one (v % 256) (omega arith))

small-zeros : (n : ℕ) → Small (replicate n 0)
small-zeros n = record { byte = go n }
  where
    go : (n i : ℕ) → get_or (replicate n 0) i 0 < 256
    go zero i = lit< tt
    go (suc n) zero = lit< tt
    go (suc n) (suc i) = go n i

-- with one field more
with : {l : List ℕ} → Small l → (n v : ℕ) → Small (l ++ be_of n v)
with s n v = small-append _ _ s (small-number n v)

small-header : (tsn hsn n : ℕ) → Small (header tsn hsn n)
unfolding header
small-header tsn hsn n =
    let com_packet = with (with (with (with (with (small-number 4 0) 2 0x1000) 2 0) 4 0) 4 0) 4 (24 + (12 + n + pad_of n)) in
    let packet = with (with (with (with (with (with (with com_packet 4 tsn) 4 hsn) 4 0) 2 0) 2 0) 4 0) 4 (12 + n + pad_of n) in
    with (with (with packet 6 0) 2 0) 4 n

module _ (tsn hsn : ℕ) (payload : List ℕ) where
  abbrev s : List ℕ
  s = packet_of tsn hsn payload

  abbrev n : ℕ
  n = length payload

  small-packet : Small payload → Small s
  unfolding packet_of
  small-packet p = small-append _ _ (small-append _ _ (small-header tsn hsn n) p) (small-zeros (pad_of n))

  packet_length : length s ≡ 56 + n + pad_of n
  unfolding packet_of
  packet_length = simp (length-append, header-length, length-replicate)

  -- the fields that say nothing
  zeros : Zero s 0 4 × Zero s 6 16 × Zero s 28 40 × Zero s 44 52
  unfolding packet_of header be_of
  zeros =
      (zero-from s 0 4 4 (lit≤ tt) refl, zero-from s 6 16 10 (lit≤ tt) refl, zero-from s 28 40 12 (lit≤ tt) refl, zero-from s 44 52 8 (lit≤ tt) refl)

  pads : take (pad_of n) (drop (56 + n) s) ≡ replicate (pad_of n) 0
  unfolding packet_of
  pads =
      rw (drop_at (header tsn hsn n ++ payload) (replicate (pad_of n) 0) (56 + n) (simp (length-append, header-length)))
      (take_all (pad_of n) (replicate (pad_of n) 0) (simp length-replicate (omega arith)))

  module _ (small : tsn < 2 ^ 32) (few : hsn < 2 ^ 32) (some : 1 ≤ n) (fits : n + 39 < 2 ^ 32) where
    back : Reads (s ++ []) tsn hsn payload
    unfolding pad_of
    back = read_back tsn hsn payload [] small few (carried-all n (some, omega arith))

    says : Envelope s tsn hsn n
    says = (rw (rw append-nil at back.opened) at (only-said s)).1

    whole : length s ≡ 20 + four s 16
    unfolding pad_of
    whole = omega (arith, packet_length, says.com_length, says.packet_length.1, says.packet_length.2, says.packet_length.3)

    pub every_byte : Written s tsn hsn payload
    every_byte = record {
      says = says;
      whole = whole;
      reserved = zeros.0;
      com_packet = zeros.1;
      packet = zeros.2;
      subpacket = zeros.3;
      carries = rw append-nil at back.held;
      pad = zero-from s (56 + n) (length s) (pad_of n) (omega (arith, packet_length)) pads;
      bytes = λ p. (small-packet (record { byte = p })).byte;
    }
