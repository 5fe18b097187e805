-- A request that is opened has each field as it is said, and one that has them is opened.
use Prim.Native.Nat.{ℕ, ◌+◌, ◌*◌, ◌≤◌, ◌<◌}
use mathlib.Core.Path.{◌≡◌, refl, sym, ◌∙◌}
use mathlib.Core.List.{List}
use native.Mathlib.Nat.{add-zero}
use native.Mathlib.Omega.{arith}
use lib.ListN.{length, get_or}
use lib.Dec.{lit≤, lit<}
use Rattle.token.specs.Bytes.{be_val, number_at}
use Rattle.token.proofs.Laws.{be_val-more}
use Rattle.token.proofs.Numbers.{number-there}
use Rattle.std.specs.Prelude.{Some}
use Rattle.packet.specs.Envelope.{tsn_at, hsn_at, sub_length, packet_length, com_length, pad_of, opened_of}
use Rattle.packet.specs.Exact.{two, four, Envelope, Says}
use Rattle.packet.proofs.Envelope.{Sealed, opened-by, opened-there}

-- ---- a field byte by byte, where its bytes are there
module _ (s : List ℕ) (at : ℕ) where
  number-none : at ≤ length s → number_at s at 0 ≡ 0
  unfolding be_val
  number-none h = number-there s at 0 (lit≤ tt) (rw add-zero h)

  number_more : (n : ℕ) → n < 8 → at + n < length s → number_at s at (n + 1) ≡ number_at s at n * 256 + get_or s (at + n) 0
  number_more n h k =
      number-there s at (n + 1) (omega arith) (omega arith) ∙ sym (be_val-more s at n (number_at s at n) k (number-there s at n (omega arith) (omega arith)))

  number-one : at + 1 ≤ length s → number_at s at 1 ≡ get_or s at 0
  number-one h = omega (arith, number-none (omega arith), rw add-zero at (number_more 0 (lit< tt) (omega arith)))

  pub two_is : at + 2 ≤ length s → number_at s at 2 ≡ two s at
  two_is h = rw (number-one (omega arith)) at (number_more 1 (lit< tt) (omega arith))

  pub four_is : at + 4 ≤ length s → number_at s at 4 ≡ four s at
  four_is h = omega (arith, two_is (omega arith), number_more 2 (lit< tt) (omega arith), number_more 3 (lit< tt) (omega arith))

-- ---- the fields of a request
module _ (s : List ℕ) where
  said : Sealed s → Envelope s (tsn_at s) (hsn_at s) (sub_length s)
  unfolding pad_of
  said f =
      let long : 57 ≤ length s = omega arith in
      record {
        com_id = sym (two_is s 4 (omega arith)) ∙ f.com_id;
        extension = sym (two_is s 6 (omega arith)) ∙ f.extended;
        com_length = omega (arith, four_is s 16 (omega arith), four_is s 40 (omega arith));
        received = omega (arith, four_is s 16 (omega arith));
        tsn_field = sym (four_is s 20 (omega arith));
        hsn_field = sym (four_is s 24 (omega arith));
        packet_length = (pad_of (sub_length s), omega arith, omega arith, omega (arith, four_is s 40 (omega arith)));
        kind = sym (two_is s 50 (omega arith)) ∙ f.plain;
        sub_length = sym (four_is s 52 (omega arith));
        payload = f.some;
      }

  pub only-said : Says s (opened_of s)
  only-said = opened-by s (Says s) (λ f. (refl, said f)) (λ _. tt)

  module _ (tsn hsn len : ℕ) (e : Envelope s tsn hsn len) where
    long : 57 ≤ length s
    long = omega (arith, e.com_length, e.received, e.packet_length.3, e.payload)

    sub_is : sub_length s ≡ len
    sub_is = four_is s 52 (omega (arith, long)) ∙ e.sub_length

    packet-is : packet_length s ≡ 12 + len + pad_of len
    unfolding pad_of
    packet-is = omega (arith, four_is s 40 (omega (arith, long)), e.packet_length.1, e.packet_length.2, e.packet_length.3)

    com-is : com_length s ≡ four s 16
    com-is = four_is s 16 (omega (arith, long))

    sealed-so : Sealed s
    sealed-so = record {
      com_id = two_is s 4 (omega (arith, long)) ∙ e.com_id;
      extended = two_is s 6 (omega (arith, long)) ∙ e.extension;
      plain = two_is s 50 (omega (arith, long)) ∙ e.kind;
      some = rw sub_is e.payload;
      packet-sum = rw sub_is packet-is;
      com-sum = omega (arith, com-is, four_is s 40 (omega (arith, long)), e.com_length);
      there = rw com-is e.received;
    }

    pub said-taken : opened_of s ≡ Some (record { tsn = record { 0 = tsn }; hsn = record { 0 = hsn }; start = 56; len = len })
    said-taken =
        sym (opened-there s sealed-so)
        ∙ rw (four_is s 20 (omega (arith, long)) ∙ e.tsn_field, four_is s 24 (omega (arith, long)) ∙ e.hsn_field, sub_is)
