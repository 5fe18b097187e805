-- What is written is read as the same TSN, HSN and payload.
use Prim.Native.Nat.{ℕ, ◌+◌, ◌^◌, ◌≤◌, ◌<◌}
use mathlib.Core.Path.{◌≡◌, refl, sym, ap, ◌∙◌}
use mathlib.Core.List.{List, ◌++◌, append_assoc}
use mathlib.Core.Bool.{true}
use native.Mathlib.Omega.{arith}
use lib.ListN.{length, take, drop, replicate, length-append, length-replicate}
use lib.Seq.{take_at, drop_at}
use lib.Dec.{lit<, lit≤}
use Rattle.token.specs.Bytes.{be_val, be_of, number_at}
use Rattle.token.proofs.Laws.{be-val}
use Rattle.token.proofs.Numbers.{number-there}
use Rattle.std.specs.Prelude.{Some}
use Rattle.packet.specs.Envelope.{tsn_at, hsn_at, sub_length, packet_length, com_length, pad_of, header, packet_of, opened_of, carried}
use Rattle.packet.specs.Laws.{Says}
use Rattle.packet.proofs.Envelope.{Sealed, opened-there}
use Rattle.packet.proofs.Writes.{Carried, all-carried, header-length}

module _ (tsn hsn n : ℕ) (q : List ℕ) where
  -- the field of k bytes at at, where the header has v
  field_is : (at k v : ℕ) → k ≤ 8 → at + k ≤ 56 → v < 256 ^ k → take k (drop at (header tsn hsn n ++ q)) ≡ be_of k v → number_at (header tsn hsn n ++ q) at k ≡ v
  field_is at k v a b h e =
      number-there (header tsn hsn n ++ q) at k a (simp (length-append, header-length) (omega arith)) ∙ ap (λ (l : List ℕ). be_val 0 l) e ∙ be-val k v h

  module _ (small : tsn < 2 ^ 32) (few : hsn < 2 ^ 32) (fit : Carried n) (long : n + pad_of n ≤ length q) where
    tsn-is : tsn_at (header tsn hsn n ++ q) ≡ tsn
    unfolding header be_of
    tsn-is = field_is 20 4 tsn (lit≤ tt) (lit≤ tt) small refl

    hsn-is : hsn_at (header tsn hsn n ++ q) ≡ hsn
    unfolding header be_of
    hsn-is = field_is 24 4 hsn (lit≤ tt) (lit≤ tt) few refl

    sub_is : sub_length (header tsn hsn n ++ q) ≡ n
    unfolding header be_of
    sub_is = field_is 52 4 n (lit≤ tt) (lit≤ tt) (omega arith) refl

    sealed-is : Sealed (header tsn hsn n ++ q)
    unfolding header be_of
    sealed-is =
        let packet : packet_length (header tsn hsn n ++ q) ≡ 12 + n + pad_of n = field_is 40 4 (12 + n + pad_of n) (lit≤ tt) (lit≤ tt) (omega arith) refl in
        let whole : com_length (header tsn hsn n ++ q) ≡ 24 + (12 + n + pad_of n) = field_is 16 4 (24 + (12 + n + pad_of n)) (lit≤ tt) (lit≤ tt) (omega arith) refl in
        record {
          com_id = field_is 4 2 0x1000 (lit≤ tt) (lit≤ tt) (lit< tt) refl;
          extended = field_is 6 2 0 (lit≤ tt) (lit≤ tt) (lit< tt) refl;
          plain = field_is 50 2 0 (lit≤ tt) (lit≤ tt) (lit< tt) refl;
          some = rw sub_is fit.0;
          packet-sum = rw sub_is packet;
          com-sum = whole ∙ ap (λ (k : ℕ). 24 + k) (sym packet);
          there = rw whole (simp (length-append, header-length) (omega arith));
        }

    pub header-opened : opened_of (header tsn hsn n ++ q) ≡ Some (record { tsn = record { 0 = tsn }; hsn = record { 0 = hsn }; start = 56; len = n })
    header-opened = sym (opened-there _ sealed-is) ∙ rw (tsn-is, hsn-is, sub_is)

pub read_back : (tsn hsn : ℕ) (payload rest : List ℕ) → tsn < 2 ^ 32 → hsn < 2 ^ 32 → carried (length payload) ≡ true → Says (packet_of tsn hsn payload ++ rest) tsn hsn payload
unfolding packet_of
read_back tsn hsn payload rest a b c =
    let n : ℕ = length payload in
    let q : List ℕ = payload ++ (replicate (pad_of n) 0 ++ rest) in
    let e : header tsn hsn n ++ payload ++ replicate (pad_of n) 0 ++ rest ≡ header tsn hsn n ++ q = simp append_assoc in
    record {
      opened = rw e (header-opened tsn hsn n q a b (all-carried n c) (simp (length-append, length-replicate) (omega arith)));
      held = rw (e, drop_at (header tsn hsn n) q 56 (header-length tsn hsn n)) (take_at payload (replicate (pad_of n) 0 ++ rest) n refl);
    }
