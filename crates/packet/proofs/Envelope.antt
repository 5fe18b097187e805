-- What `sealed` decides, what `opened_of` then says, and that a field is below its power of 256.
use Prim.Native.Nat.{ℕ, zero, suc, ◌+◌, ◌^◌, ◌≤◌, ◌<◌}
use mathlib.Core.Path.{◌≡◌, refl}
use mathlib.Core.List.{List}
use mathlib.Core.Bool.{Bool, true, false, ◌&&◌, cond}
use native.Mathlib.Omega.{arith}
use native.Mathlib.Numerals.{add-one}
use lib.ListN.{length, take, drop, get_or}
use lib.Dec.{lit<, lit≤}
use mathlib.Core.Logic.{⊎_elim}
use borrow.Author.Tests.{leb-true, le-leb, eqb-true, eq-eqb}
use Rattle.token.specs.Bytes.{be_val, number_at}
use Rattle.token.proofs.Laws.{lt-or-le, be_val-more, grows}
use Rattle.token.proofs.Numbers.{number-there, number_short}
use Rattle.std.specs.Prelude.{Option, Some, None}
use Rattle.packet.specs.declared.Packet.{Packet}
use Rattle.packet.specs.Envelope.{com_id, extension, kind, sub_length, packet_length, com_length, tsn_at, hsn_at, payload_start, pad_of, sealed, opened_of}

-- what `sealed` tests
pub record Sealed (s : List ℕ) : Type 0 where
  pub com_id : com_id s ≡ 0x1000
  pub extended : extension s ≡ 0
  pub plain : kind s ≡ 0
  pub some : 1 ≤ sub_length s
  pub packet-sum : packet_length s ≡ 12 + sub_length s + pad_of (sub_length s)
  pub com-sum : com_length s ≡ 24 + packet_length s
  pub there : 20 + com_length s ≤ length s

-- what is read of a packet that is sealed
abbrev pub told : List ℕ → Option Packet
told s = Some (record { tsn = record { 0 = tsn_at s }; hsn = record { 0 = hsn_at s }; start = payload_start; len = sub_length s })

pub both : (a b : Bool) → (a && b) ≡ true → (a ≡ true) × (b ≡ true)
both true b e = (refl, e)
both false b e = absurd (let z : ◌≡◌ {A = ℕ} 0 1 = cc in omega arith)

module _ (s : List ℕ) where
  pub sealed-all : Sealed s → sealed s ≡ true
  unfolding sealed
  sealed-all f =
      simp (
        eq-eqb _ _ f.com_id,
        eq-eqb _ _ f.extended,
        eq-eqb _ _ f.plain,
        le-leb _ _ f.some,
        eq-eqb _ _ f.packet-sum,
        eq-eqb _ _ f.com-sum,
        le-leb _ _ f.there,
      )

  pub all-sealed : sealed s ≡ true → Sealed s
  unfolding sealed
  all-sealed e =
      let e₁ = both _ _ e in
      let e₂ = both _ _ e₁.1 in
      let e₃ = both _ _ e₂.1 in
      let e₄ = both _ _ e₃.1 in
      let e₅ = both _ _ e₄.1 in
      let e₆ = both _ _ e₅.1 in
      record {
        com_id = eqb-true _ _ e₁.0;
        extended = eqb-true _ _ e₂.0;
        plain = eqb-true _ _ e₃.0;
        some = leb-true _ _ e₄.0;
        packet-sum = eqb-true _ _ e₅.0;
        com-sum = eqb-true _ _ e₆.0;
        there = leb-true _ _ e₆.1;
      }

  -- a property of both answers, each with what was tested
  pub opened-by : (P : Option Packet → Type 0) → (Sealed s → P (told s))
      → ((Sealed s → ⊥) → P None) → P (opened_of s)
  unfolding opened_of
  opened-by P f g = go (sealed s) refl
    where
      go : (t : Bool) → sealed s ≡ t → P (cond t (told s) None)
      go true e = f (all-sealed e)
      go false e = g (λ h. absurd (let z = sealed-all h in let z : ◌≡◌ {A = ℕ} 0 1 = cc in omega arith))

  pub opened-broken : (Sealed s → ⊥) → None ≡ opened_of s
  opened-broken h = opened-by (λ (o : Option Packet). None ≡ o) (λ f. absurd (h f)) (λ _. refl)

  pub opened-there : Sealed s → told s ≡ opened_of s
  opened-there f = opened-by (λ (o : Option Packet). told s ≡ o) (λ _. refl) (λ h. absurd (h f))

  -- n bytes make a number below 256 to the n
  bytes_small : ((i : ℕ) → get_or s i 0 < 256) → (at n : ℕ) → at + n ≤ length s → be_val 0 (take n (drop at s)) < 256 ^ n
  unfolding be_val
  bytes_small byte at zero h = lit< tt
  bytes_small byte at (suc n) h =
      rw (← add-one n, ← be_val-more s at n (be_val 0 (take n (drop at s))) (omega arith) refl)
      (grows n (be_val 0 (take n (drop at s))) (get_or s (at + n) 0) (bytes_small byte at n (omega arith)) (byte (at + n)))

  pub field-small : ((i : ℕ) → get_or s i 0 < 256) → (at : ℕ) → number_at s at 4 < 256 ^ 4
  field-small byte at =
      ⊎_elim (λ (h : length s < at + 4). rw (number_short s at 4 h) (lit< tt))
      (λ (h : at + 4 ≤ length s). rw (number-there s at 4 (lit≤ tt) h) (bytes_small byte at 4 h))
      (lt-or-le (length s) (at + 4))
