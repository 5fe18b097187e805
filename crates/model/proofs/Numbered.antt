-- The number that comes back is the lowest that applies; from a factory record number 1 never comes.
use Rattle.std.specs.Prelude.{Option, Some, None}
use Prim.Native.Nat.{ℕ, ◌+◌, ◌<◌}
use mathlib.Core.Path.{◌≡◌, refl, sym, ◌∙◌, ap, subst}
use mathlib.Core.Bool.{Bool, true, false, not, cond, true≢false}
use mathlib.Core.List.{List}
use mathlib.Core.Logic.{◌≢◌, inl, inr}
use native.Mathlib.Omega.{arith}
use lib.ListN.{length, take}
use lib.Dec.{ltb}
use Rattle.packet.specs.declared.Packet.{Packet}
use Rattle.packet.specs.Envelope.{opened_of}
use Rattle.payload.specs.declared.Payload.{Payload}
use Rattle.payload.specs.declared.Payload.TheVariants as P
use Rattle.payload.specs.Payload.{payload_at}
use Rattle.ranges.specs.Decides.{Decides}
use Rattle.ranges.proofs.Decide.{map, dec-lt, dec-and}
use Rattle.model.specs.Types.{Tables, Card}
use Rattle.model.specs.Sound.{sound}
use Rattle.model.specs.Apply.{settled_tables}
use Rattle.model.specs.Step as Z
use Rattle.model.specs.Step.{Heard, turned, Reply, ruling_number, reply_to, hear_manager, hear_packet, heard, command, power, reset, media}
use Rattle.model.specs.Numbers.{First, Neither, NoCall, Numbered, Disabled, NumbersInOrder, NeverUnsound}
use Rattle.model.proofs.Soundness.{dec-off, dec-eq, dec-cond}
use Rattle.model.proofs.Sent.{session-decides}
use Rattle.model.proofs.Reached.{always-sound}
use Rattle.model.proofs.Cases.{of_cond}

-- ---- one test: x where it passes, y where not
ask : {A : Type 0} (f : A → ℕ) (R : ℕ → Type 0) (i : ℕ) {P : Type 0} (b : Bool) (x y : A) → Decides b P → f x ≡ i → R (f y)
    → First (f (cond b x y)) i P (R (f (cond b x y)))
ask f R i true x y d e r = inl (d.holds refl, e)
ask f R i false x y d e r = inr (d.fails refl, r)

abbrev number_of : Card → Heard → ℕ
number_of k h = (reply_to k h).number

-- ---- numbers 5 and 6
abbrev pub is_call : Payload → Bool
is_call (P.Call object method params) = true
is_call P.EndSession = false
is_call P.Begin = false
is_call P.Commit = false
is_call P.Abandon = false
is_call P.Broken = false

module _ (k : Card) (s : List ℕ) (tsn hsn : ℕ) where
  -- no call: the payload's own kind is put for the one that is read
  abbrev No : Payload → Type 0
  No p = (tsn ≡ 0) × (hsn ≡ 0) × ((object method params : ℕ) → p ≡ P.Call object method params → ⊥)

  other : (p : Payload) → is_call p ≡ false → (tsn ≡ 0) × (hsn ≡ 0) → No p
  other p f z = (z.0, z.1, λ o m q e. true≢false (sym (ap is_call e) ∙ f))

  by-manager : (p : Payload) → (tsn ≡ 0) × (hsn ≡ 0)
      → First (number_of k (hear_manager k.cells (record { 0 = tsn }) (record { 0 = hsn }) s p)) 6 (No p)
      (number_of k (hear_manager k.cells (record { 0 = tsn }) (record { 0 = hsn }) s p) ≡ 0)
  unfolding reply_to hear_manager
  by-manager (P.Call o m q) z = inr (λ f. f.2 o m q refl, refl)
  by-manager P.EndSession z = inl (other P.EndSession refl z, refl)
  by-manager P.Begin z = inl (other P.Begin refl z, refl)
  by-manager P.Commit z = inl (other P.Commit refl z, refl)
  by-manager P.Abandon z = inl (other P.Abandon refl z, refl)
  by-manager P.Broken z = inl (other P.Broken refl z, refl)

-- whose session: the manager's, the open one, or neither
whose : {M S N : Type 0} (f : Heard → ℕ) (m x : Bool) (a b c : Heard) → Decides m M → Decides x S → (N → M)
    → (M → First (f a) 6 N (f a ≡ 0)) → f b ≡ 0 → f c ≡ 5
    → First (f (cond m a (cond x b c))) 5 ((M → ⊥) × (S → ⊥)) (First (f (cond m a (cond x b c))) 6 N (f (cond m a (cond x b c)) ≡ 0))
whose f true x a b c d e g h p q = inr (λ n. n.0 (d.holds refl), h (d.holds refl))
whose f false true a b c d e g h p q = inr (λ n. n.1 (e.holds refl), inr (λ n. d.fails refl (g n), p))
whose f false false a b c d e g h p q = inl ((d.fails refl, e.fails refl), q)

module _ (k : Card) (s : List ℕ) where
  -- the rest of the numbers, once the envelope is read
  abbrev Rest : ℕ → ℕ → ℕ → ℕ → ℕ → Type 0
  Rest n tsn hsn start len = First n 5 (Neither k tsn hsn) (First n 6 (NoCall s tsn hsn start len) (n ≡ 0))

  abbrev Opening : Option Packet → ℕ → Type 0
  Opening x n =
      First n 4 (x ≡ None)
      ((tsn hsn start len : ℕ) → x ≡ Some (record { tsn = record { 0 = tsn }; hsn = record { 0 = hsn }; start = start; len = len }) → Rest n tsn hsn start len)

  by-packet : (tsn hsn start len : ℕ) → Rest (number_of k (hear_packet k.cells s (Some (record { tsn = record { 0 = tsn }; hsn = record { 0 = hsn }; start = start; len = len })))) tsn hsn start len
  unfolding reply_to hear_packet
  by-packet tsn hsn start len =
      let r = take (start + len) s in
      whose (number_of k)
      (Z.is_manager (record { 0 = tsn }) (record { 0 = hsn })) (Z.is_session k.cells.session (record { 0 = tsn }) (record { 0 = hsn }))
      (hear_manager k.cells (record { 0 = tsn }) (record { 0 = hsn }) r (payload_at r start))
      (Z.judged (record { 0 = tsn }) (record { 0 = hsn }) r (Z.judge_session k.cells r (payload_at r start)))
      (turned 5)
      (dec-and _ _ (dec-eq tsn 0) (dec-eq hsn 0))
      (session-decides k (record { 0 = tsn }) (record { 0 = hsn }))
      (λ n. (n.0, n.1))
      (by-manager k r tsn hsn (payload_at r start))
      refl refl

  by-opened : (x : Option Packet) → Opening x (number_of k (hear_packet k.cells s x))
  unfolding reply_to hear_packet
  by-opened (Some p) =
      inr (
        λ e. cc,
        λ tsn hsn start len e.
            subst (λ (x : Option Packet). Rest (number_of k (hear_packet k.cells s x)) tsn hsn start len) (sym e) (by-packet tsn hsn start len),
      )
  by-opened None = inl (refl, refl)

-- ---- packets
numbered : (k : Card) (room : ℕ) (s : List ℕ) → Numbered k room s (command k room s).number
unfolding reply_to heard
numbered k room s =
    let third : ℕ → Type 0 = λ n. First n 3 (2048 < length s) (Opening k s (opened_of s) n) in
    ask (number_of k) (λ n. First n 2 (room < 2048) (third n)) 1 (not (sound k)) _ _ (dec-off (sound k)) refl
    (ask (number_of k) third 2 (ltb room 2048) (turned 2) _ (dec-lt room 2048) refl
    (ask (number_of k) (Opening k s (opened_of s)) 3 (ltb 2048 (length s)) (turned 3) (hear_packet k.cells s (opened_of s)) (dec-lt 2048 (length s)) refl
    (by-opened k s (opened_of s))))

-- ---- resets
pub disabled-decides : (k : Card) → Decides (not (settled_tables k.cells).resettable) (Disabled k)
disabled-decides k =
    let u = k.cells.undo in
    let d : Decides (not (settled_tables k.cells).resettable) ((u.live ≡ true → u.was.resettable ≡ false) × (u.live ≡ false → k.cells.tables.resettable ≡ false))
    = rw (of_cond (λ (t : Tables). not t.resettable) u.live u.was k.cells.tables) (dec-cond u.live _ _ (dec-off _) (dec-off _)) in
    map (λ p. record { within = p.0; outside = p.1 }) (λ x. (x.within, x.outside)) d

by-sound : {A : Type 0} (f : A → ℕ) (b : Bool) (x y : A) → f x ≡ 0 → f y ≡ 1 → First (f (cond b x y)) 1 (b ≡ false) (f (cond b x y) ≡ 0)
by-sound f true x y p q = inr (true≢false, p)
by-sound f false x y p q = inl (refl, q)

powered : (k : Card) → First (power k).number 1 (sound k ≡ false) ((power k).number ≡ 0)
unfolding power
powered k = by-sound (λ (r : Reply). r.number) (sound k) _ _ refl refl

was-reset : (k : Card) → First (reset k).number 1 (sound k ≡ false) (First (reset k).number 7 (Disabled k) ((reset k).number ≡ 0))
unfolding reset
was-reset k =
    ask (λ (r : Reply). r.number) (λ n. First n 7 (Disabled k) (n ≡ 0)) 1 (not (sound k)) _ _ (dec-off (sound k)) refl
    (ask (λ (r : Reply). r.number) (λ n. n ≡ 0) 7 _ _ _ (disabled-decides k) refl refl)

questioned : (k : Card) (write : Bool) (start count : ℕ)
    → First (ruling_number (media k write start count)) 1 (sound k ≡ false) (ruling_number (media k write start count) ≡ 0)
unfolding media ruling_number
questioned k write start count = by-sound ruling_number (sound k) _ _ refl refl

pub numbers-in-order : NumbersInOrder
numbers-in-order = record { packets = numbered; powers = powered; resets = was-reset; media = questioned }

-- ---- number 1 only where the record is unsound
past : {n i : ℕ} {P R : Type 0} → (P → i ≢ 1) → First n i P R → (R → n ≢ 1) → n ≢ 1
past ne (inl p) f z = ne p.0 (sym p.1 ∙ z)
past ne (inr q) f z = f q.1 z

opened-not-one : (k : Card) (s : List ℕ) (n : ℕ) (x : Option Packet) → Opening k s x n → n ≢ 1
opened-not-one k s n x (inl p) = λ z. omega (arith, p.1)
opened-not-one k s n (Some p) (inr q) =
    past (λ _ z. omega arith) (q.1 p.tsn.0 p.hsn.0 p.start p.len refl) λ r.
    past (λ _ z. omega arith) r λ e z. omega arith
opened-not-one k s n None (inr q) = absurd (q.0 refl)

not-one : (k : Card) (room : ℕ) (s : List ℕ) (n : ℕ) → sound k ≡ true → Numbered k room s n → n ≢ 1
not-one k room s n t h =
    past (λ e _. true≢false (sym t ∙ e)) h λ h.
    past (λ _ z. omega arith) h λ h.
    past (λ _ z. omega arith) h (opened-not-one k s n (opened_of s))

pub sound-power : (k : Card) → sound k ≡ true → (power k).number ≡ 0
unfolding power
sound-power k t = rw t refl

sound-media : (k : Card) (write : Bool) (start count : ℕ) → sound k ≡ true → ruling_number (media k write start count) ≡ 0
unfolding media ruling_number
sound-media k write start count t = rw t refl

pub never-unsound : NeverUnsound
never-unsound = record {
  packets = λ n msid es room s m. not-one _ room s _ (always-sound.always n msid es m) (numbered _ room s);
  powers = λ n msid es m. sound-power _ (always-sound.always n msid es m);
  media = λ n msid es write start count m. sound-media _ write start count (always-sound.always n msid es m);
}
