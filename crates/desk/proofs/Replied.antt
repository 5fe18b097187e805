-- The library's one number tells both: below 60 a request is turned away by it, from 60 on it counts the answer's bytes.
use Rattle.std.specs.Prelude.{Option, Some, None}
use Prim.Native.Nat.{ℕ, ◌+◌, ◌≤◌, ◌<◌}
use mathlib.Core.Path.{◌≡◌, refl}
use mathlib.Core.Bool.{Bool, true, false, not, cond}
use mathlib.Core.List.{List, [], ◌∷◌, ◌++◌}
use mathlib.Core.Logic.{◌⊎◌, inl, inr, ⊎_elim}
use native.Mathlib.Decide.{ℕ_discrete}
use native.Mathlib.Omega.{arith}
use lib.ListN.{length, take, length-take}
use lib.Seq.{take_at}
use lib.Dec.{ltb, lit≤}
use borrow.Author.Tests.{eq-eqb, ne_eqb}
use Rattle.packet.specs.declared.Packet.{Packet}
use Rattle.packet.specs.Envelope.{opened_of}
use Rattle.payload.specs.declared.Payload.{Payload}
use Rattle.payload.specs.declared.Payload.TheVariants as P
use Rattle.payload.specs.Payload.{payload_at}
use Rattle.packet.specs.declared.Tsn.{Tsn}
use Rattle.packet.specs.declared.Hsn.{Hsn}
use Rattle.model.specs.declared.Cells.{Cells}
use Rattle.model.specs.declared.Card.{Card}
use Rattle.model.specs.declared.Outcome.{Outcome}
use Rattle.model.specs.Record.{no_card}
use Rattle.model.specs.Sound.{sound}
use Rattle.model.specs.Step.{Heard, turned, judged, is_manager, is_session, judge_session, hear_manager, hear_packet, heard, reply_to, command, outcome_of, buffer_of}
use Rattle.model.proofs.Cases.{cond_ind}
use Rattle.model.proofs.Framed.{answers-short}
use Rattle.image.specs.Read.{image_ok, card_at}
use Rattle.flamepocket.specs.Library.{on_image, returned, stored}
use Rattle.line.specs.Number.{decimal_of}
use Rattle.line.specs.Write.{hex_text}
use Rattle.desk.specs.Desk.{Texted, commanded, Turned}
use Rattle.desk.proofs.Written.{hex-short, retext, turns}

-- ---- no number by which a request is turned away is as large as an answer
abbrev Small : Heard → Type 0
Small (turned n) = n < 60
Small (judged tsn hsn s j) = Unit {0}

by-manager : (c : Cells) (tsn : Tsn) (hsn : Hsn) (s : List ℕ) (p : Payload) → Small (hear_manager c tsn hsn s p)
unfolding hear_manager
by-manager c tsn hsn s (P.Call object method params) = tt
by-manager c tsn hsn s P.EndSession = lit≤ tt
by-manager c tsn hsn s P.Begin = lit≤ tt
by-manager c tsn hsn s P.Commit = lit≤ tt
by-manager c tsn hsn s P.Abandon = lit≤ tt
by-manager c tsn hsn s P.Broken = lit≤ tt

by-packet : (c : Cells) (s : List ℕ) (x : Option Packet) → Small (hear_packet c s x)
unfolding hear_packet
by-packet c s (Some p) =
    let tsn = p.tsn in
    let hsn = p.hsn in
    let start = p.start in
    let r = take (start + p.len) s in
    cond_ind Small (is_manager tsn hsn) _ _ (λ _. by-manager c tsn hsn r (payload_at r start)) λ _.
    cond_ind Small (is_session c.session tsn hsn) (judged tsn hsn r (judge_session c r (payload_at r start))) (turned 5) (λ _. tt) (λ _. lit≤ tt)
by-packet c s None = lit≤ tt

by-heard : (k : Card) (room : ℕ) (s : List ℕ) → Small (heard k room s)
unfolding heard
by-heard k room s =
    cond_ind Small (not (sound k)) _ _ (λ _. lit≤ tt) λ _.
    cond_ind Small (ltb room 2048) _ _ (λ _. lit≤ tt) λ _.
    cond_ind Small (ltb 2048 (length s)) _ _ (λ _. lit≤ tt) λ _.
    by-packet k.cells s (opened_of s)

in-reply : (k : Card) (h : Heard) → Small h → (reply_to k h).number < 60
unfolding reply_to
in-reply k (turned n) g = g
in-reply k (judged tsn hsn s j) g = lit≤ tt

number_small : (k : Card) (room : ℕ) (s : List ℕ) → (command k room s).number < 60
number_small k room s = in-reply k (heard k room s) (by-heard k room s)

-- ---- what is returned, the answer's bytes and the buffer after it
record Answered (o : Outcome) (bytes last : List ℕ) (room : ℕ) : Type 0 where
  number : o.number ≡ 0
  some : 60 ≤ length bytes
  short : length bytes ≤ 2048
  fits : length bytes ≤ room
  count : returned o ≡ length bytes
  buffer : take (length bytes) last ≡ bytes

record TurnedAway (o : Outcome) (bytes : List ℕ) : Type 0 where
  number : returned o ≡ o.number
  small : o.number < 60
  none : bytes ≡ []

abbrev Either : Outcome → List ℕ → List ℕ → ℕ → Type 0
Either o bytes last room = Answered o bytes last room ⊎ TurnedAway o bytes

heeded : (k : Card) (q old : List ℕ) (room : ℕ) → Dec ((command k room q).number ≡ 0)
    → Either (outcome_of (command k room q)) (command k room q).bytes (buffer_of (command k room q) old) room
unfolding returned
heeded k q old room (yes e) =
    inl record {
      number = e;
      some = answers-short.some k room q e;
      short = answers-short.short k room q;
      fits = answers-short.fits k room q;
      count = rw (eq-eqb _ _ e);
      buffer = take_at _ _ _ refl;
    }
heeded k q old room (no e) = inr record { number = rw (ne_eqb _ _ e); small = number_small k room q; none = answers-short.none k room q e }

module _ (s q old : List ℕ) (room : ℕ) where
  abbrev outcome : Outcome
  outcome = on_image s (λ k. outcome_of (command k room q))

  abbrev bytes : List ℕ
  bytes = cond (image_ok s) (command (card_at s) room q).bytes []

  abbrev last : List ℕ
  last = cond (image_ok s) (buffer_of (command (card_at s) room q) old) old

  by-image : (b : Bool)
      → Either (cond b (outcome_of (command (card_at s) room q)) (record { number = 1; count = 0; card = no_card })) (cond b (command (card_at s) room q).bytes [])
      (cond b (buffer_of (command (card_at s) room q) old) old) room
  unfolding returned
  by-image true = heeded (card_at s) q old room (ℕ_discrete (command (card_at s) room q).number 0)
  by-image false = inr record { number = refl; small = lit≤ tt; none = refl }

  either : Either outcome bytes last room
  unfolding on_image
  either = by-image (image_ok s)

  module _ (r : ℕ) (e : r ≡ returned outcome) where
    away : r < 60 → TurnedAway outcome bytes
    away h =
        ⊎_elim
        (λ (a : Answered outcome bytes last room). absurd (omega (arith, a.some, a.count)))
        (λ (a : TurnedAway outcome bytes). a)
        either

    answered : 60 ≤ r → Answered outcome bytes last room
    answered h =
        ⊎_elim
        (λ (a : Answered outcome bytes last room). a)
        (λ (a : TurnedAway outcome bytes). absurd (omega (arith, a.small, a.number)))
        either

    module _ (b : List ℕ) (f : b ≡ last) (h : 60 ≤ r) where
      pub counted : r ≡ length (take r b)
      counted = let a = answered h in rw (f, e, a.count, a.buffer)

      pub inside : r ≤ length b
      inside = omega (arith, counted, length-take r b)

      pub hex-fits : length (hex_text (take r b)) ≤ 4096
      hex-fits = let a = answered h in hex-short (take r b) 2048 (omega (arith, counted, a.short, a.count)) (lit≤ tt)

      pub answers : (d i y : List ℕ) (n : ℕ) → i ≡ stored s outcome → Texted d (decimal_of 0 ++ (32 ∷ hex_text (take r b))) n y
          → Turned (commanded s room q) d (record { there = true; count = n }) i y
      unfolding commanded
      answers d i y n g t =
          let a = answered h in
          let w : take r b ≡ bytes = rw (f, e, a.count) a.buffer in
          turns (commanded s room q) d i y _ n (retext t (rw (w, a.number))) refl g

    pub turns-away : (d i y : List ℕ) (n : ℕ) → r < 60 → i ≡ stored s outcome → Texted d (decimal_of r ++ (32 ∷ hex_text [])) n y
        → Turned (commanded s room q) d (record { there = true; count = n }) i y
    unfolding commanded
    turns-away d i y n h g t = let a = away h in turns (commanded s room q) d i y _ n (retext t (rw (a.none, e, a.number))) refl g
