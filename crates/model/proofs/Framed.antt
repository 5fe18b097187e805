-- What is sent is the envelope, a short payload and its pad: it fits the buffer, in whole fours.
use Prim.Native.Nat.{ℕ, ◌+◌, ◌%◌, ◌≤◌, ◌<◌}
use mathlib.Core.Path.{◌≡◌, refl}
use mathlib.Core.Bool.{true}
use mathlib.Core.List.{List, []}
use mathlib.Core.Logic.{◌≢◌}
use native.Mathlib.Decide.{ℕ_discrete}
use native.Mathlib.Omega.{arith}
use lib.ListN.{length, length-append, length-replicate}
use lib.Dec.{lit≤}
use Rattle.packet.specs.Envelope.{pad_of, packet_of}
use Rattle.packet.proofs.Writes.{header-length}
use Rattle.model.specs.Types.{Card}
use Rattle.model.specs.Sound.{sound}
use Rattle.model.specs.Vault.{decided}
use Rattle.model.specs.Answer.{answer}
use Rattle.model.specs.Step.{Heard, turned, judged, heard, broke, reply_to, command}
use Rattle.model.specs.Short.{AnswersShort}
use Rattle.model.proofs.Soundness.{sound-decides}
use Rattle.model.proofs.Cases.{cond_ind}
use Rattle.model.proofs.TurnedAway.{turned-away}
use Rattle.model.proofs.Short.{answer-short, answer-some}
use Rattle.model.proofs.Heard.{manager-ind, packet-ind, heard-ind}

-- ---- a packet of a payload of n bytes
pad-rest : (n : ℕ) → (pad_of n < 4) × ((56 + n + pad_of n) % 4 ≡ 0)
unfolding pad_of
pad-rest n = (omega arith, omega arith)

pub packet_length : (tsn hsn : ℕ) (p : List ℕ) → length (packet_of tsn hsn p) ≡ 56 + length p + pad_of (length p)
unfolding packet_of
packet_length tsn hsn p = simp (length-append, header-length, length-replicate)

-- what is sent where it is heard
record Sent (bytes : List ℕ) : Type 0 where
  short : length bytes ≤ 2048
  fours : length bytes % 4 ≡ 0
  some : 60 ≤ length bytes

sent : (tsn hsn : ℕ) (p : List ℕ) → 1 ≤ length p → length p ≤ 1000 → Sent (packet_of tsn hsn p)
sent tsn hsn p l h =
    let e = packet_length tsn hsn p in
    let r = pad-rest (length p) in
    let f : length (packet_of tsn hsn p) % 4 ≡ 0 = rw e r.1 in
    record { short = omega (arith, e, r.0); fours = f; some = omega (arith, e, f) }

-- ---- what is judged comes of a sound record and a buffer of 2,048 bytes
abbrev Heeded : Card → ℕ → Heard → Type 0
Heeded k room (turned n) = n ≢ 0
Heeded k room (judged tsn hsn s j) = (sound k ≡ true) × (2048 ≤ room)

heeded : (k : Card) (room : ℕ) (s : List ℕ) → Heeded k room (heard k room s)
heeded k room s =
    let F = Heeded k room in
    heard-ind F (λ _ z. z) k room s λ ok wide _.
    packet-ind F (λ _ z. z) k.cells s _ (λ p _ _. manager-ind F (λ _ z. z) k.cells p.tsn p.hsn _ _ (λ _ _ _ _. (ok, wide))) (λ _ _ _. (ok, wide))

-- ---- the answer
by-heard : (k : Card) (room : ℕ) (h : Heard) → Heeded k room h → (reply_to k h).number ≡ 0 → Sent (reply_to k h).bytes × (2048 ≤ room)
unfolding reply_to
by-heard k room (turned n) g z = absurd (g z)
by-heard k room (judged tsn hsn s j) g z =
    let d = decided k.vault s j in
    let l = answer-some k.cells d in
    let h = answer-short k.cells d ((sound-decides k).holds g.0).msid in
    (cond_ind Sent (broke d) _ _ (λ _. sent 0 0 (answer k.cells d) l h) (λ _. sent tsn.0 hsn.0 (answer k.cells d) l h), g.1)

at_zero : (k : Card) (room : ℕ) (s : List ℕ) → (command k room s).number ≡ 0 → Sent (command k room s).bytes × (2048 ≤ room)
at_zero k room s = by-heard k room (heard k room s) (heeded k room s)

-- what holds of an answer and of none
either_way : (Q : List ℕ → Type 0) (k : Card) (room : ℕ) (s : List ℕ) → Q [] → (Sent (command k room s).bytes × (2048 ≤ room) → Q (command k room s).bytes)
    → Q (command k room s).bytes
either_way Q k room s none some = go (ℕ_discrete (command k room s).number 0)
  where
    go : Dec ((command k room s).number ≡ 0) → Q (command k room s).bytes
    go (yes e) = some (at_zero k room s e)
    go (no e) = rw (turned-away.packets k room s e).1 none

pub answers-short : AnswersShort
answers-short = record {
  short = λ k room s. either_way (λ l. length l ≤ 2048) k room s (lit≤ tt) (λ p. p.0.short);
  fits = λ k room s. either_way (λ l. length l ≤ room) k room s (omega arith) (λ p. let h = p.0.short in let w : 2048 ≤ room = p.1 in omega arith);
  fours = λ k room s. either_way (λ l. length l % 4 ≡ 0) k room s refl (λ p. p.0.fours);
  some = λ k room s e. (at_zero k room s e).0.some;
  none = λ k room s e. (turned-away.packets k room s e).1;
}
