-- What is turned away by number leaves the record and the answer untouched.
use Prim.Native.Nat.{ℕ}
use mathlib.Core.Path.{◌≡◌, refl}
use mathlib.Core.List.{[]}
use mathlib.Core.Logic.{◌≢◌}
use Rattle.model.specs.Types.{Card}
use Rattle.model.specs.Step.{Heard, turned, judged, Reply, reply_to, heard, power, reset}
use Rattle.model.specs.Laws.{TurnedAway}
use Rattle.model.proofs.Cases.{whichever}

-- a reply by number keeps the record and has no bytes
record Keeps (k : Card) (r : Reply) : Type 0 where
  card : r.number ≢ 0 → r.card ≡ k
  bytes : r.number ≢ 0 → r.bytes ≡ []

kept : (k : Card) (n : ℕ) → Keeps k (record { number = n; card = k; bytes = [] })
kept k n = record { card = λ z. refl; bytes = λ z. refl }

answered : (k : Card) (r : Reply) → r.number ≡ 0 → Keeps k r
answered k r e = record { card = λ z. absurd (z e); bytes = λ z. absurd (z e) }

by-heard : (k : Card) (h : Heard) → Keeps k (reply_to k h)
unfolding reply_to
by-heard k (turned n) = kept k n
by-heard k (judged tsn hsn s j) = answered k _ refl

by_power : (k : Card) → Keeps k (power k)
unfolding power
by_power k = search (whichever (Keeps k), kept, answered)

by_reset : (k : Card) → Keeps k (reset k)
unfolding reset
by_reset k = search (whichever (Keeps k), kept, answered)

pub reset-keeps : (k : Card) → (reset k).number ≢ 0 → (reset k).card ≡ k
reset-keeps k = (by_reset k).card

pub turned-away : TurnedAway
turned-away = record {
  packets = λ k room s z. ((by-heard k (heard k room s)).card z, (by-heard k (heard k room s)).bytes z);
  powers = λ k. (by_power k).card;
  resets = reset-keeps;
}
