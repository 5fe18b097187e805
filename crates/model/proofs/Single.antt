-- A promise by equations admits one outcome, and the answer lies within the buffer.
use Prim.Native.Nat.{ℕ, ◌+◌, ◌-◌, ◌≤◌}
use mathlib.Core.Path.{◌≡◌, refl, sym, ap, ◌∙◌}
use mathlib.Core.List.{List, [], ◌++◌}
use mathlib.Core.Logic.{◌≢◌}
use native.Mathlib.Omega.{arith}
use lib.ListN.{length, get_or, drop, length-append, length-drop}
use lib.Seq.{get_or-drop, get_or-append_right}
use Rattle.model.specs.Types.{Card, Outcome}
use Rattle.model.specs.Step.{Reply, command, buffer_of}
use Rattle.model.specs.Single.{Meets, OneOutcome}
use Rattle.model.proofs.TurnedAway.{turned-away}
use Rattle.model.proofs.Framed.{answers-short}

-- bytes put over the front of a buffer
buffer-length : (r : Reply) (old : List ℕ) → length r.bytes ≤ length old → length (buffer_of r old) ≡ length old
buffer-length r old h = simp (length-append, length-drop) (omega arith)

past-front : (a old : List ℕ) (i : ℕ) → length a ≤ i → get_or (a ++ drop (length a) old) i 0 ≡ get_or old i 0
past-front a old i h =
    let e : length a + (i - length a) ≡ i = omega arith in
    get_or-append_right a (drop (length a) old) i 0 h ∙ get_or-drop (length a) old (i - length a) 0 ∙ ap (λ (j : ℕ). get_or old j 0) e

bare-buffer : (r : Reply) (old : List ℕ) → r.bytes ≡ [] → buffer_of r old ≡ old
bare-buffer r old e = rw e refl

module _ (k : Card) (s old : List ℕ) (r : Outcome) (last : List ℕ) (m : Meets k s old r last) where
  abbrev reply : Reply
  reply = command k (length old) s

  same_length : length last ≡ length old
  same_length = ap length m.buffer ∙ buffer-length reply old (answers-short.fits k (length old) s)

  past : (i : ℕ) → r.count ≤ i → get_or last i 0 ≡ get_or old i 0
  past i h =
      let g : length reply.bytes ≤ i = rw m.outcome at h in
      ap (λ (l : List ℕ). get_or l i 0) m.buffer ∙ past-front reply.bytes old i g

  nothing : r.number ≢ 0 → (r.count ≡ 0) × (r.card ≡ k) × (last ≡ old)
  nothing z =
      let t = turned-away.packets k (length old) s (λ e. z (ap (λ o. o.number) m.outcome ∙ e)) in (
        ap (λ o. o.count) m.outcome ∙ ap length t.1,
        ap (λ o. o.card) m.outcome ∙ t.0,
        m.buffer ∙ bare-buffer reply old t.1,
      )

pub one-outcome : OneOutcome
one-outcome = record {
  one = λ k s old r q last end m n. (m.outcome ∙ sym n.outcome, m.buffer ∙ sym n.buffer);
  length = same_length;
  past = λ k s old r last i m. past k s old r last m i;
  nothing = nothing;
}
