-- A session that is opened takes the next TSN, and nothing else uses one.
use Prim.Native.Nat.{◌≤◌, ◌<◌}
use mathlib.Core.Path.{◌≡◌, refl, ◌∙◌, ap}
use mathlib.Core.Bool.{true, false}
use mathlib.Core.List.{List, [], ◌∷◌}
use mathlib.Core.Logic.{◌≢◌}
use native.Mathlib.Omega.{arith}
use borrow.Author.Tests.{lt-ltb, le-ltb, ltb-true}
use lib.Dec.{ltb}
use Rattle.model.specs.Types.{Tsn, Cells, Card, Change, Decision}
use Rattle.model.specs.declared.Change.TheVariants as C
use Rattle.model.specs.declared.Decision.TheVariants as D
use Rattle.model.specs.Record as R
use Rattle.model.specs.Sound.{sound}
use Rattle.model.specs.Apply as A
use Rattle.model.specs.Step as Z
use Rattle.model.specs.Step.{Event, packet, powered, was_reset, asked, next, run}
use Rattle.model.specs.Laws.{SoundRecord}
use Rattle.model.specs.Resets.{NewSession, TsnsRun, ResetsAsSaid}
use Rattle.ranges.proofs.Decide.{is_true}
use Rattle.model.proofs.Soundness.{sound-decides}
use Rattle.model.proofs.Cases.{cond_ind, never}
use Rattle.model.proofs.Legal.{Legal, FairHeard, fair-decided}
use Rattle.model.proofs.Legal as L
use Rattle.model.proofs.Walked.{heard-fair}
use Rattle.model.proofs.Reached.{next-sound, factory-sound, run_sound}
use Rattle.model.proofs.Restarted.{power-cycles, tper-resets}
use Rattle.model.proofs.Moves.{cleared-tries}
use Rattle.std.proofs.lemmas.Bool.{cond-true, cond-false}
use Rattle.model.proofs.Heard.{reset-ind}

-- the cells c, and d after an event that is no power cycle
data Numbered (c d : Cells) : Type 0 where
  opens : c.session.live ≡ false → d.session.live ≡ true → d.session.tsn ≡ c.next → d.next ≡ A.next_tsn c.next → Numbered c d
  keeps : d.session.tsn ≡ c.session.tsn → d.session.hsn ≡ c.session.hsn → d.session.locking ≡ c.session.locking → d.session.live ≡ c.session.live
      → d.next ≡ c.next → Numbered c d
  closes : d.session.live ≡ false → d.next ≡ c.next → Numbered c d

module _ (c : Cells) where
  by-change : (x : Change) → Numbered c (A.change c x)
  unfolding A.change
  by-change C.Nothing = keeps refl refl refl refl refl
  by-change (C.PutPin r p n) = keeps refl refl refl refl refl
  by-change (C.PutEnabled r on) = keeps refl refl refl refl refl
  by-change (C.PutRange i e) = keeps refl refl refl refl refl
  by-change (C.PutMbr e) = keeps refl refl refl refl refl
  by-change (C.PutResettable on) = keeps refl refl refl refl refl
  by-change C.Activate = keeps refl refl refl refl refl
  by-change C.RevertLocking = keeps refl refl refl refl refl
  by-change C.RevertAdmin = closes refl refl
  by-change C.RevertSp = closes refl refl

  by-decision : (d : Decision) → Legal c d → Numbered c (A.apply c d)
  unfolding A.apply
  by-decision (D.Refuse k) f = keeps refl refl refl refl refl
  by-decision (D.NotStarted k) f = keeps refl refl refl refl refl
  by-decision (D.Missed r) f = keeps refl refl refl refl refl
  by-decision (D.Started locking hsn w) f = opens f.0 refl refl refl
  by-decision D.Denied f = keeps refl refl refl refl refl
  by-decision (D.Mistaken r) f = keeps refl refl refl refl refl
  by-decision (D.Proved w) f = keeps refl refl refl refl (ap (λ x. x.next) (cleared-tries c w))
  by-decision (D.Told o first last) f = keeps refl refl refl refl refl
  by-decision (D.Done x) f = by-change x
  by-decision D.Began f = keeps refl refl refl refl refl
  by-decision D.BeganAlready f = keeps refl refl refl refl refl
  by-decision D.Committed f = keeps refl refl refl refl refl
  by-decision D.Abandoned f = keeps refl refl refl refl refl
  by-decision D.NoneOpen f = keeps refl refl refl refl refl
  by-decision D.Ended f = closes refl refl
  by-decision D.Broke f = closes refl refl

by-heard : (k : Card) {x : Z.Heard} → FairHeard k.cells x → Numbered k.cells (Z.reply_to k x).card.cells
unfolding Z.reply_to
by-heard k L.away = keeps refl refl refl refl refl
by-heard k (L.taken {s = s} f) = by-decision k.cells _ (fair-decided k.cells k.vault s f)

by-event : (k : Card) (e : Event) → e ≢ powered → Numbered k.cells (next k e).cells
unfolding next
by-event k (packet room s) n = by-heard k (heard-fair k room s)
by-event k powered n = absurd (n refl)
by-event k was_reset n = reset-ind (λ (x : Z.Reply). Numbered k.cells x.card.cells) k (λ _. keeps refl refl refl refl refl) (closes refl refl)
by-event k (asked write start count) n = keeps refl refl refl refl refl

-- ---- so the numbers are as document 01 says
-- no session was opened
shut : (k : Card) (e : Event) → (NewSession k e → ⊥) → (e ≢ powered → (next k e).cells.next ≡ k.cells.next)
    → (k.cells.session.live ≡ true → (next k e).cells.session.live ≡ true
    → ((next k e).cells.session.tsn ≡ k.cells.session.tsn) × ((next k e).cells.session.hsn ≡ k.cells.session.hsn)
    × ((next k e).cells.session.locking ≡ k.cells.session.locking))
    → TsnsRun k e
shut k e none stays same = record {
  opened = λ o. absurd (none o);
  one_more = λ o _. absurd (none o);
  then_one = λ o _. absurd (none o);
  else = λ _ n. stays n;
  same = same;
}

by-numbers : (k : Card) (e : Event) → Numbered k.cells (next k e).cells → TsnsRun k e
by-numbers k e (opens none live tsn more) = record {
  opened = λ _. ap (λ (x : Tsn). x.0) tsn;
  one_more = λ _ l. ap (λ (x : Tsn). x.0) more ∙ cond-true _ _ _ (lt-ltb k.cells.next.0 _ l);
  then_one = λ _ l. ap (λ (x : Tsn). x.0) more ∙ cond-false _ _ _ (le-ltb k.cells.next.0 _ l);
  else = λ n _. absurd (n (none, live));
  same = λ l _. never none l;
}
by-numbers k e (keeps tsn hsn locking live stays) = shut k e (λ o. never (live ∙ o.0) o.1) (λ _. stays) (λ _ _. (tsn, hsn, locking))
by-numbers k e (closes none stays) = shut k e (λ o. never none o.1) (λ _. stays) (λ _ l. never none l)

powered-numbers : (k : Card) → sound k ≡ true → TsnsRun k powered
powered-numbers k h =
    let none = (power-cycles k h).restarts.session.live in
    shut k powered (λ o. never none o.1) (λ n. absurd (n refl)) (λ _ l. never none l)

-- an event is a power cycle or none
by_kind : (P : Event → Type 0) → P powered → ((e : Event) → e ≢ powered → P e) → (e : Event) → P e
by_kind P p f (packet room s) = f _ (λ q. cc)
by_kind P p f powered = p
by_kind P p f was_reset = f _ (λ q. cc)
by_kind P p f (asked write start count) = f _ (λ q. cc)

numbers : (k : Card) (e : Event) → sound k ≡ true → TsnsRun k e
numbers k e h = by_kind (TsnsRun k) (powered-numbers k h) (λ z n. by-numbers k z (by-event k z n)) e

-- ---- no TSN is above FFFFFFFF
below : (c d : Cells) → Numbered c d → c.next.0 ≤ 0xffffffff → d.next.0 ≤ 0xffffffff
below c d (opens _ _ _ more) l =
    rw more
    (cond_ind (λ x. x ≤ 0xffffffff) (ltb c.next.0 0xffffffff) _ _
    (λ e. let m : c.next.0 < 0xffffffff = ltb-true _ _ e in omega arith) (λ _. omega arith))
below c d (keeps _ _ _ _ stays) l = rw stays l
below c d (closes _ stays) l = rw stays l

bounded : (k : Card) (es : List Event) → SoundRecord k → k.cells.next.0 ≤ 0xffffffff → (run k es).cells.next.0 ≤ 0xffffffff
unfolding run
bounded k [] h l = l
bounded k (e ∷ es) h l =
    bounded (next k e) es (next-sound k e h)
    (by_kind (λ z. (next k z).cells.next.0 ≤ 0xffffffff) (rw (power-cycles k (is_true _ (sound-decides k) h)).tsn (omega arith))
    (λ z n. below k.cells (next k z).cells (by-event k z n) l) e)

pub resets-as-said : ResetsAsSaid
resets-as-said = record {
  powers = power-cycles;
  resets = tper-resets;
  numbers = numbers;
  bounded = λ n msid es m.
      let h = factory-sound n msid m in
      ((run_sound _ es h).next, bounded (R.factory_card n msid) es h (omega arith));
}
