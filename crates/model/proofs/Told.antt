-- What stands after an event is what its sign tells: the session, who is proved in it, and Tries.
use Prim.Native.Nat.{ℕ, ◌+◌, ◌<◌}
use mathlib.Core.Path.{◌≡◌, refl, sym, ◌∙◌, ap}
use mathlib.Core.Bool.{Bool, true, false, cond}
use mathlib.Core.List.{List}
use native.Mathlib.Omega.{arith}
use borrow.Author.Tests.{lt-ltb, eqb-true, eqb-false}
use lib.Dec.{eqb}
use lib.ListN.{length, get_or, set, replicate}
use lib.Seq.{get_or-set_same, get_or-set_other}
use Rattle.model.specs.Types.{Hsn, PinRow, Cells, Card, Who, Change, Decision}
use Rattle.model.specs.declared.Who.TheVariants as W
use Rattle.model.specs.declared.Change.TheVariants as C
use Rattle.model.specs.declared.Decision.TheVariants as D
use Rattle.model.specs.Record as R
use Rattle.model.specs.Apply as A
use Rattle.model.specs.Step.{Event, next}
use Rattle.model.specs.Laws.{SoundRecord}
use Rattle.model.specs.Signs as S
use Rattle.model.specs.Tries.{wrongs_after}
use Rattle.model.specs.Proved.{open_after, proved_after}
use Rattle.model.proofs.Parts.{same-all, no-tries}
use Rattle.model.proofs.Legal.{LegalChange, Legal}
use Rattle.model.proofs.Asked.{Plain, Ready}
use Rattle.model.proofs.Signed.{Cases, by_sign}
use Rattle.model.proofs.Cases.{cond_ind, of_cond}
use Rattle.std.proofs.lemmas.Bool.{cond-true, cond-false}

-- a cell of a list that was put
pub put : {A : Type 0} (l : List A) (q r : ℕ) (x d : A) → q < length l → get_or (set l q x) r d ≡ cond (eqb q r) x (get_or l r d)
put l q r x d h =
    cond_ind (λ y. get_or (set l q x) r d ≡ y) (eqb q r) _ _ (λ e. rw (sym (eqb-true q r e)) (get_or-set_same l q x d h))
    (λ e. get_or-set_other l q r x d (λ f. eqb-false q r e (sym f)))

-- where q is r, what is said of q is said of r
at_same : (f : ℕ → ℕ) (q r y : ℕ) → cond (eqb q r) (f q) y ≡ cond (eqb q r) (f r) y
at_same f q r y =
    cond_ind (λ z. z ≡ cond (eqb q r) (f r) y) (eqb q r) (f q) y (λ e. ap f (eqb-true q r e) ∙ sym (cond-true _ _ _ e)) (λ e. sym (cond-false _ _ _ e))

pub record Tells (r : ℕ) (c d : Cells) (x : S.Sign) : Type 0 where
  pub live : d.session.live ≡ open_after x c.session.live
  pub proved : R.proved_at d.session r ≡ proved_after r x (R.proved_at c.session r)
  pub tries : R.tries_at d r ≡ wrongs_after r x (R.tries_at c r)

module _ (r : ℕ) (c : Cells) (many : length c.pins ≡ R.pin_count) (rows : length c.session.proved ≡ R.pin_count) where
  put-tries : (q n : ℕ) → q < R.pin_count → R.tries_at (R.with_tries c q n) r ≡ cond (eqb q r) n (R.tries_at c r)
  put-tries q n l = ap (λ (x : PinRow). x.tries) (put c.pins q r (record { tries = n }) _ (rw many l)) ∙ of_cond (λ (x : PinRow). x.tries) (eqb q r) _ _

  none-proved : get_or (replicate R.pin_count false) r false ≡ false
  none-proved = same-all R.pin_count r false

  idle : Tells r c c S.idles
  unfolding open_after proved_after wrongs_after
  idle = record { live = refl; proved = refl; tries = refl }

  missed : (q : ℕ) → Ready c q → Tells r c (A.missed c q) (S.misses q)
  unfolding open_after proved_after wrongs_after
  missed q ready = record {
    live = refl;
    proved = refl;
    tries = rw (lt-ltb _ _ ready.few) (put-tries q (R.tries_at c q + 1) ready.there ∙ at_same (λ i. R.tries_at c i + 1) q r (R.tries_at c r));
  }

  entered : (q : ℕ) (locking : Bool) (hsn : Hsn) → q < R.pin_count → Tells r c (A.apply c (D.Started locking hsn (W.Row q))) (S.enters q)
  unfolding A.apply A.cleared A.proving open_after proved_after wrongs_after
  entered q locking hsn l = record {
    live = refl;
    proved = put (replicate R.pin_count false) q r true false l ∙ rw none-proved (cond_ind (λ x. x ≡ eqb q r) (eqb q r) true false sym sym);
    tries = put-tries q 0 l;
  }

  granted : (q : ℕ) → q < R.pin_count → Tells r c (A.apply c (D.Proved (W.Row q))) (S.proves q)
  unfolding A.apply A.cleared A.proving open_after proved_after wrongs_after
  granted q l = record { live = refl; proved = put c.session.proved q r true false (rw rows l); tries = put-tries q 0 l }

  -- nobody is proved in a session opened by Anybody, and an Authenticate of Anybody changes nothing
  opened : (locking : Bool) (hsn : Hsn) (w : Who) → Plain (D.Started locking hsn w) → Tells r c (A.apply c (D.Started locking hsn w)) S.opens
  unfolding A.apply A.cleared A.proving open_after proved_after wrongs_after
  opened locking hsn W.Unknown f = record { live = refl; proved = none-proved; tries = refl }
  opened locking hsn W.Anybody f = record { live = refl; proved = none-proved; tries = refl }
  opened locking hsn W.Class f = record { live = refl; proved = none-proved; tries = refl }
  opened locking hsn (W.Row q) f = absurd f

  admitted : (w : Who) → Plain (D.Proved w) → Tells r c (A.apply c (D.Proved w)) S.idles
  unfolding A.apply A.cleared A.proving
  admitted W.Unknown f = idle
  admitted W.Anybody f = idle
  admitted W.Class f = idle
  admitted (W.Row q) f = absurd f

  -- the session and Tries are as they were
  alike : (d : Cells) → d.session ≡ c.session → d.pins ≡ c.pins → Tells r c d S.idles
  unfolding open_after proved_after wrongs_after
  alike d e f = record { live = ap (λ x. x.live) e; proved = ap (λ x. R.proved_at x r) e; tries = ap (λ (l : List PinRow). (R.pin_row_at l r).tries) f }

  locking-tries : (R.pin_row_at (A.locking_tries c.pins) r).tries ≡ cond (eqb 0 r) (R.tries_at c r) 0
  locking-tries =
      ap (λ (x : PinRow). x.tries) (put R.no_tries 0 r (R.pin_row_at c.pins 0) _ (omega arith))
      ∙ of_cond (λ (x : PinRow). x.tries) (eqb 0 r) _ _ ∙ rw (no-tries r) (at_same (R.tries_at c) 0 r 0)

  -- a session that ends, with the same Tries
  ended : (d : Cells) → d.session ≡ R.no_session → d.pins ≡ c.pins → Tells r c d S.ends
  unfolding open_after proved_after wrongs_after
  ended d e f = record {
    live = ap (λ x. x.live) e;
    proved = ap (λ x. R.proved_at x r) e ∙ none-proved;
    tries = ap (λ (l : List PinRow). (R.pin_row_at l r).tries) f;
  }

  powered : (d : Cells) → d.session ≡ R.no_session → d.pins ≡ R.no_tries → Tells r c d S.powers
  unfolding open_after proved_after wrongs_after
  powered d e f = record {
    live = ap (λ x. x.live) e;
    proved = ap (λ x. R.proved_at x r) e ∙ none-proved;
    tries = ap (λ (l : List PinRow). (R.pin_row_at l r).tries) f ∙ no-tries r;
  }

  changes : (s : List ℕ) (x : Change) → LegalChange c x → Tells r c (A.change c x) (S.changed s x)
  unfolding A.change S.changed open_after proved_after wrongs_after
  changes s C.Nothing f = idle
  changes s (C.PutPin q p n) f = record { live = refl; proved = refl; tries = put-tries q 0 f.0 }
  changes s (C.PutEnabled q on) f = alike _ refl refl
  changes s (C.PutRange i e) f = alike _ refl refl
  changes s (C.PutMbr e) f = alike _ refl refl
  changes s (C.PutResettable on) f = alike _ refl refl
  changes s C.Activate f = record { live = refl; proved = refl; tries = refl }
  changes s C.RevertLocking f = record { live = refl; proved = refl; tries = locking-tries }
  changes s C.RevertAdmin f = record { live = refl; proved = none-proved; tries = no-tries r }
  changes s C.RevertSp f = record { live = refl; proved = none-proved; tries = locking-tries }

  decides : (s : List ℕ) (d : Decision) → Plain d → Legal c d → Tells r c (A.apply c d) (S.decided_sign s d)
  unfolding A.apply S.decided_sign open_after proved_after wrongs_after
  decides s (D.Refuse k) p f = idle
  decides s (D.NotStarted k) p f = idle
  decides s (D.Missed q) p f = absurd p
  decides s (D.Started locking hsn w) p f = opened locking hsn w p
  decides s D.Denied p f = idle
  decides s (D.Mistaken q) p f = absurd p
  decides s (D.Proved w) p f = admitted w p
  decides s (D.Told o first last) p f = idle
  decides s (D.Done x) p f = changes s x f.1
  decides s D.Began p f = record { live = refl; proved = refl; tries = refl }
  decides s D.BeganAlready p f = idle
  decides s D.Committed p f = record { live = refl; proved = refl; tries = refl }
  decides s D.Abandoned p f = record { live = refl; proved = refl; tries = refl }
  decides s D.NoneOpen p f = idle
  decides s D.Ended p f = ended _ refl refl
  decides s D.Broke p f = ended _ refl refl

-- ---- any event of a sound record
module _ (r : ℕ) (k : Card) (h : SoundRecord k) where
  abbrev Told : Card → S.Sign → Type 0
  Told j x = Tells r k.cells j.cells x

  cases : Cases k Told
  unfolding A.apply
  cases = record {
    idle = idle r k.cells h.pins h.session.many;
    decided = λ s d p f. decides r k.cells h.pins h.session.many s d p f;
    missed = λ s q ready. missed r k.cells h.pins h.session.many q ready;
    mistaken = λ s q ready. missed r k.cells h.pins h.session.many q ready;
    entered = λ s q locking hsn ready. entered r k.cells h.pins h.session.many q locking hsn ready.there;
    granted = λ s q ready. granted r k.cells h.pins h.session.many q ready.there;
    powers = powered r k.cells h.pins h.session.many _ refl refl;
    resets = ended r k.cells h.pins h.session.many _ refl refl;
  }

  pub told : (e : Event) → Tells r k.cells (next k e).cells (S.sign k e)
  told e = by_sign k h Told e cases
