-- The PINs after an event, and after a run, are what its signs tell.
use Prim.Native.Nat.{ℕ, zero, suc, ◌-◌, ◌<◌}
use mathlib.Core.Path.{◌≡◌, refl, sym, ◌∙◌, ap, subst}
use mathlib.Core.Bool.{Bool, true, false, cond, true≢false}
use mathlib.Core.List.{List, [], ◌∷◌}
use native.Mathlib.Omega.{arith}
use borrow.Author.Tests.{ne_eqb, le-leb}
use lib.Dec.{eqb}
use lib.ListN.{length, set, replicate}
use lib.Seq.{take_all, take-append_seam}
use Rattle.model.specs.Types.{Secret, Cells, Card, Change, Decision}
use Rattle.model.specs.declared.Change.TheVariants as C
use Rattle.model.specs.declared.Decision.TheVariants as D
use Rattle.model.specs.Record as R
use Rattle.model.specs.Vault as Y
use Rattle.model.specs.Apply as A
use Rattle.model.specs.Step.{Event, after, next, run}
use Rattle.model.specs.Laws.{SoundRecord, Made}
use Rattle.model.specs.Signs as S
use Rattle.model.specs.Pins as P
use Rattle.model.specs.Pins.{Pins, pins_after, pins, PinsAsTold}
use Rattle.model.proofs.Legal.{LegalChange, Legal}
use Rattle.model.proofs.Soundness.{sound-decides}
use Rattle.model.proofs.Reached.{next-made, next-sound, factory-sound}
use Rattle.model.proofs.Asked.{Plain}
use Rattle.model.proofs.Came.{comes}
use Rattle.model.proofs.Signed.{Cases, by_sign}
use Rattle.model.proofs.Parts.{all_same}
use Rattle.model.proofs.Told.{put}
use Rattle.model.proofs.Cases.{of_cond}
use Rattle.model.proofs.Moves.{cleared-tries}

-- the PIN of row r in a list of them
abbrev pin_at : List Secret → ℕ → List ℕ
pin_at l r = R.pin_of (R.secret_at l r)

put-pin : (l : List Secret) (q r : ℕ) (x : Secret) → q < length l → pin_at (set l q x) r ≡ cond (eqb q r) (R.pin_of x) (pin_at l r)
put-pin l q r x h = ap R.pin_of (put l q r x _ h) ∙ of_cond R.pin_of (eqb q r) _ _

no_pins : (n r : ℕ) → pin_at (replicate n R.no_secret) r ≡ []
no_pins n = all_same (λ (x : Secret). R.pin_of x ≡ []) n R.no_secret (record { bytes = []; len = 0 }) refl refl

-- the bytes that are put are the PIN
whole : (b : List ℕ) → R.pin_of (R.secret_of b) ≡ b
whole b = take-append_seam b _

factory-pin : (msid : List ℕ) → length msid ≡ R.pin_bytes → (r : ℕ) → pin_at (R.factory_secrets msid) r ≡ P.factory_pins msid r
factory-pin msid h zero = take_all R.pin_bytes msid (omega (arith, h))
factory-pin msid h (suc r) = rw (ne_eqb 0 (suc r) (λ e. omega arith)) (no_pins (R.pin_count - 1) r)

-- x tells the PINs of k
record Agree (k : Card) (x : Pins) : Type 0 where
  inside : k.cells.undo.live ≡ x.inside
  now : (r : ℕ) → S.pin k r ≡ x.now r
  was : k.cells.undo.live ≡ true → (r : ℕ) → pin_at k.vault.kept r ≡ x.was r

-- ---- one event
module _ (k : Card) (h : SoundRecord k) (x : Pins) (a : Agree k x) where
  -- what touches neither the PINs nor the transaction
  untouched : (c : Cells) → c.undo ≡ k.cells.undo → Agree (record { cells = c; vault = k.vault }) x
  untouched c e = record { inside = ap (λ u. u.live) e ∙ a.inside; now = a.now; was = λ l. a.was (sym (ap (λ u. u.live) e) ∙ l) }

  -- the PINs now, put anew
  put-now : (c : Cells) (l : List Secret) (f : ℕ → List ℕ) → c.undo ≡ k.cells.undo → ((r : ℕ) → pin_at l r ≡ f r)
      → Agree (record { cells = c; vault = Y.with_live k.vault l }) (P.with_now x f)
  put-now c l f e g = record { inside = ap (λ u. u.live) e ∙ a.inside; now = g; was = λ l. a.was (sym (ap (λ u. u.live) e) ∙ l) }

  -- given up
  settled : (live inside : Bool) → k.cells.undo.live ≡ live → live ≡ inside → (r : ℕ)
      → pin_at (Y.given_up live k.vault).live r ≡ cond inside x.was x.now r
  settled true inside e i r = rw (sym i) (a.was e r)
  settled false inside e i r = rw (sym i) (a.now r)

  given-up : (c : Cells) → c.undo ≡ R.no_undo → Agree (record { cells = c; vault = Y.given_up k.cells.undo.live k.vault }) (P.put_back x)
  given-up c e = record {
    inside = ap (λ u. u.live) e;
    now = settled k.cells.undo.live x.inside refl a.inside;
    was = λ l. absurd (true≢false (sym l ∙ ap (λ u. u.live) e));
  }

  sid-only : (r : ℕ) → pin_at (set R.no_secrets 0 (R.secret_at k.vault.live 0)) r ≡ cond (eqb 0 r) (x.now 0) []
  sid-only r = put-pin R.no_secrets 0 r (R.secret_at k.vault.live 0) (omega arith) ∙ rw (a.now 0, no_pins R.pin_count r) refl

  changes : (s : List ℕ) (y : Change) → LegalChange k.cells y → Agree (after k s (D.Done y)) (pins_after k.cells.msid (S.changed s y) x)
  unfolding A.apply A.change Y.obey Y.obey_change S.changed pins_after
  changes s C.Nothing f = a
  changes s (C.PutPin q p n) f =
      rw (le-leb _ _ f.1)
      (put-now _ _ _ refl λ r. put-pin k.vault.live q r _ (rw h.live.many f.0) ∙ rw (whole (Y.part s p n), a.now r) refl)
  changes s (C.PutEnabled q on) f = untouched _ refl
  changes s (C.PutRange i e) f = untouched _ refl
  changes s (C.PutMbr e) f = untouched _ refl
  changes s (C.PutResettable on) f = untouched _ refl
  changes s C.Activate f =
      put-now _ _ _ refl λ r. put-pin k.vault.live 1 r _ (rw h.live.many (omega arith)) ∙ rw (a.now 0, a.now r) refl
  changes s C.RevertLocking f = put-now _ _ _ refl sid-only
  changes s C.RevertAdmin f = put-now _ _ _ refl (factory-pin k.cells.msid h.msid)
  changes s C.RevertSp f = put-now _ _ _ refl sid-only

  decides : (s : List ℕ) (d : Decision) → Plain d → Legal k.cells d
      → Agree (after k s d) (pins_after k.cells.msid (S.decided_sign s d) x)
  unfolding A.apply Y.obey S.decided_sign pins_after
  decides s (D.Refuse c) p f = a
  decides s (D.NotStarted c) p f = a
  decides s (D.Missed q) p f = absurd p
  decides s (D.Started locking hsn w) p f = untouched _ (ap (λ c. c.undo) (cleared-tries k.cells w))
  decides s D.Denied p f = a
  decides s (D.Mistaken q) p f = absurd p
  decides s (D.Proved w) p f = untouched _ (ap (λ c. c.undo) (cleared-tries k.cells w))
  decides s (D.Told o first last) p f = a
  decides s (D.Done y) p f = changes s y f.1
  decides s D.Began p f = record { inside = refl; now = a.now; was = λ _. a.now }
  decides s D.BeganAlready p f = a
  decides s D.Committed p f = record { inside = refl; now = a.now; was = λ l. absurd (true≢false (sym l)) }
  decides s D.Abandoned p f = record {
    inside = refl;
    now = settled true x.inside f (sym f ∙ a.inside);
    was = λ l. absurd (true≢false (sym l));
  }
  decides s D.NoneOpen p f = a
  decides s D.Ended p f = given-up _ refl
  decides s D.Broke p f = given-up _ refl

  abbrev Told : Card → S.Sign → Type 0
  Told j y = Agree j (pins_after k.cells.msid y x)

  cases : Cases k Told
  unfolding A.apply A.cleared Y.obey pins_after
  cases = record {
    idle = a;
    decided = decides;
    missed = λ s q ready. untouched _ refl;
    mistaken = λ s q ready. untouched _ refl;
    entered = λ s q locking hsn ready. untouched _ refl;
    granted = λ s q ready. untouched _ refl;
    powers = given-up _ refl;
    resets = given-up _ refl;
  }

  told : (e : Event) → Agree (next k e) (pins_after k.cells.msid (S.sign k e) x)
  told e = by_sign k h Told e cases

-- ---- a run
over : (msid : List ℕ) (k : Card) (es : List Event) (old : List S.Sign) → SoundRecord k → k.cells.msid ≡ msid → Agree k (pins msid old)
    → Agree (run k es) (pins msid (S.past k es old))
unfolding run S.past pins
over msid k [] old h m a = a
over msid k (e ∷ es) old h m a =
    over msid (next k e) es (S.sign k e ∷ old) (next-sound k e h) (ap (λ y. y.1) (next-made k e) ∙ m)
    (subst (λ (y : List ℕ). Agree (next k e) (pins_after y (S.sign k e) (pins msid old))) m (told k h (pins msid old) a e))

fresh : (n : ℕ) (msid : List ℕ) → Made n msid → Agree (R.factory_card n msid) (pins msid [])
unfolding pins
fresh n msid m = record { inside = refl; now = factory-pin msid m.2; was = λ l. absurd (true≢false (sym l)) }

stands : (n : ℕ) (msid : List ℕ) (es : List Event) → Made n msid → Agree (run (R.factory_card n msid) es) (pins msid (S.past (R.factory_card n msid) es []))
stands n msid es m = over msid (R.factory_card n msid) es [] (factory-sound n msid m) refl (fresh n msid m)

as-stored : (k : Card) → Agree k (P.stored k)
as-stored k = record { inside = refl; now = λ r. refl; was = λ l r. refl }

pub pins-as-told : PinsAsTold
pins-as-told = record {
  step = λ k e r h. (told k ((sound-decides k).holds h) (P.stored k) (as-stored k) e).now r;
  only = λ k e s x t. comes k e s (D.Done x) t;
  always = λ n msid es r m. (stands n msid es m).now r;
  transaction = λ n msid es m. (stands n msid es m).inside;
  made = λ k e. (ap (λ y. y.0) (next-made k e), ap (λ y. y.1) (next-made k e));
}
