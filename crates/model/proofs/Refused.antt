-- A request refused changes no cell but a try counter, and no PIN.
use Prim.Native.Nat.{ℕ, ◌+◌, ◌<◌}
use mathlib.Core.Path.{◌≡◌, refl, sym, ap, subst}
use mathlib.Core.Bool.{cond}
use mathlib.Core.List.{List}
use mathlib.Core.Logic.{◌≢◌, ◌⊎◌, inl, inr}
use native.Mathlib.Decide.{ℕ_discrete, dec_lt}
use native.Mathlib.Omega.{arith}
use lib.Dec.{ltb}
use lib.ListN.{length}
use lib.Seq.{set_out, get_or-set_same, get_or-set_other}
use Rattle.model.specs.Types.{PinRow, Cells, Card, Decision}
use Rattle.model.specs.Record as R
use Rattle.model.specs.Vault.{obey}
use Rattle.model.specs.Apply.{missed_row, missed, apply}
use Rattle.model.specs.Step.{after}
use Rattle.model.specs.Laws.{Refuses, OnlyTries, RefusedKeeps}
use Rattle.model.proofs.Moves.{moves}
use Rattle.model.proofs.Cases.{whichever}

elsewhere : (c : Cells) (r q : ℕ) → q ≢ r → R.tries_at (missed c r) q ≡ R.tries_at c q
elsewhere c r q h = ap (λ x. x.tries) (get_or-set_other c.pins r q _ _ h)

at_most_one : (k : ℕ) → (cond (ltb k R.try_limit) (k + 1) k ≡ k) ⊎ (cond (ltb k R.try_limit) (k + 1) k ≡ k + 1)
at_most_one k = whichever (λ x. (x ≡ k) ⊎ (x ≡ k + 1)) (ltb k R.try_limit) _ _ (inr refl) (inl refl)

counted : (c : Cells) (r q : ℕ) → (R.tries_at (missed c r) q ≡ R.tries_at c q) ⊎ (R.tries_at (missed c r) q ≡ R.tries_at c q + 1)
counted c r q = go (ℕ_discrete q r) (dec_lt r (length c.pins))
  where
    go : Dec (q ≡ r) → Dec (r < length c.pins) → (R.tries_at (missed c r) q ≡ R.tries_at c q) ⊎ (R.tries_at (missed c r) q ≡ R.tries_at c q + 1)
    go (no h) _ = inl (elsewhere c r q h)
    go (yes e) (yes h) =
        rw e
        (subst
        (λ (x : PinRow). (x.tries ≡ R.tries_at c r) ⊎ (x.tries ≡ R.tries_at c r + 1))
        (sym (get_or-set_same c.pins r (missed_row (R.pin_row_at c.pins r)) (record { tries = 0 }) h))
        (at_most_one (R.tries_at c r)))
    go (yes e) (no h) = inl (ap (λ (l : List PinRow). (R.pin_row_at l q).tries) (set_out c.pins r _ (omega arith)))

only_one : (c : Cells) (r p q : ℕ) → p ≢ q → (R.tries_at (missed c r) p ≡ R.tries_at c p) ⊎ (R.tries_at (missed c r) q ≡ R.tries_at c q)
only_one c r p q h = go (ℕ_discrete p r)
  where
    go : Dec (p ≡ r) → (R.tries_at (missed c r) p ≡ R.tries_at c p) ⊎ (R.tries_at (missed c r) q ≡ R.tries_at c q)
    go (no g) = inl (elsewhere c r p g)
    go (yes e) = inr (elsewhere c r q (λ g. h (cc)))

same : (k : Card) → OnlyTries k k
same k = record {
  tables = refl;
  session = refl;
  next = refl;
  undo = refl;
  made = (refl, refl);
  vault = refl;
  counter = λ r. inl refl;
  one = λ p q h. inl refl;
}

one_more : (k : Card) (r : ℕ) → OnlyTries k (record { cells = missed k.cells r; vault = k.vault })
one_more k r = record {
  tables = refl;
  session = refl;
  next = refl;
  undo = refl;
  made = (refl, refl);
  vault = refl;
  counter = counted k.cells r;
  one = only_one k.cells r;
}

by-decision : (k : Card) (s : List ℕ) (d : Decision) → Refuses d → OnlyTries k (after k s d)
unfolding apply obey
by-decision k s d (inl h) = rw h.1 (same k)
by-decision k s d (inr (inl h)) = rw h.1 (same k)
by-decision k s d (inr (inr (inl h))) = rw h.1 (one_more k h.0)
by-decision k s d (inr (inr (inr (inl h)))) = rw h (same k)
by-decision k s d (inr (inr (inr (inr (inl h))))) = rw h.1 (one_more k h.0)
by-decision k s d (inr (inr (inr (inr (inr (inl h)))))) = rw h (same k)
by-decision k s d (inr (inr (inr (inr (inr (inr h)))))) = rw h (same k)

pub refused-keeps : RefusedKeeps
refused-keeps k e s d t h = rw (moves k e s d t) (by-decision k s d h)
