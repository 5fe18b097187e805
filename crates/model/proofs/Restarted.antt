-- What the resets leave, cell by cell.
use Prim.Native.Nat.{ℕ, ◌<◌}
use mathlib.Core.Path.{◌≡◌, refl, sym, ◌∙◌, ap, subst}
use mathlib.Core.Bool.{Bool, true, false, true≢false}
use mathlib.Core.List.{List}
use mathlib.Core.Logic.{⊎_elim}
use native.Mathlib.Omega.{arith}
use lib.ListN.{length, replicate, get_or-replicate}
use Rattle.ranges.specs.Row.{row_count, no_row, row_at}
use Rattle.ranges.specs.Reset.{locked_row, reset_rows, reset_mbr}
use Rattle.ranges.proofs.Mapped.{at_map}
use Rattle.model.specs.Types.{Tsn, Row, Mbr, Tables, PinRow, Vault, Card}
use Rattle.model.specs.Record as R
use Rattle.model.specs.Sound.{sound}
use Rattle.model.specs.Vault as Y
use Rattle.model.specs.Apply as A
use Rattle.model.specs.Step as Z
use Rattle.model.specs.Step.{powered, was_reset, next}
use Rattle.model.specs.Numbers.{First, Disabled}
use Rattle.model.specs.Resets.{SameOthers, Locked, NoSession, NoPin, NoRow, NoTransaction, Restarted, PowerCycles, TperResets}
use Rattle.model.proofs.Cases.{whichever}
use Rattle.model.proofs.TurnedAway.{reset-keeps}
use Rattle.model.proofs.Numbered.{numbers-in-order, sound-power, disabled-decides}
use Rattle.model.proofs.Parts.{same-all, reset-long, no-tries}
use Rattle.model.proofs.Transactions.{power-card, reset-card}
use Rattle.std.proofs.lemmas.Bool.{cond-true, cond-false, not-false}
use Rattle.ranges.proofs.Decide.{is_false}
use Rattle.model.proofs.Heard.{reset-ind}

-- ---- the tables
same-others : (on : Bool) (rows : List Row) (i : ℕ) → i < length rows → SameOthers (row_at rows i) (row_at (reset_rows on rows) i)
unfolding reset_rows
same-others true rows i l =
    rw (at_map locked_row rows i l) (record { start = refl; length = refl; read_enabled = refl; write_enabled = refl; lock_on_reset = refl })
same-others false rows i l = record { start = refl; length = refl; read_enabled = refl; write_enabled = refl; lock_on_reset = refl }

all-locked : (on : Bool) (rows : List Row) → on ≡ true → (i : ℕ) → i < length rows
    → ((row_at (reset_rows on rows) i).read_locked ≡ true) × ((row_at (reset_rows on rows) i).write_locked ≡ true)
unfolding reset_rows
all-locked true rows e i l = rw (at_map locked_row rows i l) (refl, refl)
all-locked false rows e i l = absurd (true≢false (sym e))

mbr-kept : (on : Bool) (m : Mbr) → ((reset_mbr on m).enable ≡ m.enable) × ((reset_mbr on m).done_on_program ≡ m.done_on_program)
unfolding reset_mbr
mbr-kept true m = (refl, refl)
mbr-kept false m = (refl, refl)

not_done : (on : Bool) (m : Mbr) → on ≡ true → (reset_mbr on m).done ≡ false
unfolding reset_mbr
not_done true m e = refl
not_done false m e = absurd (true≢false (sym e))

untouched : (on : Bool) (t : Tables) → on ≡ false
    → record { active = t.active; rows = reset_rows on t.rows; mbr = reset_mbr on t.mbr; enabled = t.enabled; resettable = t.resettable } ≡ t
unfolding reset_rows reset_mbr
untouched true t e = absurd (true≢false e)
untouched false t e = refl

locked : (t : Tables) → Locked t (A.relocked t)
locked t = record {
  active = refl;
  enabled = refl;
  resettable = refl;
  many = reset-long t.active t.rows;
  others = same-others t.active t.rows;
  locked = all-locked t.active t.rows;
  mbr = mbr-kept t.active t.mbr;
  done = not_done t.active t.mbr;
  inactive = untouched t.active t;
}

-- ---- what is empty
no-session : NoSession R.no_session
no-session = record { live = refl; locking = refl; numbers = (refl, refl); many = refl; nobody = λ r. same-all R.pin_count r false }

no_pin : NoPin R.no_secret
no_pin = record { len = refl; many = refl; bytes = λ i. same-all R.pin_bytes i 0 }

no-row : (i : ℕ) → NoRow (row_at (replicate row_count no_row) i)
no-row i = rw (same-all row_count i no_row) (record { numbers = (refl, refl); enabled = (refl, refl); locked = (refl, refl); lock_on_reset = refl })

no_pins : (r : ℕ) → r < R.pin_count → NoPin (R.secret_at R.no_secrets r)
no_pins r l = rw (get_or-replicate R.pin_count r R.no_secret _ l) no_pin

-- ---- both resets
module _ (k : Card) (l : List PinRow) (x : Tsn) where
  abbrev again : Card
  again = Z.reset_to k (R.with_next (R.with_pins (A.tper_reset k.cells) l) x)

  no-transaction : NoTransaction again
  no-transaction = record {
    live = refl;
    flags = (refl, refl);
    rows = (refl, no-row);
    mbr = refl;
    enabled = (refl, λ r. same-all R.pin_count r false);
    pins = rw (whichever (λ (v : Vault). v.kept ≡ R.no_secrets) k.cells.undo.live (Y.put_back k.vault) (Y.wiped k.vault) refl refl) (refl, no_pins);
  }

  restarted : Restarted k again
  restarted = record {
    made = (refl, refl);
    session = no-session;
    transaction = no-transaction;
    abandoned = λ e. (
      subst (λ (t : Tables). Locked t (A.relocked (A.settled_tables k.cells))) (cond-true k.cells.undo.live k.cells.undo.was k.cells.tables e)
          (locked (A.settled_tables k.cells)),
      ap (λ (v : Vault). v.live) (cond-true k.cells.undo.live (Y.put_back k.vault) (Y.wiped k.vault) e),
    );
    else = λ e. (
      subst (λ (t : Tables). Locked t (A.relocked (A.settled_tables k.cells))) (cond-false k.cells.undo.live k.cells.undo.was k.cells.tables e)
          (locked (A.settled_tables k.cells)),
      ap (λ (v : Vault). v.live) (cond-false k.cells.undo.live (Y.put_back k.vault) (Y.wiped k.vault) e),
    );
  }

power-next : (k : Card) → sound k ≡ true → next k powered ≡ again k R.no_tries (record { 0 = 1 })
unfolding next
power-next k h = power-card k h

pub power-cycles : (k : Card) → sound k ≡ true → PowerCycles k
power-cycles k h = record {
  number = sound-power k h;
  restarts = rw (power-next k h) (restarted k R.no_tries (record { 0 = 1 }));
  tries = rw (power-next k h) (refl, no-tries);
  tsn = rw (power-next k h) refl;
}

-- where column 8 is set, TPER_RESET is not disabled
is_set : (k : Card) → (Disabled k → ⊥) → (A.settled_tables k.cells).resettable ≡ true
is_set k n = not-false _ (is_false _ (disabled-decides k) n)

-- which number it is: 7 or 0
numbered : (k : Card) → sound k ≡ true → First (Z.reset k).number 7 (Disabled k) ((Z.reset k).number ≡ 0)
numbered k h = ⊎_elim (λ x. absurd (true≢false (sym h ∙ x.0))) (λ x. x.1) (numbers-in-order.resets k)

seven : (k : Card) → sound k ≡ true → Disabled k → (Z.reset k).number ≡ 7
seven k h d = ⊎_elim (λ x. x.1) (λ x. absurd (x.0 d)) (numbered k h)

answered : (k : Card) → sound k ≡ true → (Disabled k → ⊥) → (Z.reset k).number ≡ 0
answered k h n = ⊎_elim (λ x. absurd (n x.0)) (λ x. x.1) (numbered k h)

reset-next : (k : Card) → sound k ≡ true → (Disabled k → ⊥) → next k was_reset ≡ again k k.cells.pins k.cells.next
unfolding next
reset-next k h n = reset-card k h (is_set k n)

turned-back : (k : Card) → (Z.reset k).number ≡ 7 → next k was_reset ≡ k
unfolding next
turned-back k e = reset-keeps k (λ z. omega arith)

-- Tries and the next TSN stay, whatever becomes of the reset
abbrev Stays : Card → Z.Reply → Type 0
Stays k x = (x.card.cells.pins ≡ k.cells.pins) × (x.card.cells.next ≡ k.cells.next)

stays : (k : Card) → Stays k (Z.reset k)
stays k = reset-ind (Stays k) k (λ _. (refl, refl)) (refl, refl)

pub tper-resets : (k : Card) → sound k ≡ true → TperResets k
unfolding next
tper-resets k h = record {
  disabled = λ d. (seven k h d, turned-back k (seven k h d));
  enabled = λ n. (answered k h n, rw (reset-next k h n) (restarted k k.cells.pins k.cells.next));
  tries = (stays k).0;
  tsn = (stays k).1;
}
