-- What each decision does to the record is what is said of it, cell by cell.
use Rattle.std.specs.Prelude.{Option, Some, None, unwrap_or}
use Prim.Native.Nat.{ℕ, ◌+◌, ◌<◌}
use mathlib.Core.Path.{◌≡◌, refl, sym, ◌∙◌, ap}
use mathlib.Core.Bool.{Bool, true, false, cond, true≢false}
use mathlib.Core.List.{List}
use mathlib.Core.Logic.{inl, inr}
use native.Mathlib.Omega.{arith}
use borrow.Author.Tests.{lt-ltb, ltb-true, ltb-false}
use lib.Dec.{ltb}
use lib.ListN.{length, get_or, set, replicate}
use lib.Seq.{take-append_seam, set-get_or}
use Rattle.item.specs.declared.Slot.{Slot}
use Rattle.item.specs.declared.Slot.TheVariants as S
use Rattle.params.specs.declared.Columns.{Columns}
use Rattle.params.specs.Columns.{column_at}
use Rattle.model.specs.Types.{Tsn, Hsn, Tables, Card, Object, Who, Change}
use Rattle.model.specs.declared.Object.TheVariants as O
use Rattle.model.specs.declared.Who.TheVariants as W
use Rattle.model.specs.declared.Change.TheVariants as C
use Rattle.model.specs.declared.Decision.TheVariants as D
use Rattle.model.specs.Record as R
use Rattle.model.specs.Judge as J
use Rattle.model.specs.Vault.{part, obey_change, obey}
use Rattle.model.specs.Apply as A
use Rattle.model.specs.Step.{after}
use Rattle.model.specs.Laws.{SoundRecord}
use Rattle.model.specs.Standing.{FlagAs}
use Rattle.model.specs.Wants.{When}
use Rattle.model.specs.Effects as F
use Rattle.model.specs.Effects.{InTables}
use Rattle.model.proofs.Legal as L
use Rattle.model.proofs.Legal.{Placed}
use Rattle.model.proofs.Ordered.{Rowed}
use Rattle.model.proofs.Standing.{flag-as, resets-as, only_at, rows_as}
use Rattle.model.proofs.Moves.{cleared-tries}
use Rattle.model.proofs.Cases.{cond_ind}

-- ---- nothing changes
module _ (j : Card) (s : List ℕ) where
  by-nothing : after j s (D.Done C.Nothing) ≡ j
  unfolding A.apply A.change obey obey_change
  by-nothing = refl

-- ---- PINs
next-tsn : (x : Tsn) → F.NextTsn x (A.next_tsn x)
next-tsn x =
    cond_ind (λ n. When (x.0 < 0xffffffff) (n ≡ x.0 + 1) (n ≡ 1)) (ltb x.0 0xffffffff) _ _ (λ e. inl (ltb-true _ _ e, refl))
    (λ e. inr (λ (l : x.0 < 0xffffffff). omega (arith, ltb-false x.0 0xffffffff e), refl))

module _ (j : Card) (s : List ℕ) (sound : SoundRecord j) where
  pub missed : (r : ℕ) → r < 13 → R.tries_at j.cells r < 5 → F.Missed j (W.Row r) (record { cells = A.missed j.cells r; vault = j.vault })
  missed r l m = record {
    tables = refl;
    pins = only_at (record { tries = 0 }) r _ j.cells.pins _ (omega (arith, sound.pins)) (rw (lt-ltb _ _ m) refl);
    session = refl;
    next = refl;
    live = refl;
    kept = refl;
    undo = refl;
    made = (refl, refl);
  }

  tries-cleared : (r : ℕ) → r < 13 → F.TriesAt r (λ x y. y ≡ 0) j.cells.pins (set j.cells.pins r (record { tries = 0 }))
  tries-cleared r l = only_at (record { tries = 0 }) r _ j.cells.pins _ (omega (arith, sound.pins)) refl

  cleared : (w : Who) → Rowed w → F.Cleared w j.cells.pins (A.cleared j.cells w).pins
  unfolding A.cleared
  cleared W.Unknown h = refl
  cleared W.Anybody h = refl
  cleared W.Class h = refl
  cleared (W.Row r) h = tries-cleared r (h r refl)

  proves : (w : Who) → Rowed w → (l : List Bool) → length l ≡ 13 → F.Proves w l (A.proving l w)
  unfolding A.proving
  proves W.Unknown h l e = refl
  proves W.Anybody h l e = refl
  proves W.Class h l e = refl
  proves (W.Row r) h l e = only_at false r _ l true (omega (arith, h r refl, e)) refl

  pub by-started : (locking : Bool) (hsn : Hsn) (w : Who) → Rowed w → F.Started j locking hsn w (after j s (D.Started locking hsn w))
  unfolding A.apply obey
  by-started locking hsn w h = record {
    tables = ap (λ x. x.tables) (cleared-tries j.cells w);
    pins = cleared w h;
    session = record { live = refl; to = refl; by_tsn = refl; by_hsn = refl; proved = proves w h (replicate 13 false) refl };
    next = next-tsn j.cells.next;
    live = refl;
    kept = refl;
    undo = ap (λ x. x.undo) (cleared-tries j.cells w);
    made = (ap (λ x. x.n) (cleared-tries j.cells w), ap (λ x. x.msid) (cleared-tries j.cells w));
  }

  pub by-proved : (w : Who) → j.cells.session.live ≡ true → Rowed w → F.Proved j w (after j s (D.Proved w))
  unfolding A.apply obey
  by-proved w live h = record {
    tables = ap (λ x. x.tables) (cleared-tries j.cells w);
    pins = cleared w h;
    session = record { live = live; to = refl; by_tsn = refl; by_hsn = refl; proved = proves w h j.cells.session.proved sound.session.many };
    next = ap (λ x. x.next) (cleared-tries j.cells w);
    live = refl;
    kept = refl;
    undo = ap (λ x. x.undo) (cleared-tries j.cells w);
    made = (ap (λ x. x.n) (cleared-tries j.cells w), ap (λ x. x.msid) (cleared-tries j.cells w));
  }

  -- ---- Set
  pin-set : (r : ℕ) → r < 13 → (x : Slot) → J.is_pin x ≡ true → F.PinSet j s r x (after j s (D.Done (J.pin_change r x)))
  unfolding J.is_pin J.pin_change A.apply A.change obey obey_change
  pin-set r l S.Absent h = refl
  pin-set r l (S.Int v) h = refl
  pin-set r l (S.Bytes p n) h = record {
    tables = refl;
    pins = tries-cleared r l;
    session = refl;
    next = refl;
    live = rw h (only_at F.no_secret r _ j.vault.live _ (omega (arith, l, sound.live.many)) (take-append_seam (part s p n) _));
    kept = refl;
    undo = refl;
    made = (refl, refl);
  }
  pin-set r l (S.List p) h = refl
  pin-set r l S.Named h = refl

  -- only tables change
  tabled : (T : Tables → Type 0) (t : Tables) → T t → InTables j T (record { cells = R.with_tables j.cells t; vault = j.vault })
  tabled T t h = record { tables = h; pins = refl; session = refl; next = refl; live = refl; kept = refl; undo = refl; made = (refl, refl) }

  -- with these tables
  abbrev with_tables : Tables → Card
  with_tables t = record { cells = R.with_tables j.cells t; vault = j.vault }

  -- a flag that is given, or none: f puts it into the tables
  flag-set : (g : Bool → Change) (f : Bool → Tables) (old : Bool) (x : Option Bool) → ((on : Bool) → after j s (D.Done (g on)) ≡ with_tables (f on))
      → f old ≡ j.cells.tables → after j s (D.Done (J.flag_change g x)) ≡ with_tables (f (unwrap_or x old))
  unfolding J.flag_change
  flag-set g f old None e h = by-nothing j s ∙ ap with_tables (sym h)
  flag-set g f old (Some on) e h = e on

  by-range : (t : Columns) (k : ℕ) → k < 5 → F.SetTo j s t (O.Range k) (after j s (D.Done (C.PutRange k (J.edit_in s t))))
  unfolding A.apply A.change obey obey_change
  by-range t k l =
      tabled _ _ (record { active = refl; rows = rows_as j.cells s t k (omega (arith, l, sound.tables.rows)); mbr = refl; enabled = refl; resettable = refl })

  by-mbr : (t : Columns) → F.SetTo j s t O.MbrControl (after j s (D.Done (C.PutMbr (J.mbr_edit_in s t))))
  unfolding A.apply A.change obey obey_change
  by-mbr t =
      let m = j.cells.tables.mbr in
      tabled _ _ (record {
        active = refl;
        rows = refl;
        mbr = record {
          enable = flag-as (column_at t 1) m.enable;
          done = flag-as (column_at t 2) m.done;
          done_on_program = resets-as s (column_at t 3) m.done_on_program;
        };
        enabled = refl;
        resettable = refl;
      })

  pub by_set : (t : Columns) (b : Bool) (o : Object) → Placed b o → J.values_ok j.cells s t o ≡ true
      → F.SetTo j s t o (after j s (D.Done (J.change_in s t o)))
  unfolding J.values_ok J.change_in A.apply A.change obey obey_change
  by_set t b o L.pin_sid h = pin-set 0 (omega arith) (column_at t 3) h
  by_set t b o L.pin_msid h = by-nothing j s
  by_set t b o L.tper_info h =
      let u = j.cells.tables in
      rw (flag-set (λ on. C.PutResettable on) (R.with_resettable u) u.resettable (J.flag_in (column_at t 8)) (λ on. refl) refl)
      (tabled _ _ (record { active = refl; rows = refl; mbr = refl; enabled = refl; resettable = flag-as (column_at t 8) u.resettable }))
  by_set t b o L.sp_admin h = by-nothing j s
  by_set t b o L.sp_locking h = by-nothing j s
  by_set t b o L.this_sp h = by-nothing j s
  by_set t b o (L.authority {r = r} l m) h =
      let u = j.cells.tables in
      rw (flag-set (λ on. C.PutEnabled r on) (R.with_enabled u r) (get_or u.enabled r false) (J.flag_in (column_at t 5)) (λ on. refl)
      (ap (λ (x : List Bool). record { active = u.active; rows = u.rows; mbr = u.mbr; enabled = x; resettable = u.resettable }) (set-get_or u.enabled r false)))
      (tabled _ _ (record {
        active = refl;
        rows = refl;
        mbr = refl;
        enabled = only_at false r (FlagAs (column_at t 5)) u.enabled _ (omega (arith, m, sound.tables.authorities)) (flag-as (column_at t 5) (get_or u.enabled r false));
        resettable = refl;
      }))
  by_set t b o (L.pin {r = r} l m) h = pin-set r m (column_at t 3) h
  by_set t b o (L.range {k = k} l) h = by-range t k l
  by_set t b o L.mbr_control h = by-mbr t
  by_set t b o L.nothing h = by-nothing j s

  -- ---- Activate and the reverts
  activated : (b : Bool) → j.cells.tables.active ≡ b → F.Activated j (after j s (D.Done (cond b C.Nothing C.Activate)))
  unfolding A.apply A.change obey obey_change
  activated true e = inl (e, refl)
  activated false e = inr (
    λ f. true≢false (sym f ∙ e),
    record {
      tables = record { active = refl; rows = refl; mbr = refl; enabled = refl; resettable = refl };
      pins = refl;
      session = refl;
      next = refl;
      live = only_at F.no_secret 1 _ j.vault.live _ (omega (arith, sound.live.many)) refl;
      kept = refl;
      undo = refl;
      made = (refl, refl);
    },
  )

  pub by-activate : F.Activated j (after j s (D.Done (J.activate_on j.cells.tables)))
  unfolding J.activate_on
  by-activate = activated j.cells.tables.active refl

  restored : (Z : Bool → Type 0) (z : Bool) → Z z
      → F.Restored Z (record { active = false; rows = (R.factory_tables).rows; mbr = R.no_mbr; enabled = R.factory_enabled; resettable = z })
  restored Z z h = record { active = refl; rows = refl; mbr = refl; enabled = refl; resettable = h }

  pub by-revert : (o : Object) → F.Reverted j o (after j s (D.Done (J.revert_of o)))
  unfolding J.revert_of A.apply A.change obey obey_change
  by-revert O.PinSid = refl
  by-revert O.PinMsid = refl
  by-revert O.TperInfo = refl
  by-revert O.SpAdmin = record { tables = restored _ _ refl; pins = refl; session = refl; next = refl; live = refl; kept = refl; undo = refl; made = (refl, refl) }
  by-revert O.SpLocking = record { tables = restored _ _ refl; pins = refl; session = refl; next = refl; live = refl; kept = refl; undo = refl; made = (refl, refl) }
  by-revert O.ThisSp = refl
  by-revert (O.Authority r) = refl
  by-revert (O.Pin r) = refl
  by-revert (O.Range i) = refl
  by-revert O.MbrControl = refl
  by-revert O.Nothing = refl

  pub by-revert-sp : F.LockingRestored j F.closed (after j s (D.Done C.RevertSp))
  unfolding A.apply A.change obey obey_change
  by-revert-sp = record { tables = restored _ _ refl; pins = refl; session = refl; next = refl; live = refl; kept = refl; undo = refl; made = (refl, refl) }
