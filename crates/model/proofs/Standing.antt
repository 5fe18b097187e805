-- The row as it would stand after a Set, and the values of a Set: each test fails exactly where the fault is.
use Rattle.std.specs.Prelude.{unwrap_or, is_none, Option, Some, None}
use Prim.Native.Nat.{ℕ, ◌<◌}
use mathlib.Core.Path.{◌≡◌, refl, sym, ◌∙◌, ap, subst}
use mathlib.Core.Bool.{Bool, true, false, not}
use mathlib.Core.List.{List}
use mathlib.Core.Logic.{◌≢◌, ◌⊎◌, inl, inr, ⊎_elim}
use native.Mathlib.Decide.{ℕ_discrete}
use native.Mathlib.Omega.{arith}
use borrow.Author.Tests.{lt-ltb, le-ltb}
use lib.Dec.{ltb, eqb}
use lib.ListN.{length, get_or, set, length-set}
use lib.Seq.{get_or-set_same, get_or-set_other}
use Rattle.ranges.specs.Decides.{Decides, imp}
use Rattle.ranges.specs.Row.{no_row, row_at}
use Rattle.ranges.specs.Fit.{Fit}
use Rattle.ranges.specs.Set.{edited_row, edited, keeps_span, set_ok}
use Rattle.ranges.proofs.Decide.{from-true, from_false}
use Rattle.ranges.proofs.Fitted.{Span, fit-decides, fit-spans}
use Rattle.item.specs.declared.Slot.{Slot}
use Rattle.item.specs.declared.Slot.TheVariants as S
use Rattle.params.specs.declared.Columns.{Columns}
use Rattle.params.specs.declared.Resets.{Resets}
use Rattle.params.specs.declared.Resets.TheVariants as X
use Rattle.params.specs.Columns.{column_at}
use Rattle.params.specs.Params.{resets_at}
use Rattle.model.specs.Types.{Row, Cells, Object}
use Rattle.model.specs.declared.Object.TheVariants as O
use Rattle.model.specs.Judge as J
use Rattle.model.specs.Standing.{NumberAs, FlagAs, ResetsAs, RowAs, OnlyAt}
use Rattle.model.specs.Wants.{WouldNotFit, BadValues}
use Rattle.model.proofs.Faults as F
use Rattle.std.proofs.lemmas.Bool.Decides.{eqb_tells}

-- ---- a cell after a Set
pub number-as : (x : Slot) (old : ℕ) → NumberAs x old (unwrap_or (J.number_in x) old)
unfolding J.number_in
number-as S.Absent old = refl
number-as (S.Int v) old = refl
number-as (S.Bytes p n) old = refl
number-as (S.List p) old = refl
number-as S.Named old = refl

-- there is one such
number-one : (x : Slot) (old a b : ℕ) → NumberAs x old a → NumberAs x old b → a ≡ b
number-one S.Absent old a b p q = p ∙ sym q
number-one (S.Int v) old a b p q = p ∙ sym q
number-one (S.Bytes p n) old a b e q = e ∙ sym q
number-one (S.List p) old a b e q = e ∙ sym q
number-one S.Named old a b p q = p ∙ sym q

is_one : (v : ℕ) → ((v ≡ 1) × (eqb v 1 ≡ true)) ⊎ ((v ≢ 1) × (eqb v 1 ≡ false))
is_one v = ⊎_elim (λ p. inl (p.1, p.0)) (λ p. inr (p.1, p.0)) (eqb_tells v 1)

pub flag-as : (x : Slot) (old : Bool) → FlagAs x old (unwrap_or (J.flag_in x) old)
unfolding J.flag_in
flag-as S.Absent old = refl
flag-as (S.Int v) old = is_one v
flag-as (S.Bytes p n) old = refl
flag-as (S.List p) old = refl
flag-as S.Named old = refl

with-program : (x : Option Resets) → ((x ≡ Some X.Program) × (J.with_program x ≡ true)) ⊎ ((x ≢ Some X.Program) × (J.with_program x ≡ false))
unfolding J.with_program
with-program None = inr (λ e. cc, refl)
with-program (Some X.Power) = inr (λ e. cc, refl)
with-program (Some X.Program) = inl (refl, refl)

pub resets-as : (s : List ℕ) (x : Slot) (old : Bool) → ResetsAs s x old (unwrap_or (J.resets_in s x) old)
unfolding J.resets_in
resets-as s S.Absent old = refl
resets-as s (S.Int v) old = refl
resets-as s (S.Bytes p n) old = refl
resets-as s (S.List p) old = with-program (resets_at s p)
resets-as s S.Named old = refl

pub row_as : (s : List ℕ) (t : Columns) (old : Row) → RowAs s t old (edited_row old (J.edit_in s t))
unfolding edited_row
row_as s t old = record {
  start = number-as (column_at t 3) old.start;
  length = number-as (column_at t 4) old.length;
  read_enabled = flag-as (column_at t 5) old.read_enabled;
  write_enabled = flag-as (column_at t 6) old.write_enabled;
  read_locked = flag-as (column_at t 7) old.read_locked;
  write_locked = flag-as (column_at t 8) old.write_locked;
  lock_on_program = resets-as s (column_at t 9) old.lock_on_program;
}

-- ---- one entry of a list put anew
pub only_at : {A : Type 0} (z : A) (i : ℕ) (P : A → A → Type 0) (l : List A) (a : A) → i < length l → P (get_or l i z) a → OnlyAt z i P l (set l i a)
only_at z i P l a h p = record {
  here = subst (λ y. P (get_or l i z) y) (sym (get_or-set_same l i a z h)) p;
  others = λ j n. get_or-set_other l i j a z n;
  many = length-set l i a;
}

module _ (c : Cells) (s : List ℕ) (t : Columns) (k : ℕ) (there : k < length c.tables.rows) where
  pub rows_as : OnlyAt no_row k (RowAs s t) c.tables.rows (edited c.tables.rows k (J.edit_in s t))
  rows_as = only_at no_row k (RowAs s t) c.tables.rows _ there (row_as s t (row_at c.tables.rows k))

  -- rows that stand so have the spans of the edited ones
  one_span : (rows : List Row) → OnlyAt no_row k (RowAs s t) c.tables.rows rows → (i : ℕ)
      → Span (row_at (edited c.tables.rows k (J.edit_in s t)) i) (row_at rows i)
  one_span rows h i = go (ℕ_discrete i k)
    where
      go : Dec (i ≡ k) → Span (row_at (edited c.tables.rows k (J.edit_in s t)) i) (row_at rows i)
      go (yes e) = rw e (record {
        from = number-one (column_at t 3) _ _ _ rows_as.here.start h.here.start;
        long = number-one (column_at t 4) _ _ _ rows_as.here.length h.here.length;
      })
      go (no n) = let e = rows_as.others i n ∙ sym (h.others i n) in record { from = ap (λ x. x.start) e; long = ap (λ x. x.length) e }

  fits-as : (b : Bool) → Decides b (Fit (edited c.tables.rows k (J.edit_in s t)) c.n) → Decides (not b) (WouldNotFit c s t k)
  fits-as true d =
      from_false refl (λ x.
      x.2 (fit-spans (edited c.tables.rows k (J.edit_in s t)) x.0 c.n (x.1.many ∙ sym rows_as.many) (λ i l. one_span x.0 x.1 i) (d.holds refl)))
  fits-as false d = from-true refl (edited c.tables.rows k (J.edit_in s t), rows_as, d.fails refl)

  keeps-none : (x : Slot) → x ≡ S.Absent → is_none (J.number_in x) ≡ true
  unfolding J.number_in
  keeps-none x e = rw e refl

  -- the global range's numbers are not given
  spares : (k ≡ 0 → (column_at t 3 ≡ S.Absent) × (column_at t 4 ≡ S.Absent)) → imp (ltb k 1) (keeps_span (J.edit_in s t)) ≡ true
  spares f = go (ℕ_discrete k 0)
    where
      go : Dec (k ≡ 0) → imp (ltb k 1) (keeps_span (J.edit_in s t)) ≡ true
      go (yes e) = simp (lt-ltb k 1 (omega arith), keeps-none (column_at t 3) (f e).0, keeps-none (column_at t 4) (f e).1)
      go (no n) = simp (le-ltb k 1 (omega arith))

  pub not-set-ok : (k ≡ 0 → (column_at t 3 ≡ S.Absent) × (column_at t 4 ≡ S.Absent))
      → Decides (not (set_ok c.tables.rows k (J.edit_in s t) c.n)) (WouldNotFit c s t k)
  unfolding set_ok
  not-set-ok f = simp (lt-ltb k (length c.tables.rows) there, spares f) (fits-as _ (fit-decides (edited c.tables.rows k (J.edit_in s t)) c.n))

-- ---- the values of a Set
pub not-values : (c : Cells) (s : List ℕ) (t : Columns) (o : Object)
    → ((k : ℕ) → o ≡ O.Range k → (k < length c.tables.rows) × (k ≡ 0 → (column_at t 3 ≡ S.Absent) × (column_at t 4 ≡ S.Absent)))
    → Decides (not (J.values_ok c s t o)) (BadValues c s t o)
unfolding J.values_ok
not-values c s t O.PinSid h = F.not-pin (column_at t 3)
not-values c s t O.PinMsid h = F.no-fault
not-values c s t O.TperInfo h = F.not_flag (column_at t 8)
not-values c s t O.SpAdmin h = F.no-fault
not-values c s t O.SpLocking h = F.no-fault
not-values c s t O.ThisSp h = F.no-fault
not-values c s t (O.Authority r) h = F.not_flag (column_at t 5)
not-values c s t (O.Pin r) h = F.not-pin (column_at t 3)
not-values c s t (O.Range k) h =
    (F.or (F.number (column_at t 3)) (F.or (F.number (column_at t 4))
    (F.or (F.flag (column_at t 5)) (F.or (F.flag (column_at t 6)) (F.or (F.flag (column_at t 7)) (F.or (F.flag (column_at t 8))
    (F.or (F.resets s (column_at t 9)) (set_ok c.tables.rows k (J.edit_in s t) c.n, not-set-ok c s t k (h k refl).0 (h k refl).1)))))))).1
not-values c s t O.MbrControl h = (F.or (F.flag (column_at t 1)) (F.or (F.flag (column_at t 2)) (F.resets s (column_at t 3)))).1
not-values c s t O.Nothing h = F.no-fault
