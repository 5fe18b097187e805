-- `object_in_locking` meets its contract: what each test passed falls out of the definition.
use Prim.Native.Nat.{ℕ, ◌-◌}
use mathlib.Core.Path.{◌≡◌}
use borrow.Author.Tests.{eq-eqb, ne_eqb}
use Rattle.std.specs.Prelude.{Some, None}
use Rattle.ranges.specs.Row.{row_count}
use Rattle.model.specs.declared.Object.{Object}
use Rattle.model.specs.declared.Object.TheVariants as O
use Rattle.model.specs.Uids as U
use Rattle.access.specs.Rows.{row_past}
use Rattle.access.proofs.Nth.{nth-none, nth-some, row-none, row-some}
use Rattle.access.proofs.object_in_locking.Goals as goal

-- the rows and the range that a test has ruled out
module _ (u : ℕ) where
  no-authority : None ≡ row_past U.admin_base U.user_base u Some None → (z : Object) → row_past U.admin_base U.user_base u (λ k. O.Authority k) z ≡ z
  no-authority e z = row-none U.admin_base U.user_base u e (λ k. O.Authority k) z

  no_pin : None ≡ row_past U.admin_pin_base U.user_pin_base u Some None → (z : Object) → row_past U.admin_pin_base U.user_pin_base u (λ k. O.Pin k) z ≡ z
  no_pin e z = row-none U.admin_pin_base U.user_pin_base u e (λ k. O.Pin k) z

  no-range : None ≡ U.nth U.range_base (row_count - 1) u Some None → (z : Object) → U.nth U.range_base (row_count - 1) u (λ k. O.Range k) z ≡ z
  no-range e z = nth-none U.range_base (row_count - 1) u e (λ k. O.Range k) z

pub returns-in-Some : goal.returns-in-Some
unfolding U.object_in
returns-in-Some c = simp (ne_eqb _ _ c.if-uid-eq-THIS_SP.false, row-some U.admin_base U.user_base c.args.uid _ c.in-Some.ensures (λ k. O.Authority k))

pub returns-in-Some-row_past : goal.returns-in-Some-row_past
unfolding U.object_in
returns-in-Some-row_past c = simp (ne_eqb _ _ c.if-uid-eq-THIS_SP.false, no-authority c.args.uid c.in_default.ensures, row-some U.admin_pin_base U.user_pin_base c.args.uid _ c.in-Some-row_past.ensures (λ k. O.Pin k))

pub returns-then-uid-eq-GLOBAL_RANGE : goal.returns-then-uid-eq-GLOBAL_RANGE
unfolding U.object_in
returns-then-uid-eq-GLOBAL_RANGE c = simp (ne_eqb _ _ c.if-uid-eq-THIS_SP.false, no-authority c.args.uid c.in_default.ensures, no_pin c.args.uid c.in_default-row_past.ensures, eq-eqb _ _ c.if-uid-eq-GLOBAL_RANGE.true)

pub returns-in-Some-past : goal.returns-in-Some-past
unfolding U.object_in
returns-in-Some-past c = simp (ne_eqb _ _ c.if-uid-eq-THIS_SP.false, no-authority c.args.uid c.in_default.ensures, no_pin c.args.uid c.in_default-row_past.ensures, ne_eqb _ _ c.if-uid-eq-GLOBAL_RANGE.false, nth-some U.range_base (row_count - 1) c.args.uid _ c.in-Some-past.ensures (λ k. O.Range k))

pub returns-then-uid-eq-MBR_CONTROL : goal.returns-then-uid-eq-MBR_CONTROL
unfolding U.object_in
returns-then-uid-eq-MBR_CONTROL c = simp (ne_eqb _ _ c.if-uid-eq-THIS_SP.false, no-authority c.args.uid c.in_default.ensures, no_pin c.args.uid c.in_default-row_past.ensures, ne_eqb _ _ c.if-uid-eq-GLOBAL_RANGE.false, no-range c.args.uid c.in_default-past.ensures, eq-eqb _ _ c.if-uid-eq-MBR_CONTROL.true)

pub returns : goal.returns
unfolding U.object_in
returns c = simp (ne_eqb _ _ c.if-uid-eq-THIS_SP.false, no-authority c.args.uid c.in_default.ensures, no_pin c.args.uid c.in_default-row_past.ensures, ne_eqb _ _ c.if-uid-eq-GLOBAL_RANGE.false, no-range c.args.uid c.in_default-past.ensures, ne_eqb _ _ c.if-uid-eq-MBR_CONTROL.false)
