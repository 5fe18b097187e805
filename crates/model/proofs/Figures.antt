-- Objects, authorities and methods have the UIDs in figures, and no others.
use Prim.Native.Nat.{ℕ, ◌+◌, ◌-◌, ◌≤◌, ◌<◌, ◌^◌}
use mathlib.Core.Path.{◌≡◌, refl, sym, ◌∙◌, subst}
use mathlib.Core.Bool.{Bool, true, false}
use mathlib.Core.Logic.{◌≢◌}
use native.Mathlib.Omega.{arith}
use borrow.Author.Tests.{eqb-true}
use lib.Dec.{eqb}
use Rattle.token.specs.Bytes.{within}
use Rattle.token.proofs.Laws.{inside}
use Rattle.token.proofs.Round.{range}
use Rattle.ranges.specs.Row.{row_count}
use Rattle.model.specs.Types.{Object, Who}
use Rattle.model.specs.declared.Object.TheVariants as O
use Rattle.model.specs.declared.Who.TheVariants as W
use Rattle.model.specs.Record.{admin_count, user_count}
use Rattle.model.specs.Uids as U
use Rattle.model.specs.Uids.{object_in, who_in, method_of, uid_of}
use Rattle.model.specs.Literals as N
use Rattle.model.specs.Literals.{Names, ObjectsNamed, Knows, AuthoritiesKnown, MethodsNamed}
use Rattle.model.proofs.Cases.{cond_ind, up_to4, up_to8}

-- ---- what is named is found, and tells its UID: each by computing
named : (locking : Bool) (u : ℕ) (o : Object) → Names locking u o → object_in locking u ≡ o
unfolding object_in within
named true u o N.this_sp = refl
named false u o N.this_sp = refl
named b u o N.pin_sid = refl
named b u o N.pin_msid = refl
named b u o N.tper_info = refl
named b u o N.sp_admin = refl
named b u o N.sp_locking = refl
named b u o (N.admin k l m) = up_to4 (λ k. object_in true (0x0000000900010000 + k) ≡ O.Authority k) refl refl refl refl k l m
named b u o (N.user k l m) = up_to8 (λ k. object_in true (0x0000000900030000 + k) ≡ O.Authority (4 + k)) refl refl refl refl refl refl refl refl k l m
named b u o (N.admin_pin k l m) = up_to4 (λ k. object_in true (0x0000000b00010000 + k) ≡ O.Pin k) refl refl refl refl k l m
named b u o (N.user_pin k l m) = up_to8 (λ k. object_in true (0x0000000b00030000 + k) ≡ O.Pin (4 + k)) refl refl refl refl refl refl refl refl k l m
named b u o N.global = refl
named b u o (N.range k l m) = up_to4 (λ k. object_in true (0x0000080200030000 + k) ≡ O.Range k) refl refl refl refl k l m
named b u o N.mbr_control = refl

pub back : (locking : Bool) (u : ℕ) (o : Object) → Names locking u o → uid_of o ≡ u
unfolding uid_of within
back b u o N.this_sp = refl
back b u o N.pin_sid = refl
back b u o N.pin_msid = refl
back b u o N.tper_info = refl
back b u o N.sp_admin = refl
back b u o N.sp_locking = refl
back b u o (N.admin k l m) = up_to4 (λ k. uid_of (O.Authority k) ≡ 0x0000000900010000 + k) refl refl refl refl k l m
back b u o (N.user k l m) = up_to8 (λ k. uid_of (O.Authority (4 + k)) ≡ 0x0000000900030000 + k) refl refl refl refl refl refl refl refl k l m
back b u o (N.admin_pin k l m) = up_to4 (λ k. uid_of (O.Pin k) ≡ 0x0000000b00010000 + k) refl refl refl refl k l m
back b u o (N.user_pin k l m) = up_to8 (λ k. uid_of (O.Pin (4 + k)) ≡ 0x0000000b00030000 + k) refl refl refl refl refl refl refl refl k l m
back b u o N.global = refl
back b u o (N.range k l m) = up_to4 (λ k. uid_of (O.Range k) ≡ 0x0000080200030000 + k) refl refl refl refl k l m
back b u o N.mbr_control = refl

known : (locking : Bool) (u : ℕ) (w : Who) → Knows locking u w → who_in locking u ≡ w
unfolding who_in within
known true u w N.anybody = refl
known false u w N.anybody = refl
known true u w N.admins = refl
known false u w N.admins = refl
known b u w N.sid = refl
known b u w N.users = refl
known b u w (N.admin k l m) = up_to4 (λ k. who_in true (0x0000000900010000 + k) ≡ W.Row k) refl refl refl refl k l m
known b u w (N.user k l m) = up_to8 (λ k. who_in true (0x0000000900030000 + k) ≡ W.Row (4 + k)) refl refl refl refl refl refl refl refl k l m

-- ---- what is found is named: each test that passes says which UID it is
nth-ind : {A : Type 0} (F : A → Type 0) (base count u : ℕ) (f : ℕ → A) (z : A) → ((k : ℕ) → 1 ≤ k → k ≤ count → u ≡ base + k → F (f k)) → F z
    → F (U.nth base count u f z)
nth-ind F base count u f z h g =
    cond_ind F (within (base + 1) (base + count) u) _ _
    (λ e.
    let r = range (base + 1) (base + count) u e in
    h (u - base) (omega (arith, r.0)) (omega (arith, r.1)) (omega (arith, r.0)))
    (λ _. g)

module _ (F : Object → Type 0) (u : ℕ) (none : F O.Nothing) where
  same : (locking : Bool) → ((o : Object) → Names locking u o → F o) → (v : ℕ) (o : Object) → Names locking v o → u ≡ v → F o
  same locking h v o n e = h o (subst (λ (x : ℕ). Names locking x o) (sym e) n)

  pub object-ind : (locking : Bool) → ((o : Object) → Names locking u o → F o) → F (object_in locking u)
  unfolding object_in
  object-ind false h =
      let at = same false h in
      cond_ind F (eqb u U.this_sp) _ _ (λ e. at _ _ N.this_sp (eqb-true u _ e)) λ _.
      cond_ind F (eqb u U.pin_sid) _ _ (λ e. at _ _ N.pin_sid (eqb-true u _ e)) λ _.
      cond_ind F (eqb u U.pin_msid) _ _ (λ e. at _ _ N.pin_msid (eqb-true u _ e)) λ _.
      cond_ind F (eqb u U.tper_info) _ _ (λ e. at _ _ N.tper_info (eqb-true u _ e)) λ _.
      cond_ind F (eqb u U.admin_sp) _ _ (λ e. at _ _ N.sp_admin (eqb-true u _ e)) λ _.
      cond_ind F (eqb u U.locking_sp) _ _ (λ e. at _ _ N.sp_locking (eqb-true u _ e)) (λ _. none)
  object-ind true h =
      let at = same true h in
      cond_ind F (eqb u U.this_sp) _ _ (λ e. at _ _ N.this_sp (eqb-true u _ e)) λ _.
      nth-ind F U.admin_base admin_count u (λ k. O.Authority k) _ (λ k l m. at _ _ (N.admin k l m))
      (nth-ind F U.user_base user_count u (λ k. O.Authority (admin_count + k)) _ (λ k l m. at _ _ (N.user k l m))
      (nth-ind F U.admin_pin_base admin_count u (λ k. O.Pin k) _ (λ k l m. at _ _ (N.admin_pin k l m))
      (nth-ind F U.user_pin_base user_count u (λ k. O.Pin (admin_count + k)) _ (λ k l m. at _ _ (N.user_pin k l m))
      (cond_ind F (eqb u U.global_range) _ _ (λ e. at _ _ N.global (eqb-true u _ e)) λ _.
      nth-ind F U.range_base (row_count - 1) u (λ k. O.Range k) _ (λ k l m. at _ _ (N.range k l m))
      (cond_ind F (eqb u U.mbr_control) _ _ (λ e. at _ _ N.mbr_control (eqb-true u _ e)) (λ _. none))))))

module _ (F : Who → Type 0) (u : ℕ) (none : F W.Unknown) where
  alike : (locking : Bool) → ((w : Who) → Knows locking u w → F w) → (v : ℕ) (w : Who) → Knows locking v w → u ≡ v → F w
  alike locking h v w n e = h w (subst (λ (x : ℕ). Knows locking x w) (sym e) n)

  pub who-ind : (locking : Bool) → ((w : Who) → Knows locking u w → F w) → F (who_in locking u)
  unfolding who_in
  who-ind false h =
      let at = alike false h in
      cond_ind F (eqb u U.anybody) _ _ (λ e. at _ _ N.anybody (eqb-true u _ e)) λ _.
      cond_ind F (eqb u U.admins) _ _ (λ e. at _ _ N.admins (eqb-true u _ e)) λ _.
      cond_ind F (eqb u U.sid) _ _ (λ e. at _ _ N.sid (eqb-true u _ e)) (λ _. none)
  who-ind true h =
      let at = alike true h in
      cond_ind F (eqb u U.anybody) _ _ (λ e. at _ _ N.anybody (eqb-true u _ e)) λ _.
      cond_ind F (eqb u U.admins) _ _ (λ e. at _ _ N.admins (eqb-true u _ e)) λ _.
      cond_ind F (eqb u U.users) _ _ (λ e. at _ _ N.users (eqb-true u _ e)) λ _.
      nth-ind F U.admin_base admin_count u (λ k. W.Row k) _ (λ k l m. at _ _ (N.admin k l m))
      (nth-ind F U.user_base user_count u (λ k. W.Row (admin_count + k)) _ (λ k l m. at _ _ (N.user k l m)) none)

pub objects-named : ObjectsNamed
objects-named = record {
  named = named;
  others = λ locking u. object-ind (λ o. o ≢ O.Nothing → Names locking u o) u (λ n. absurd (n refl)) locking (λ o n _. n);
  back = back;
}

pub authorities-known : AuthoritiesKnown
authorities-known = record {
  known = known;
  others = λ locking u. who-ind (λ w. w ≢ W.Unknown → Knows locking u w) u (λ n. absurd (n refl)) locking (λ w n _. n);
}

-- ---- methods
method-in : (m : ℕ) → m < 2 ^ 32 → method_of (0x0000000600000000 + m) ≡ m
unfolding method_of
method-in m h =
    let e : 0x0000000600000000 + m - U.method_base ≡ m = omega arith in
    rw (inside U.method_base (U.method_base + 0xffffffff) (0x0000000600000000 + m) (omega arith) (omega arith), e) refl

method-ind : (F : ℕ → Type 0) (u : ℕ) → ((m : ℕ) → m < 2 ^ 32 → u ≡ 0x0000000600000000 + m → F m) → F 0 → F (method_of u)
unfolding method_of
method-ind F u h g =
    cond_ind F (within U.method_base (U.method_base + 0xffffffff) u) _ _
    (λ e.
    let r = range U.method_base (U.method_base + 0xffffffff) u e in
    h (u - U.method_base) (omega (arith, r.1)) (omega (arith, r.0)))
    (λ _. g)

pub methods-named : MethodsNamed
methods-named = record {
  named = method-in;
  others = λ u. method-ind (λ m. m ≢ 0 → u ≡ 0x0000000600000000 + m) u (λ m _ e _. e) (λ n. absurd (n refl));
  small = λ u. method-ind (λ m. m < 2 ^ 32) u (λ m h _. h) (omega arith);
}

pub method-is : (u m : ℕ) → m ≢ 0 → method_of u ≡ m → u ≡ 0x0000000600000000 + m
method-is u m n e = rw e at (methods-named.others u (λ z. n (sym e ∙ z)))
