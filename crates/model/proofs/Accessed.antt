-- The access table, searched, decides who may do what in document 01's words.
use Prim.Native.Nat.{ℕ, zero, suc, ◌≤◌, ◌<◌}
use mathlib.Core.Path.{◌≡◌, refl, sym, ◌∙◌}
use mathlib.Core.Bool.{Bool, true, false, not, ◌&&◌, ◌||◌, cond, true≢false}
use mathlib.Core.List.{List, [], ◌∷◌}
use mathlib.Core.Logic.{◌⊎◌, inl, inr, ⊎_elim}
use native.Mathlib.Nat.{eq-or-lt_of_le}
use native.Mathlib.Omega.{arith}
use borrow.Author.Tests.{eqb-true, eqb-false}
use lib.Dec.{T, eqb}
use Rattle.token.specs.Bytes.{within}
use Rattle.token.proofs.Leads.{all, all-at}
use Rattle.ranges.specs.Decides.{Decides}
use Rattle.ranges.proofs.Decide.{le-or-lt, map, dec-le, dec-and}
use Rattle.model.specs.Types.{Session, Object}
use Rattle.model.specs.declared.Object.TheVariants as O
use Rattle.model.specs.Record.{admin_count, proved_at}
use Rattle.model.specs.Access as A
use Rattle.model.specs.Access.{access_rows, some_row, kind_of, self_of, holds, any_proved, has_column, columns}
use Rattle.model.specs.Words as W
use Rattle.model.specs.Words.{OneOf, Proved, Admins, AccessAsSaid}
use Rattle.model.proofs.Legal.{Placed}
use Rattle.model.proofs.Legal as L
use Rattle.model.proofs.Short.{column-hidden}
use Rattle.model.proofs.Soundness.{dec-eq, dec-on}

-- ---- tests put together: a Bool with what it decides
abbrev pub Test : Type 0 → Type 0
Test P = (b : Bool) × Decides b P

pub dec-or : {P Q : Type 0} (a b : Bool) → Decides a P → Decides b Q → Decides (a || b) (P ⊎ Q)
dec-or true b x y = record { holds = λ _. inl (x.holds refl); fails = λ e. absurd (true≢false e) }
dec-or false b x y = record { holds = λ e. inr (y.holds e); fails = λ e. ⊎_elim (x.fails refl) (y.fails e) }

dec-last : {P : Type 0} (b : Bool) → Decides b P → Decides (b || false) P
dec-last true d = d
dec-last false d = d

pub dec-is : (m x : ℕ) → Decides (eqb x m) (m ≡ x)
dec-is m x = map sym sym (dec-eq x m)

abbrev pub never : Test ⊥
never = (false, record { holds = λ e. true≢false (sym e); fails = λ _ n. n })

abbrev pub or : {P Q : Type 0} → Test P → Test Q → Test (P ⊎ Q)
or x y = (x.0 || y.0, dec-or x.0 y.0 x.1 y.1)

abbrev and : {P Q : Type 0} → Test P → Test Q → Test (P × Q)
and x y = (x.0 && y.0, dec-and x.0 y.0 x.1 y.1)

-- the last row that is tested
abbrev last : {P : Type 0} → Test P → Test P
last x = (x.0 || false, dec-last x.0 x.1)

abbrev pub is : (m x : ℕ) → Test (m ≡ x)
is m x = (eqb x m, dec-is m x)

abbrev proved : (s : Session) (r : ℕ) → Test (Proved s r)
proved s r = (proved_at s r, dec-on (proved_at s r))

-- one of a list
abbrev pub any : (m : ℕ) (l : List ℕ) → Test (OneOf m l)
any m [] = never
any m (x ∷ l) = or (is m x) (any m l)

swap : {P Q R : Type 0} → P ⊎ Q ⊎ R ⊎ ⊥ → P ⊎ R ⊎ Q ⊎ ⊥
swap = ⊎_elim inl (⊎_elim (λ q. inr (inr (inl q))) (⊎_elim (λ r. inr (inl r)) absurd))

-- a set of columns, compared with the list at each of the columns
abbrev alike : Bool → Bool → Bool
alike true b = b
alike false b = not b

like : {P : Type 0} (a b : Bool) → T (alike a b) → Decides b P → Decides a P
like true true t d = d
like true false t d = absurd t
like false true t d = absurd t
like false false t d = d

abbrev Alike : List ℕ → Type 0
Alike l = T (all (λ c. alike (has_column (columns l) c) (any c l).0) 20)

abbrev cols : (l : List ℕ) → Alike l → (c : ℕ) → c < 20 → Test (OneOf c l)
cols l t c h = (has_column (columns l) c, like _ (any c l).0 (all-at (λ c. alike (has_column (columns l) c) (any c l).0) 20 c t h) (any c l).1)

only : {P : Type 0} → P ⊎ ⊥ → P
only = ⊎_elim (λ p. p) absurd

abbrev col : (x : ℕ) → Alike (x ∷ []) → (c : ℕ) → c < 20 → Test (c ≡ x)
col x t c h = (has_column (columns (x ∷ [])) c, map only inl (cols (x ∷ []) t c h).1)

-- "any of Admin1-4 proved"
dec-admins : (s : Session) (n : ℕ) → Decides (any_proved s n) ((r : ℕ) × (1 ≤ r) × (r ≤ n) × Proved s r)
unfolding any_proved
dec-admins s zero = record { holds = λ e. absurd (true≢false (sym e)); fails = λ _ p. let l : 1 ≤ p.0 = p.1 in let m : p.0 ≤ 0 = p.2 in omega arith }
dec-admins s (suc n) =
    map
    (⊎_elim (λ e. (suc n, omega arith, omega arith, e)) (λ p. let m : p.0 ≤ n = p.2 in (p.0, p.1, omega arith, p.3)))
    (λ p.
    let m : p.0 ≤ suc n = p.2 in
    ⊎_elim (λ (e : p.0 ≡ suc n). inl (rw e at p.3)) (λ (g : p.0 < suc n). inr (p.0, p.1, omega arith, p.3)) (eq-or-lt_of_le m))
    (dec-or (proved_at s (suc n)) (any_proved s n) (dec-on (proved_at s (suc n))) (dec-admins s n))

abbrev admins : (s : Session) → Test (Admins s)
admins s = (any_proved s admin_count, dec-admins s admin_count)

dec-admin : (r : ℕ) → Decides (within 1 admin_count r) ((1 ≤ r) × (r ≤ 4))
unfolding within
dec-admin r = dec-and _ _ (dec-le 1 r) (dec-le r 4)

-- ---- which methods an object has
module _ (s : Session) (m : ℕ) where
  on-this : (b : Bool) → s.locking ≡ b → Decides (some_row (A.is_for (cond b A.k_this_locking A.k_this_admin) m) access_rows) (W.Has s O.ThisSp m)
  unfolding some_row access_rows
  on-this true e = map (⊎_elim (λ p. inr (e, p)) inl) (⊎_elim inr (λ p. inl p.1)) (or (is m 0x11) (last (is m 0x1c))).1
  on-this false e = map inl (⊎_elim (λ p. p) (λ p. absurd (true≢false (sym p.0 ∙ e)))) (last (is m 0x1c)).1

  on-authority : (r : ℕ) (b : Bool) → eqb r 1 ≡ b → Decides (some_row (A.is_for (cond b A.k_admin1 A.k_authority) m) access_rows) (W.Has s (O.Authority r) m)
  unfolding some_row access_rows
  on-authority r true e = map inl (⊎_elim (λ p. p) (λ p. absurd (p.0 (eqb-true r 1 e)))) (last (is m 0x16)).1
  on-authority r false e =
      map (⊎_elim inl (λ p. inr (eqb-false r 1 e, p))) (⊎_elim inl (λ p. inr p.1)) (or (is m 0x16) (last (is m 0x17))).1

  -- a user's PIN has Set in two rows, a range Get in two
  on-pin : (b : Bool) → Decides (some_row (A.is_for (cond b A.k_pin_admin A.k_pin_user) m) access_rows) (OneOf m (0x16 ∷ 0x17 ∷ []))
  unfolding some_row access_rows
  on-pin true = (any m (0x16 ∷ 0x17 ∷ [])).1
  on-pin false = map (⊎_elim inl (⊎_elim (λ p. inr (inl p)) inr)) (⊎_elim inl (λ p. inr (inr p))) (any m (0x16 ∷ 0x17 ∷ 0x17 ∷ [])).1

  on-range : (b : Bool) → Decides (some_row (A.is_for (cond b A.k_global A.k_range) m) access_rows) (OneOf m (0x16 ∷ 0x17 ∷ []))
  unfolding some_row access_rows
  on-range true = map (⊎_elim inl (λ p. p)) inr (any m (0x16 ∷ 0x16 ∷ 0x17 ∷ [])).1
  on-range false = map (⊎_elim inl (λ p. p)) inr (any m (0x16 ∷ 0x16 ∷ 0x17 ∷ [])).1

  has : (b : Bool) (o : Object) → s.locking ≡ b → Placed b o → Decides (some_row (A.is_for (kind_of b o) m) access_rows) (W.Has s o m)
  unfolding some_row access_rows kind_of
  has b o e L.pin_sid = (any m (0x16 ∷ 0x17 ∷ [])).1
  has b o e L.pin_msid = (last (is m 0x16)).1
  has b o e L.tper_info = (any m (0x16 ∷ 0x17 ∷ [])).1
  has b o e L.sp_admin = (any m (0x16 ∷ 0x202 ∷ [])).1
  has b o e L.sp_locking = map swap swap (any m (0x16 ∷ 0x203 ∷ 0x202 ∷ [])).1
  has b o e L.this_sp = on-this b e
  has b o e (L.authority {r = r} l h) = on-authority r (eqb r 1) refl
  has b o e (L.pin {r = r} l h) = on-pin (within 1 admin_count r)
  has b o e (L.range {k = k} _) = on-range (eqb k 0)
  has b o e L.mbr_control = (any m (0x16 ∷ 0x17 ∷ [])).1
  has b o e L.nothing = never.1

-- ---- which columns
-- the rows of an object and a method, searched for a column
abbrev Column : Session → ℕ → ℕ → ℕ → ℕ → Bool
Column s k self m c = some_row (λ a. A.is_for k m a && (holds s self a.who && has_column a.columns c)) access_rows

module _ (s : Session) (c : ℕ) (h : c < 20) where
  get-authority : (r : ℕ) (b : Bool) → Decides (Column s (cond b A.k_admin1 A.k_authority) r 0x16 c) (W.MayGet s (O.Authority r) c)
  unfolding some_row access_rows holds
  get-authority r true = (last (and (admins s) (cols (0 ∷ 5 ∷ []) tt c h))).1
  get-authority r false = (last (and (admins s) (cols (0 ∷ 5 ∷ []) tt c h))).1

  get-pin : (r : ℕ) (b : Bool) → Decides (Column s (cond b A.k_pin_admin A.k_pin_user) r 0x16 c) (W.MayGet s (O.Pin r) c)
  unfolding some_row access_rows holds
  get-pin r true = (last (and (admins s) (cols (0 ∷ 5 ∷ 6 ∷ 7 ∷ []) tt c h))).1
  get-pin r false = (last (and (admins s) (cols (0 ∷ 5 ∷ 6 ∷ 7 ∷ []) tt c h))).1

  get-range : (k : ℕ) (b : Bool) → Decides (Column s (cond b A.k_global A.k_range) 0 0x16 c) (W.MayGet s (O.Range k) c)
  unfolding some_row access_rows holds
  get-range k true = (or (col 0 tt c h) (last (and (admins s) (cols (3 ∷ 4 ∷ 5 ∷ 6 ∷ 7 ∷ 8 ∷ 9 ∷ []) tt c h)))).1
  get-range k false = (or (col 0 tt c h) (last (and (admins s) (cols (3 ∷ 4 ∷ 5 ∷ 6 ∷ 7 ∷ 8 ∷ 9 ∷ []) tt c h)))).1

  get-this : (b : Bool) → Decides (Column s (cond b A.k_this_locking A.k_this_admin) 0 0x16 c) ⊥
  unfolding some_row access_rows
  get-this true = never.1
  get-this false = never.1

  may-get : (b : Bool) (o : Object) → Placed b o → Decides (Column s (kind_of b o) (self_of o) 0x16 c) (W.MayGet s o c)
  unfolding some_row access_rows kind_of self_of holds
  may-get b o L.pin_sid = (last (and (proved s 0) (cols (0 ∷ 5 ∷ 6 ∷ 7 ∷ []) tt c h))).1
  may-get b o L.pin_msid = (last (cols (0 ∷ 3 ∷ []) tt c h)).1
  may-get b o L.tper_info = (last (cols (0 ∷ 8 ∷ []) tt c h)).1
  may-get b o L.sp_admin = (last (cols (0 ∷ 6 ∷ []) tt c h)).1
  may-get b o L.sp_locking = (last (cols (0 ∷ 6 ∷ []) tt c h)).1
  may-get b o L.this_sp = get-this b
  may-get b o (L.authority {r = r} l g) = get-authority r (eqb r 1)
  may-get b o (L.pin {r = r} l g) = get-pin r (within 1 admin_count r)
  may-get b o (L.range {k = k} _) = get-range k (eqb k 0)
  may-get b o L.mbr_control = (last (cols (0 ∷ 1 ∷ 2 ∷ 3 ∷ []) tt c h)).1
  may-get b o L.nothing = never.1

  set-this : (b : Bool) → Decides (Column s (cond b A.k_this_locking A.k_this_admin) 0 0x17 c) ⊥
  unfolding some_row access_rows
  set-this true = never.1
  set-this false = never.1

  -- "not on Admin1"
  set-authority : (r : ℕ) (b : Bool) → eqb r 1 ≡ b → Decides (Column s (cond b A.k_admin1 A.k_authority) r 0x17 c) (W.MaySet s (O.Authority r) c)
  unfolding some_row access_rows holds
  set-authority r true e = map absurd (λ p. p.0 (eqb-true r 1 e)) never.1
  set-authority r false e = map (λ p. (eqb-false r 1 e, p.0, p.1)) (λ p. (p.1, p.2)) (last (and (admins s) (col 5 tt c h))).1

  -- "a user's also by that user"
  set-pin : (r : ℕ) → 1 ≤ r → (b : Bool) → within 1 admin_count r ≡ b → Decides (Column s (cond b A.k_pin_admin A.k_pin_user) r 0x17 c) (W.MaySet s (O.Pin r) c)
  unfolding some_row access_rows holds
  set-pin r l true e =
      let g : r ≤ 4 = ((dec-admin r).holds e).1 in
      map (λ p. (inl p.0, p.1)) (λ p. (⊎_elim (λ a. a) (λ (q : (4 < r) × Proved s r). let f : 4 < r = q.0 in absurd (omega arith)) p.0, p.1))
      (last (and (admins s) (col 3 tt c h))).1
  set-pin r l false e =
      let g : 4 < r = ⊎_elim (λ (f : r ≤ 4). absurd ((dec-admin r).fails e (l, f))) (λ (f : 4 < r). f) (le-or-lt r 4) in
      map (⊎_elim (λ p. (inl p.0, p.1)) (λ p. (inr (g, p.0), p.1))) (λ p. ⊎_elim (λ a. inl (a, p.1)) (λ q. inr (q.1, p.1)) p.0)
      (or (and (admins s) (col 3 tt c h)) (last (and (proved s r) (col 3 tt c h)))).1

  -- "global 5-9"
  set-range : (k : ℕ) (b : Bool) → eqb k 0 ≡ b → Decides (Column s (cond b A.k_global A.k_range) 0 0x17 c) (W.MaySet s (O.Range k) c)
  unfolding some_row access_rows holds
  set-range k true e =
      map (λ p. (p.0, inr p.1)) (λ p. (p.0, ⊎_elim (λ q. absurd (q.0 (eqb-true k 0 e))) (λ q. q) p.1))
      (last (and (admins s) (cols (5 ∷ 6 ∷ 7 ∷ 8 ∷ 9 ∷ []) tt c h))).1
  set-range k false e =
      map (λ p. (p.0, ⊎_elim (λ q. inl (eqb-false k 0 e, inl q)) (⊎_elim (λ q. inl (eqb-false k 0 e, inr (inl q))) inr) p.1))
      (λ p. (p.0, ⊎_elim (λ q. ⊎_elim inl (λ x. inr (inl (only x))) q.1) (λ q. inr (inr q)) p.1))
      (last (and (admins s) (cols (3 ∷ 4 ∷ 5 ∷ 6 ∷ 7 ∷ 8 ∷ 9 ∷ []) tt c h))).1

  may-set : (b : Bool) (o : Object) → Placed b o → Decides (Column s (kind_of b o) (self_of o) 0x17 c) (W.MaySet s o c)
  unfolding some_row access_rows kind_of self_of holds
  may-set b o L.pin_sid = (last (and (proved s 0) (col 3 tt c h))).1
  may-set b o L.pin_msid = never.1
  may-set b o L.tper_info = (last (and (proved s 0) (col 8 tt c h))).1
  may-set b o L.sp_admin = never.1
  may-set b o L.sp_locking = never.1
  may-set b o L.this_sp = set-this b
  may-set b o (L.authority {r = r} l g) = set-authority r (eqb r 1) refl
  may-set b o (L.pin {r = r} l g) = set-pin r l (within 1 admin_count r) refl
  may-set b o (L.range {k = k} _) = set-range k (eqb k 0) refl
  may-set b o L.mbr_control = (last (and (admins s) (cols (1 ∷ 2 ∷ 3 ∷ []) tt c h))).1
  may-set b o L.nothing = never.1

-- ---- the methods that take no column
module _ (s : Session) where
  activates : Decides (A.allowed s O.SpLocking 0x203) (W.Sid s)
  unfolding some_row access_rows kind_of self_of holds
  activates = (last (proved s 0)).1

  reverts : Decides (A.allowed s O.SpAdmin 0x202) (W.Sid s) × Decides (A.allowed s O.SpLocking 0x202) (W.Sid s)
  unfolding some_row access_rows kind_of self_of holds
  reverts = ((last (proved s 0)).1, (last (proved s 0)).1)

  revert_sp : (b : Bool) → b ≡ true → Decides (some_row (λ a. A.is_for (kind_of b O.ThisSp) 0x11 a && holds s (self_of O.ThisSp) a.who) access_rows) (Admins s)
  unfolding some_row access_rows kind_of self_of holds
  revert_sp true e = (last (admins s)).1
  revert_sp false e = absurd (true≢false (sym e))

  authenticate : (b : Bool) → Decides (some_row (λ a. A.is_for (kind_of b O.ThisSp) 0x1c a && holds s (self_of O.ThisSp) a.who) access_rows) (Unit {0})
  unfolding some_row access_rows kind_of self_of holds
  authenticate true = record { holds = λ _. tt; fails = λ e. absurd (true≢false e) }
  authenticate false = record { holds = λ _. tt; fails = λ e. absurd (true≢false e) }

pub access-as-said : AccessAsSaid
access-as-said = record {
  pairs = λ s u m. has s m s.locking _ refl (L.object-placed s.locking u);
  gets = λ s u c h. may-get s c h s.locking _ (L.object-placed s.locking u);
  sets = λ s u c h. may-set s c h s.locking _ (L.object-placed s.locking u);
  activates = λ s _. activates s;
  reverts = λ s _. reverts s;
  revert_sps = λ s e. revert_sp s s.locking e;
  authenticates = λ s. authenticate s s.locking;
  past = column-hidden;
}
