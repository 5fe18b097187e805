-- Each test of the rules fails exactly where the fault is, as it is said.
use Rattle.std.specs.Prelude.{Option, Some, None}
use Prim.Native.Nat.{ℕ, zero, suc, ◌≤◌, ◌<◌}
use mathlib.Core.Path.{◌≡◌, refl, ap₂}
use mathlib.Core.Bool.{Bool, true, false, not, ◌&&◌, ◌||◌}
use mathlib.Core.List.{List, [], ◌∷◌}
use mathlib.Core.Logic.{◌≢◌, ◌⊎◌, inl, inr, ⊎_elim}
use native.Mathlib.Nat.{not-suc-le-zero, eq-or-lt_of_le, le_of_suc-le-suc}
use native.Mathlib.Omega.{arith}
use lib.Dec.{leb, ltb, eqb}
use Rattle.ranges.specs.Decides.{Decides, imp, all}
use Rattle.ranges.proofs.Decide.{map, from-true, from_false, dec-and, dec-not, dec-le, dec-lt}
use Rattle.item.specs.declared.Slot.{Slot}
use Rattle.item.specs.declared.Slot.TheVariants as S
use Rattle.params.specs.declared.Columns.{Columns}
use Rattle.params.specs.declared.Resets.{Resets}
use Rattle.params.specs.Columns.{column_at, free}
use Rattle.params.specs.Params.{resets_at}
use Rattle.model.specs.Types.{Object, Who, Decision, Judged}
use Rattle.model.specs.declared.Object.TheVariants as O
use Rattle.model.specs.declared.Who.TheVariants as W
use Rattle.model.specs.declared.Judged.TheVariants.{Settled}
use Rattle.model.specs.Access.{last_column}
use Rattle.model.specs.Judge as J
use Rattle.model.specs.Vault.{part, same}
use Rattle.model.specs.Literals.{last_of}
use Rattle.model.specs.Wants as N
use Rattle.model.proofs.Soundness.{dec-eq}

-- ---- the rules walked: where the test fails the fault is there, and where it passes it is not
pub look : (F : Judged → Type 0) {Q : Type 0} (b : Bool) (d : Decision) (j : Judged) → Decides (not b) Q → (Q → F (Settled d)) → ((Q → ⊥) → F j)
    → F (J.need b d j)
unfolding J.need
look F true d j x f g = g (x.fails refl)
look F false d j x f g = f (x.holds refl)

-- ---- faults put together
pub not-and : {P Q : Type 0} (a b : Bool) → Decides (not a) P → Decides (not b) Q → Decides (not (a && b)) (P ⊎ Q)
not-and true b x y = map inr (⊎_elim (λ p. absurd (x.fails refl p)) (λ q. q)) y
not-and false b x y = from-true refl (inl (x.holds refl))

pub not-or : {P Q : Type 0} (a b : Bool) → Decides (not a) P → Decides (not b) Q → Decides (not (a || b)) (P × Q)
not-or true b x y = from_false refl (λ p. x.fails refl p.0)
not-or false b x y = map (λ q. (x.holds refl, q)) (λ p. p.1) y

pub not-imp : {P Q : Type 0} (a b : Bool) → Decides a P → Decides (not b) Q → Decides (not (imp a b)) (P × Q)
not-imp true b x y = map (λ q. (x.holds refl, q)) (λ p. p.1) y
not-imp false b x y = from_false refl (λ p. x.fails refl p.0)

pub not-not : {P : Type 0} (b : Bool) → Decides b P → Decides (not (not b)) P
not-not true x = x
not-not false x = x

pub not-le : (m n : ℕ) → Decides (not (leb m n)) (n < m)
not-le m n = map (λ (h : m ≤ n → ⊥). omega arith) (λ (l : n < m) (h : m ≤ n). omega arith) (dec-not _ (dec-le m n))

pub not-eq : (m n : ℕ) → Decides (not (eqb m n)) (m ≢ n)
not-eq m n = dec-not (eqb m n) (dec-eq m n)

-- a test that fails at some number
pub not-all : (p : ℕ → Bool) (P : ℕ → Type 0) (n : ℕ) → ((i : ℕ) → i < n → Decides (not (p i)) (P i)) → Decides (not (all p n)) ((i : ℕ) × (i < n) × P i)
unfolding all
not-all p P zero d = from_false refl (λ x. not-suc-le-zero x.1)
not-all p P (suc n) d =
    map
    (⊎_elim (λ x. (n, omega arith, x)) (λ x. let l : x.0 < n = x.1 in (x.0, omega arith, x.2)))
    (λ x. ⊎_elim (λ e. inl (rw e at x.2)) (λ (l : x.0 < n). inr (x.0, l, x.2)) (eq-or-lt_of_le (le_of_suc-le-suc x.1)))
    (not-and (p n) (all p n) (d n (omega arith)) (not-all p P n (λ i l. d i (omega arith))))

-- ---- PINs
pub same-decides : (xs ys : List ℕ) → Decides (same xs ys) (xs ≡ ys)
unfolding same
same-decides [] [] = from-true refl refl
same-decides [] (y ∷ ys) = from_false refl (λ e. cc)
same-decides (x ∷ xs) [] = from_false refl (λ e. cc)
same-decides (x ∷ xs) (y ∷ ys) =
    map (λ p. ap₂ ◌∷◌ p.0 p.1) (λ e. (cc, cc))
    (dec-and _ _ (dec-eq x y) (same-decides xs ys))

-- ---- slots
pub free-decides : (x : Slot) → Decides (free x) (x ≡ S.Absent)
unfolding free
free-decides S.Absent = from-true refl refl
free-decides (S.Int v) = from_false refl (λ e. cc)
free-decides (S.Bytes p n) = from_false refl (λ e. cc)
free-decides (S.List p) = from_false refl (λ e. cc)
free-decides S.Named = from_false refl (λ e. cc)

-- a test at each column that is given
pub not-given : (t : Columns) (f : ℕ → Bool) (P : ℕ → Type 0) → ((i : ℕ) → i < 20 → Decides (not (f i)) (P i)) → Decides (not (J.at_given f t)) (N.SomeGiven t P)
not-given t f P d =
    map (λ x. (x.0, x.1, x.2.0, x.2.1)) (λ x. (x.0, x.1, (x.2, x.3)))
    (not-all _ (λ i. (column_at t i ≢ S.Absent) × P i) 20 (λ i l. not-imp (not (free (column_at t i))) (f i) (dec-not _ (free-decides (column_at t i))) (d i l)))

-- the fault is there, and it is not
abbrev pub yes-fault : Decides true N.Always
yes-fault = from-true refl tt

abbrev pub no-fault : Decides false ⊥
no-fault = from_false refl (λ x. x)

pub not-pin : (x : Slot) → Decides (not (J.is_pin x)) (N.BadPin x)
unfolding J.is_pin
not-pin S.Absent = no-fault
not-pin (S.Int v) = yes-fault
not-pin (S.Bytes p n) = not-le n 32
not-pin (S.List p) = yes-fault
not-pin S.Named = yes-fault

pub not-number : (x : Slot) → Decides (not (J.is_number x)) (N.BadNumber x)
unfolding J.is_number
not-number S.Absent = no-fault
not-number (S.Int v) = no-fault
not-number (S.Bytes p n) = yes-fault
not-number (S.List p) = yes-fault
not-number S.Named = yes-fault

not-two : (v : ℕ) → Decides (not (ltb v 2)) ((v ≢ 0) × (v ≢ 1))
not-two v =
    map (λ (h : v < 2 → ⊥). (λ (z : v ≡ 0). omega arith, λ (z : v ≡ 1). omega arith)) (λ p (l : v < 2). omega (arith, p.0, p.1))
    (dec-not _ (dec-lt v 2))

pub not_flag : (x : Slot) → Decides (not (J.is_flag x)) (N.BadFlag x)
unfolding J.is_flag
not_flag S.Absent = no-fault
not_flag (S.Int v) = not-two v
not_flag (S.Bytes p n) = yes-fault
not_flag (S.List p) = yes-fault
not_flag S.Named = yes-fault

not_set : (x : Option Resets) → Decides (not (J.allowed_set x)) (x ≡ None)
unfolding J.allowed_set
not_set None = from-true refl refl
not_set (Some x) = from_false refl (λ e. cc)

pub not-resets : (s : List ℕ) (x : Slot) → Decides (not (J.is_resets s x)) (N.BadResets s x)
unfolding J.is_resets
not-resets s S.Absent = no-fault
not-resets s (S.Int v) = yes-fault
not-resets s (S.Bytes p n) = yes-fault
not-resets s (S.List p) = not_set (resets_at s p)
not-resets s S.Named = yes-fault

pub not_short : (x : Slot) → Decides (not (leb (J.count_of x) 32)) (N.Over32 x)
unfolding J.count_of
not_short S.Absent = no-fault
not_short (S.Int v) = no-fault
not_short (S.Bytes p n) = not-le n 32
not_short (S.List p) = no-fault
not_short S.Named = no-fault

pub not_known : (w : Who) → Decides (not (J.known w)) (N.Unheard w)
unfolding J.known
not_known W.Unknown = yes-fault
not_known W.Anybody = no-fault
not_known W.Class = no-fault
not_known (W.Row r) = no-fault

-- ---- tests with what they find, put together
abbrev pub Test : Type 0 → Type 0
Test Q = (b : Bool) × Decides (not b) Q

abbrev pub or : {P Q : Type 0} → Test P → Test Q → Test (P ⊎ Q)
or x y = (x.0 && y.0, not-and x.0 y.0 x.1 y.1)

abbrev pub number : (x : Slot) → Test (N.BadNumber x)
number x = (J.is_number x, not-number x)

abbrev pub flag : (x : Slot) → Test (N.BadFlag x)
flag x = (J.is_flag x, not_flag x)

abbrev pub resets : (s : List ℕ) (x : Slot) → Test (N.BadResets s x)
resets s x = (J.is_resets s x, not-resets s x)

-- ---- readers of slots, and the last columns
pub bound-or : (z : ℕ) (x : Slot) → J.bound_of z x ≡ N.or z x
unfolding J.bound_of
bound-or z S.Absent = refl
bound-or z (S.Int v) = refl
bound-or z (S.Bytes p n) = refl
bound-or z (S.List p) = refl
bound-or z S.Named = refl

pub bytes-in : (s : List ℕ) (x : Slot) → part s (J.place_of x) (J.count_of x) ≡ N.bytes_in s x
unfolding J.place_of J.count_of
bytes-in s S.Absent = refl
bytes-in s (S.Int v) = refl
bytes-in s (S.Bytes p n) = refl
bytes-in s (S.List p) = refl
bytes-in s S.Named = refl

pub last-of : (o : Object) → last_column o ≡ last_of o
unfolding last_column
last-of O.PinSid = refl
last-of O.PinMsid = refl
last-of O.TperInfo = refl
last-of O.SpAdmin = refl
last-of O.SpLocking = refl
last-of O.ThisSp = refl
last-of (O.Authority r) = refl
last-of (O.Pin r) = refl
last-of (O.Range k) = refl
last-of O.MbrControl = refl
last-of O.Nothing = refl

pub signs-same : (s : List ℕ) (locking : Bool) (x : Slot) → J.signer s locking x ≡ N.signs s locking x
unfolding J.signer
signs-same s locking S.Absent = refl
signs-same s locking (S.Int v) = refl
signs-same s locking (S.Bytes p n) = refl
signs-same s locking (S.List p) = refl
signs-same s locking S.Named = refl
