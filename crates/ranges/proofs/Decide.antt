-- How Bools that decide are put together.
use Prim.Native.Nat.{ℕ, zero, suc, ◌≤◌, ◌<◌}
use mathlib.Core.Path.{◌≡◌, refl, sym, ◌∙◌}
use mathlib.Core.Bool.{Bool, true, false, not, ◌&&◌, true≢false}
use mathlib.Core.Logic.{⊎_elim, ◌⊎◌, inl, inr}
use native.Mathlib.Nat.{le_of_suc-le-suc, not-suc-le-zero, eq-or-lt_of_le, lt-suc_self}
use native.Mathlib.Omega.{arith}
use borrow.Author.Tests.{ltb-true, ltb-false, leb-true, leb-false}
use lib.Dec.{leb, ltb}
use Rattle.ranges.specs.Decides.{Decides, imp, all}

pub le-or-lt : (m n : ℕ) → (m ≤ n) ⊎ (n < m)
le-or-lt m n = go (leb m n) refl
  where
    go : (b : Bool) → leb m n ≡ b → (m ≤ n) ⊎ (n < m)
    go true e = inl (leb-true m n e)
    go false e = inr (leb-false m n e)

pub same : {P : Type 0} (a b : Bool) → Decides a P → Decides b P → a ≡ b
same true true x y = refl
same true false x y = absurd (y.fails refl (x.holds refl))
same false true x y = absurd (x.fails refl (y.holds refl))
same false false x y = refl

pub from-true : {P : Type 0} {b : Bool} → b ≡ true → P → Decides b P
from-true e p = record { holds = λ _. p; fails = λ f _. absurd (true≢false (sym e ∙ f)) }

pub from_false : {P : Type 0} {b : Bool} → b ≡ false → (P → ⊥) → Decides b P
from_false e n = record { holds = λ t. absurd (true≢false (sym t ∙ e)); fails = λ _. n }

pub is_true : {P : Type 0} (b : Bool) → Decides b P → P → b ≡ true
is_true b d p = same b true d (from-true refl p)

pub is_false : {P : Type 0} (b : Bool) → Decides b P → (P → ⊥) → b ≡ false
is_false b d n = same b false d (from_false refl n)

pub map : {P Q : Type 0} {b : Bool} → (P → Q) → (Q → P) → Decides b P → Decides b Q
map f g d = record { holds = λ e. f (d.holds e); fails = λ e q. d.fails e (g q) }

pub dec-le : (m n : ℕ) → Decides (leb m n) (m ≤ n)
dec-le m n = record { holds = leb-true m n; fails = λ e h. let l : n < m = leb-false m n e in omega arith }

pub dec-lt : (m n : ℕ) → Decides (ltb m n) (m < n)
dec-lt m n = record { holds = ltb-true m n; fails = λ e h. let l : n ≤ m = ltb-false m n e in omega arith }

pub dec-not : {P : Type 0} (b : Bool) → Decides b P → Decides (not b) (P → ⊥)
dec-not true d = record { holds = λ e. absurd (true≢false (sym e)); fails = λ _ n. n (d.holds refl) }
dec-not false d = record { holds = λ _. d.fails refl; fails = λ e _. absurd (true≢false e) }

pub dec-and : {P Q : Type 0} (a b : Bool) → Decides a P → Decides b Q → Decides (a && b) (P × Q)
dec-and true b x y = record { holds = λ e. (x.holds refl, y.holds e); fails = λ e p. y.fails e p.1 }
dec-and false b x y = record { holds = λ e. absurd (true≢false (sym e)); fails = λ e p. x.fails refl p.0 }

pub dec-nand : (a b : Bool) → Decides (not (a && b)) (a ≡ true → b ≡ true → ⊥)
dec-nand true true = record { holds = λ e. absurd (true≢false (sym e)); fails = λ _ n. n refl refl }
dec-nand true false = record { holds = λ _ _ q. true≢false (sym q); fails = λ e. absurd (true≢false e) }
dec-nand false b = record { holds = λ _ p. absurd (true≢false (sym p)); fails = λ e. absurd (true≢false e) }

pub dec-imp : {P Q : Type 0} (a b : Bool) → Decides a P → Decides b Q → Decides (imp a b) (P → Q)
dec-imp true b x y = record { holds = λ e _. y.holds e; fails = λ e f. y.fails e (f (x.holds refl)) }
dec-imp false b x y = record { holds = λ _ p. absurd (x.fails refl p); fails = λ e _. absurd (true≢false e) }

pub dec-all : (p : ℕ → Bool) (P : ℕ → Type 0) → ((k : ℕ) → Decides (p k) (P k)) → (n : ℕ) → Decides (all p n) ((k : ℕ) → k < n → P k)
unfolding all
dec-all p P d zero = record { holds = λ _ k l. absurd (not-suc-le-zero l); fails = λ e _. absurd (true≢false e) }
dec-all p P d (suc n) =
    map
    (λ h k l. ⊎_elim (λ e. rw e h.0) (λ m. h.1 k m) (eq-or-lt_of_le (le_of_suc-le-suc l)))
    (λ f. (f n (lt-suc_self n), (λ k l. f k (omega arith))))
    (dec-and (p n) (all p n) (d n) (dec-all p P d n))
