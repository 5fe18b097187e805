-- What is read and where it ends: laws on the combinators of `Read`.
use Prim.Native.Nat.{ℕ, ◌≤◌, ◌<◌}
use mathlib.Core.Path.{◌≡◌, refl, sym, ap, ◌∙◌}
use mathlib.Core.Bool.{Bool, true, false, cond}
use native.Mathlib.Omega.{arith}
use lib.Dec.{eqb}
use borrow.Author.Tests.{eqb-true}
use Rattle.token.specs.declared.Token.{Token}
use Rattle.token.specs.declared.Token.TheVariants as K
use Rattle.std.specs.Prelude.{Option, Some, None}
use Rattle.value.specs.Value.{Atom, Values, none}
pub use Rattle.value.specs.Ahead.{Any, Has, has-any}
use Rattle.value.specs.Read.{Out, ok, bad, then, end_of, mark_of, atom_is, end_or}

no_end : {A : Type 0} {q : ℕ} → Some q ≡ None → A
no_end {q = q} e = absurd (let z : ◌≡◌ {A = ℕ} 0 1 = cc in omega arith)

same_end : {p q : ℕ} → Some p ≡ Some q → p ≡ q
same_end e = cc

no_ok : {A B : Type 0} {a : A} {q : ℕ} → bad ≡ ok a q → B
no_ok {a = a} {q = q} e = absurd (let z : ◌≡◌ {A = ℕ} 0 1 = cc in omega arith)

same_ok : {A : Type 0} {a b : A} {q r : ℕ} → ok a q ≡ ok b r → q ≡ r
same_ok e = cc

-- ---- from where it ends to what it is, and back
pub end-at : {A : Type 0} (a : A) (q : ℕ) → end_of (ok a q) ≡ Some q
unfolding end_of
end-at a q = refl

pub end-bad : (A : Type 0) → end_of {A = A} bad ≡ None
unfolding end_of
end-bad A = refl

pub end_is : {A : Type 0} (o : Out A) (q : ℕ) → end_of o ≡ Some q → (a : A) × (o ≡ ok a q)
unfolding end_of
end_is (ok a r) q e = (a, ap (ok a) (same_end e))
end_is bad q e = no_end (sym e)

pub end-not : {A : Type 0} (o : Out A) → end_of o ≡ None → o ≡ bad
unfolding end_of
end-not (ok a q) e = no_end e
end-not bad e = refl

-- what is read, if it is, ends past p and not past n, and P says more of it
abbrev pub Ends : {A : Type 0} → (ℕ → ℕ → A → Type 0) → ℕ → ℕ → Out A → Type 0
Ends P p n (ok a q) = (p < q) × (q ≤ n) × P p q a
Ends P p n bad = Unit {0}

pub mark-ends : (P : ℕ → ℕ → Atom → Type 0) (c p n : ℕ) (t : Token) → Has P p n t → Ends Any p n (mark_of c t)
unfolding mark_of
mark-ends P c p n (K.Int v q) h = tt
mark-ends P c p n (K.Bytes b m q) h = tt
mark-ends P c p n (K.Control k q) h = go (eqb k c) tt
  where
    go : (t : Bool) (u : Unit {0}) → Ends Any p n (cond t (ok u q) bad)
    go true u = (h.0, h.1, tt)
    go false u = tt
mark-ends P c p n K.End h = tt
mark-ends P c p n K.Broken h = tt

pub atom-ends : (P : ℕ → ℕ → Atom → Type 0) (p n : ℕ) (t : Token) → Has P p n t → Ends P p n (atom_is t)
unfolding atom_is
atom-ends P p n (K.Int v q) h = h
atom-ends P p n (K.Bytes b m q) h = h
atom-ends P p n (K.Control k q) h = tt
atom-ends P p n K.End h = tt
atom-ends P p n K.Broken h = tt

module _ {A B : Type 0} where
  -- what is read from q on and then goes on, seen from p
  pub then-ends : (P : ℕ → ℕ → A → Type 0) (Q : ℕ → ℕ → B → Type 0) (p q n : ℕ) (o : Out A) (k : A → ℕ → Out B) → Ends P q n o
      → ((a : A) (r : ℕ) → q < r → r ≤ n → P q r a → Ends Q p n (k a r)) → Ends Q p n (then o k)
  unfolding then
  then-ends P Q p q n (ok a r) k h g = g a r h.0 h.1 h.2
  then-ends P Q p q n bad k h g = tt

  -- two ways to go on that agree further on
  pub then-agree : (p n : ℕ) (o : Out A) (k l : A → ℕ → Out B) → Ends Any p n o → ((a : A) (q : ℕ) → p < q → k a q ≡ l a q) → then o k ≡ then o l
  unfolding then
  then-agree p n (ok a q) k l h g = g a q h.0
  then-agree p n bad k l h g = refl

  -- past the end there is nothing
  pub then-past : (p n : ℕ) (o : Out A) (k : A → ℕ → Out B) → Ends Any p n o → n ≤ p → then o k ≡ bad
  unfolding then
  then-past p n (ok a q) k h g = absurd (omega arith)
  then-past p n bad k h g = refl

  pub then-bad : (o : Out A) (k : A → ℕ → Out B) → end_of o ≡ None → then o k ≡ bad
  unfolding then end_of
  then-bad (ok a q) k e = no_end e
  then-bad bad k e = refl

  pub then_is : (o : Out A) (k : A → ℕ → Out B) (a : A) (q : ℕ) → o ≡ ok a q → then o k ≡ k a q
  unfolding then
  then_is o k a q e = rw e

  -- what goes on ends where it does, whatever was read
  pub then_at : (o : Out A) (k : A → ℕ → Out B) (q : ℕ) (e : Option ℕ) → end_of o ≡ Some q → ((a : A) → end_of (k a q) ≡ e) → end_of (then o k) ≡ e
  unfolding then end_of
  then_at (ok a r) k q e h g = rw (same_end h) (g a)
  then_at bad k q e h g = no_end (sym h)

  -- what is made of it ends where it ends
  pub then-made : (o : Out A) (m : A → B) → end_of (then o (λ a q. ok (m a) q)) ≡ end_of o
  unfolding then end_of
  then-made (ok a q) m = refl
  then-made bad m = refl

  -- what holds of nothing, and of all that it can go on to, holds of it
  pub then_by : (Q : Out B → Type 0) (o : Out A) (k : A → ℕ → Out B) → Q bad → ((a : A) (q : ℕ) → o ≡ ok a q → Q (k a q)) → Q (then o k)
  unfolding then
  then_by Q (ok a q) k z g = g a q refl
  then_by Q bad k z g = z

pub or-ends : (P : ℕ → ℕ → Values → Type 0) (p n : ℕ) (m : Out (Unit {0})) (o : Out Values) → ((q : ℕ) → P p q none) → Ends Any p n m → Ends P p n o → Ends P p n (end_or m o)
unfolding end_or
or-ends P p n (ok u q) o z h g = (h.0, h.1, z q)
or-ends P p n bad o z h g = g

pub or-past : (p n : ℕ) (m : Out (Unit {0})) (o : Out Values) → Ends Any p n m → n ≤ p → end_or m o ≡ o
unfolding end_or
or-past p n (ok u q) o h g = absurd (omega arith)
or-past p n bad o h g = refl

pub or_at : (m : Out (Unit {0})) (o : Out Values) (q : ℕ) → end_of m ≡ Some q → end_or m o ≡ ok none q
unfolding end_or end_of
or_at (ok u r) o q e = ap (ok none) (same_end e)
or_at bad o q e = no_end (sym e)

pub or-on : (m : Out (Unit {0})) (o : Out Values) → end_of m ≡ None → end_or m o ≡ o
unfolding end_or end_of
or-on (ok u r) o e = no_end e
or-on bad o e = refl

pub mark-token : (c : ℕ) (t : Token) (u : Unit {0}) (q : ℕ) → mark_of c t ≡ ok u q → t ≡ K.Control c q
unfolding mark_of
mark-token c (K.Int v r) u q e = no_ok e
mark-token c (K.Bytes b n r) u q e = no_ok e
mark-token c (K.Control k r) u q e = go (eqb k c) refl tt e
  where
    go : (b : Bool) → eqb k c ≡ b → (w : Unit {0}) → cond b (ok w r) bad ≡ ok u q → K.Control k r ≡ K.Control c q
    go true h w f = let i = eqb-true k c h in let j = same_ok f in cc
    go false h w f = no_ok f
mark-token c K.End u q e = no_ok e
mark-token c K.Broken u q e = no_ok e

-- from what calls answer to what the definitions say
pub marked : (c : ℕ) {t u : Token} {e d : Option ℕ} → u ≡ t → e ≡ end_of (mark_of c u) → e ≡ d → end_of (mark_of c t) ≡ d
marked c h k i = ap (λ (x : Token). end_of (mark_of c x)) (sym h) ∙ sym k ∙ i

pub called : {t u : Token} {e d : Option ℕ} → u ≡ t → e ≡ end_of (atom_is u) → e ≡ d → end_of (atom_is t) ≡ d
called h k i = ap (λ (x : Token). end_of (atom_is x)) (sym h) ∙ sym k ∙ i

pub at_ahead : {A : Type 0} (p n q : ℕ) (o : Out A) → Ends Any p n o → end_of o ≡ Some q → (p < q) × (q ≤ n)
unfolding end_of
at_ahead p n q (ok a r) h e = rw (← same_end e) (h.0, h.1)
at_ahead p n q bad h e = no_end (sym e)
