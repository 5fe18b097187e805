-- What `first`, `take` and `last` leave of a list: one law each, whatever is made of the values.
use Rattle.std.specs.Prelude.{Option, Some, None, is_some}
use Prim.Native.Nat.{ℕ}
use mathlib.Core.Path.{◌≡◌, refl, sym, ◌∙◌}
use mathlib.Core.List.{List}
use mathlib.Core.Bool.{Bool, true, false, cond}
use Rattle.token.specs.Token.{token_at}
use Rattle.value.specs.Value.{int, bytes, Value, atom, list, named, Values, none, more}
use Rattle.value.specs.Read.{Out, ok, bad, then, end_of, mark_of, value_at, values_at}
use Rattle.value.proofs.Inside.{values-step}
use Rattle.value.proofs.Outs.{or_at, or-on}
use Rattle.item.specs.declared.Slot.{Slot}
use Rattle.item.specs.declared.Slot.TheVariants as S
use Rattle.item.specs.Item.{slot_of, item_of, step_at}
use Rattle.item.proofs.Read.{Inner, inside}
use Rattle.item.proofs.Steps.{by-step}
use Rattle.params.specs.declared.Taken.{Taken}
use Rattle.params.specs.Names.{names, inner, optional, beyond, nothing, given}
use Rattle.params.specs.Steps.{taken, first_of, taken_of}

-- what stands inside the first of the values
abbrev pub Opens : List ℕ → ℕ → Values → Type 0
Opens s d none = Unit {0}
Opens s d (more v vs) = (q : ℕ) × Inner s d v q

-- the first of the values is x, and o are left
abbrev pub First : List ℕ → ℕ → Slot → Out Values → Out Values → Type 0
First s d x (ok none q) o = (x ≡ S.Absent) × (o ≡ ok none q)
First s d x (ok (more v vs) q) o = (x ≡ slot_of v) × (o ≡ ok vs q) × Opens s d (more v vs)
First s d x bad o = o ≡ bad

-- the parameter n of the values is x, and o are left
abbrev pub Took : List ℕ → ℕ → ℕ → Slot → Out Values → Out Values → Type 0
Took s d n x (ok vs q) o = (x ≡ optional n vs) × (o ≡ ok (beyond n vs) q) × Opens s d vs
Took s d n x bad o = o ≡ bad

-- ---- `first`
first-item : (p q : ℕ) (v : Value) → first_of p (item_of v q) ≡ taken (slot_of v) q
unfolding first_of item_of slot_of
first-item p q (atom a) = refl
first-item p q (list b vs) = refl
first-item p q (named (int n) v) = refl
first-item p q (named (bytes b n) v) = refl

first_more : (s : List ℕ) (d : ℕ) (v : Value) (o : Out Values) → ((q : ℕ) × Inner s d v q) → First s d (slot_of v) (then o (λ vs r. ok (more v vs) r)) o
unfolding then
first_more s d v (ok vs r) i = (refl, refl, i)
first_more s d v bad i = refl

pub first-at : (s : List ℕ) (d p : ℕ) {t : Taken} → t ≡ first_of p (step_at s d p) → First s d t.slot (values_at s d p) (values_at s d t.next)
unfolding first_of
first-at s d p e = rw e (by-step (λ i. First s d (first_of p i).slot (values_at s d p) (values_at s d (first_of p i).next)) s d p
    (λ q h. rw h (refl, refl))
    (λ v q k f. rw (first-item p q v, f) (first_more s d v (values_at s d q) (q, inside s d p k)))
    (λ h. rw h refl))

-- ---- `take`
take-item : (n p q : ℕ) (v : Value) → taken_of n p (item_of v q) ≡ cond (names n v) (taken (inner v) q) (taken S.Absent p)
unfolding taken_of item_of names inner
take-item n p q (atom a) = refl
take-item n p q (list b vs) = refl
take-item n p q (named (int k) v) = refl
take-item n p q (named (bytes b m) v) = refl

module _ (s : List ℕ) (d n : ℕ) (v : Value) (i : (q : ℕ) × Inner s d v q) where
  took-this : (o : Out Values) → names n v ≡ true → Took s d n (inner v) (then o (λ vs r. ok (more v vs) r)) o
  unfolding then optional beyond
  took-this (ok vs r) e = (rw e, rw e, i)
  took-this bad e = refl

  took-none : (o : Out Values) → names n v ≡ false → Took s d n S.Absent (then o (λ vs r. ok (more v vs) r)) (then o (λ vs r. ok (more v vs) r))
  unfolding then optional beyond
  took-none (ok vs r) e = (rw e, rw e, i)
  took-none bad e = refl

  took_more : (p q : ℕ) (b : Bool) → names n v ≡ b → values_at s d p ≡ then (values_at s d q) (λ vs r. ok (more v vs) r)
      → Took s d n (cond b (taken (inner v) q) (taken S.Absent p)).slot (values_at s d p) (values_at s d (cond b (taken (inner v) q) (taken S.Absent p)).next)
  took_more p q true e f = rw f (took-this (values_at s d q) e)
  took_more p q false e f = rw f (took-none (values_at s d q) e)

pub take_at : (s : List ℕ) (d n p : ℕ) {t : Taken} → t ≡ taken_of n p (step_at s d p) → Took s d n t.slot (values_at s d p) (values_at s d t.next)
unfolding taken_of optional beyond
take_at s d n p e = rw e (by-step (λ i. Took s d n (taken_of n p i).slot (values_at s d p) (values_at s d (taken_of n p i).next)) s d p
    (λ q h. rw h (refl, refl, tt))
    (λ v q k f. rw (take-item n p q v) (took_more s d n v (q, inside s d p k) p q (names n v) refl f))
    (λ h. rw h refl))

-- ---- `last`
then-more : (v : Value) (o : Out Values) → given false nothing (then o (λ vs r. ok (more v vs) r)) ≡ false
unfolding then given nothing
then-more v (ok vs r) = refl
then-more v bad = refl

then-last : (o : Out Value) (k : ℕ → Out Values) → given false nothing (then o (λ v q. then (k q) (λ vs r. ok (more v vs) r))) ≡ false
unfolding then given
then-last (ok v q) k = then-more v (k q)
then-last bad k = refl

pub last-says : (s : List ℕ) (d p : ℕ) (o : Option ℕ) → end_of (mark_of 0xf1 (token_at s p)) ≡ o → given false nothing (values_at s d p) ≡ is_some o
unfolding given nothing
last-says s d p (Some q) e = rw (values-step s d p ∙ or_at (mark_of 0xf1 (token_at s p)) _ q e)
last-says s d p None e = rw (values-step s d p ∙ or-on (mark_of 0xf1 (token_at s p)) _ e) (then-last (value_at s d p) (values_at s d))

-- ---- what is made of the values, one after the other
module _ {A : Type 0} (z : A) where
  -- k of the first value and the others, and z where there is none
  unfoldable pub headed : (Slot → Values → A) → Values → A
  headed k none = z
  headed k (more v vs) = k (slot_of v) vs

  pub given-same : (f g : Values → A) (o : Out Values) → ((vs : Values) → f vs ≡ g vs) → given z f o ≡ given z g o
  unfolding given
  given-same f g (ok vs q) h = h vs
  given-same f g bad h = refl

  pub given-first : (k : Slot → Values → A) (s : List ℕ) (d : ℕ) (x : Slot) (o o' : Out Values) → k S.Absent none ≡ z → First s d x o o' → given z (headed k) o ≡ given z (k x) o'
  unfolding given headed
  given-first k s d x (ok none q) o' h f = rw (f.0, f.1) (sym h)
  given-first k s d x (ok (more v vs) q) o' h f = rw (f.0, f.1)
  given-first k s d x bad o' h f = rw f

  pub given-taken : (k : Slot → Values → A) (s : List ℕ) (d n : ℕ) (x : Slot) (o o' : Out Values) → Took s d n x o o' → given z (λ vs. k (optional n vs) (beyond n vs)) o ≡ given z (k x) o'
  unfolding given
  given-taken k s d n x (ok vs q) o' f = rw (f.0, f.1)
  given-taken k s d n x bad o' f = rw f

  pub given-last : (k : Bool → A) (o : Out Values) (b : Bool) → k false ≡ z → b ≡ given false nothing o → given z (λ vs. k (nothing vs)) o ≡ k b
  unfolding given
  given-last k (ok vs q) b h e = rw e
  given-last k bad b h e = rw e (sym h)
