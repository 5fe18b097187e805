-- What the tests of `flat`, `named` and `step` show.
use Prim.Native.Nat.{ℕ, ◌-◌}
use mathlib.Core.Path.{◌≡◌, refl, sym, ap, ◌∙◌}
use mathlib.Core.List.{List}
use native.Mathlib.Omega.{arith}
use Rattle.std.specs.Prelude.{Some, None}
use Rattle.token.specs.declared.Token.{Token}
use Rattle.token.specs.declared.Token.TheVariants as K
use Rattle.token.specs.Token.{token_at}
use Rattle.value.specs.Value.{Atom, int, bytes, Value, named}
use Rattle.value.specs.Read.{Out, ok, bad, end_of, mark_of, atom_is, named_by, value_at}
use Rattle.item.specs.declared.Slot.{Slot}
use Rattle.item.specs.declared.Slot.TheVariants as S
use Rattle.item.specs.declared.Item.{Item}
use Rattle.item.specs.declared.Item.TheVariants as I
use Rattle.item.specs.Item.{slot_of, item_of, step_of}
use Rattle.item.specs.Face.{face_of}
use Rattle.item.proofs.Read.{no_ok, named-is, Form, of-int, of-bytes, of-list, of-named, form}

no_end : {A : Type 0} {q : ℕ} → Some q ≡ None → A
no_end {q = q} e = absurd (let z : ◌≡◌ {A = ℕ} 0 1 = cc in omega arith)

-- ---- a value by its first token
form-face : (s : List ℕ) (d : ℕ) {t : Token} {v : Value} {q : ℕ} → Form s d t v q → face_of t ≡ slot_of v
unfolding face_of slot_of
form-face s d (of-int a q) = refl
form-face s d (of-bytes b n q) = refl
form-face s d (of-list b q vs h) = refl
form-face s d (of-named b q v h) = let n = named-is (token_at s) (value_at s (d - 1)) b h in rw n.whole

face-is : (s : List ℕ) (d p q : ℕ) (x : Slot) (v : Value) {t : Token} → t ≡ token_at s p → x ≡ face_of t → value_at s d p ≡ ok v q → x ≡ slot_of v
face-is s d p q x v e h k = h ∙ rw (← e) at (form-face s d (form s d p k))

-- ---- `named`
other_name : (q : ℕ) (x : Value) (t : Token) (a : Atom) (r : ℕ) → ((n r : ℕ) → t ≡ K.Int n r → ⊥) → atom_is t ≡ ok a r → I.Plain S.Named q ≡ item_of (named a x) q
unfolding atom_is item_of slot_of
other_name q x (K.Int n m) a r g h = absurd (g n m refl)
other_name q x (K.Bytes b n m) a r g h = let e : a ≡ bytes b n = cc in rw e
other_name q x (K.Control c m) a r g h = no_ok h
other_name q x K.End a r g h = no_ok h
other_name q x K.Broken a r g h = no_ok h

module _ (s : List ℕ) (p q : ℕ) {t : Token} (e : t ≡ token_at s p) where
  pub named-int : (n r : ℕ) (x : Slot) {u : Token} → t ≡ K.Int n r → u ≡ token_at s r → x ≡ face_of u
      → (d : ℕ) (v : Value) → named_by (token_at s) (value_at s d) p ≡ ok v q → I.Named n x q ≡ item_of v q
  unfolding item_of atom_is
  named-int n r x h f g d v k =
      let w = named-is (token_at s) (value_at s d) p k in
      let a : ok (int n) r ≡ ok w.name w.mid = rw (sym e ∙ h) at w.first in
      let i : w.name ≡ int n = cc in
      let j : w.mid ≡ r = cc in
      rw (w.whole, i) (ap (λ (y : Slot). I.Named n y q) (face-is s d r w.end x w.value f g (rw j at w.second)))

  pub named_other : ((n r : ℕ) → t ≡ K.Int n r → ⊥) → (d : ℕ) (v : Value) → named_by (token_at s) (value_at s d) p ≡ ok v q → I.Plain S.Named q ≡ item_of v q
  named_other g d v k = let w = named-is (token_at s) (value_at s d) p k in rw w.whole (other_name q w.value t w.name w.mid g (rw (← e) at w.first))

-- ---- `step`
pub step-shut : (m : Out (Unit {0})) (o : Out Value) (q : ℕ) → end_of m ≡ Some q → step_of m o ≡ I.Shut q
unfolding end_of step_of
step-shut (ok u r) o q h = let e : r ≡ q = cc in rw e
step-shut bad o q h = no_end (sym h)

pub step-bad : (m : Out (Unit {0})) (o : Out Value) → end_of m ≡ None → end_of o ≡ None → step_of m o ≡ I.Broken
unfolding end_of step_of
step-bad (ok u r) o h k = no_end h
step-bad bad (ok v r) h k = no_end k
step-bad bad bad h k = refl

pub step-one : (m : Out (Unit {0})) (o : Out Value) (q : ℕ) (i : Item) → end_of m ≡ None → end_of o ≡ Some q
    → ((v : Value) → o ≡ ok v q → i ≡ item_of v q) → i ≡ step_of m o
unfolding end_of step_of
step-one (ok u r) o q i h k f = no_end h
step-one bad (ok v r) q i h k f = let e : r ≡ q = cc in rw e (f v (rw e))
step-one bad bad q i h k f = no_end (sym k)

form-named : (s : List ℕ) (d b : ℕ) {t : Token} {v : Value} {q : ℕ} → Form s d t v q → end_of (mark_of 0xf2 t) ≡ Some b → named_by (token_at s) (value_at s (d - 1)) b ≡ ok v q
unfolding mark_of end_of
form-named s d b (of-int a q) e = no_end (sym e)
form-named s d b (of-bytes c n q) e = no_end (sym e)
form-named s d b (of-list c q vs h) e = no_end (sym e)
form-named s d b (of-named c q v h) e = let k : c ≡ b = cc in rw (← k) h

pub step-named : (s : List ℕ) (d p b q : ℕ) (v : Value) → end_of (mark_of 0xf2 (token_at s p)) ≡ Some b → value_at s d p ≡ ok v q → named_by (token_at s) (value_at s (d - 1)) b ≡ ok v q
step-named s d p b q v e h = form-named s d b (form s d p h) e

form-plain : (s : List ℕ) (d : ℕ) {t : Token} {v : Value} {q : ℕ} → Form s d t v q → end_of (mark_of 0xf2 t) ≡ None → I.Plain (slot_of v) q ≡ item_of v q
unfolding mark_of end_of item_of
form-plain s d (of-int a q) e = refl
form-plain s d (of-bytes b n q) e = refl
form-plain s d (of-list b q vs h) e = refl
form-plain s d (of-named b q v h) e = no_end e

pub step-plain : (s : List ℕ) (d p q : ℕ) (x : Slot) (v : Value) {t : Token} → t ≡ token_at s p → x ≡ face_of t
    → end_of (mark_of 0xf2 (token_at s p)) ≡ None → value_at s d p ≡ ok v q → I.Plain x q ≡ item_of v q
step-plain s d p q x v e f m h = rw (face-is s d p q x v e f h) (form-plain s d (form s d p h) m)
