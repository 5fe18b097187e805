-- A value that is read, by its parts: what its first token shows of it, and what stands inside it.
use Prim.Native.Nat.{ℕ, zero, suc, ◌-◌}
use mathlib.Core.Path.{◌≡◌, refl}
use mathlib.Core.List.{List}
use mathlib.Core.Bool.{Bool, true, false, cond}
use native.Mathlib.Omega.{arith}
use native.Mathlib.Numerals.{sub-one}
use lib.ListN.{length}
use lib.Dec.{eqb}
use borrow.Author.Tests.{eqb-true}
use Rattle.token.specs.declared.Token.{Token}
use Rattle.token.specs.declared.Token.TheVariants as K
use Rattle.token.specs.Token.{token_at}
use Rattle.value.specs.Value.{Atom, int, bytes, Value, atom, list, named, Values}
use Rattle.value.specs.Read.{Out, ok, bad, then, mark_of, atom_is, list_by, named_by, nest_by, value_of, value_by, value_at, values_at}

pub no_ok : {A B : Type 0} {a : A} {q : ℕ} → bad ≡ ok a q → B
no_ok {a = a} {q = q} e = absurd (let z : ◌≡◌ {A = ℕ} 0 1 = cc in omega arith)

-- what went on was there
pub record Went {A B : Type 0} (o : Out A) (k : A → ℕ → Out B) (b : B) (q : ℕ) : Type 0 where
  pub what : A
  pub end : ℕ
  pub there : o ≡ ok what end
  pub on : k what end ≡ ok b q

pub went : {A B : Type 0} (o : Out A) (k : A → ℕ → Out B) {b : B} {q : ℕ} → then o k ≡ ok b q → Went o k b q
unfolding then
went (ok a r) k h = record { what = a; end = r; there = refl; on = h }
went bad k h = no_ok h

-- ---- a named value
pub record Named (tok : ℕ → Token) (f : ℕ → Out Value) (p : ℕ) (v : Value) : Type 0 where
  pub name : Atom
  pub value : Value
  pub mid : ℕ
  pub end : ℕ
  pub first : atom_is (tok p) ≡ ok name mid
  pub second : f mid ≡ ok value end
  pub whole : v ≡ named name value

pub named-is : (tok : ℕ → Token) (f : ℕ → Out Value) (p : ℕ) {v : Value} {q : ℕ} → named_by tok f p ≡ ok v q → Named tok f p v
unfolding named_by
named-is tok f p h =
    let a = went (atom_is (tok p)) _ h in
    let b = went (f a.end) _ a.on in
    let c = went (mark_of 0xf3 (tok b.end)) _ b.on in
    record { name = a.what; value = b.what; mid = a.end; end = b.end; first = a.there; second = b.there; whole = cc }

-- ---- a value that ends at q, by its first token
module _ (s : List ℕ) (d : ℕ) where
  pub data Form : Token → Value → ℕ → Type 0 where
    of-int : (a q : ℕ) → Form (K.Int a q) (atom (int a)) q
    of-bytes : (b n q : ℕ) → Form (K.Bytes b n q) (atom (bytes b n)) q
    of-list : (b q : ℕ) (vs : Values) → values_at s (d - 1) b ≡ ok vs q → Form (K.Control 0xf0 b) (list b vs) q
    of-named : (b q : ℕ) (v : Value) → named_by (token_at s) (value_at s (d - 1)) b ≡ ok v q → Form (K.Control 0xf2 b) v q

same_ok : {A : Type 0} (P : A → ℕ → Type 0) {a b : A} {p q : ℕ} → ok a p ≡ ok b q → P a p → P b q
same_ok P {a} {b} {p} {q} e x =
    let h : a ≡ b = cc in
    let k : p ≡ q = cc in
    rw (← h, ← k) x

form-token : (s : List ℕ) (d : ℕ) (nest : ℕ → ℕ → Out Value) (t : Token) (v : Value) (q : ℕ)
    → ((c r : ℕ) → nest c r ≡ ok v q → Form s d (K.Control c r) v q) → value_of nest t ≡ ok v q → Form s d t v q
unfolding value_of
form-token s d nest (K.Int a r) v q g h = same_ok (Form s d (K.Int a r)) h (of-int a r)
form-token s d nest (K.Bytes b n r) v q g h = same_ok (Form s d (K.Bytes b n r)) h (of-bytes b n r)
form-token s d nest (K.Control c r) v q g h = g c r h
form-token s d nest K.End v q g h = no_ok h
form-token s d nest K.Broken v q g h = no_ok h

form-nest : (s : List ℕ) (d c r : ℕ) (v : Value) (q : ℕ) → nest_by (token_at s) (value_at s d) (length s) c r ≡ ok v q → Form s (suc d) (K.Control c r) v q
unfolding nest_by list_by
form-nest s d c r v q = go (eqb c 0xf0) (eqb c 0xf2) refl refl
  where
    go : (t u : Bool) → eqb c 0xf0 ≡ t → eqb c 0xf2 ≡ u
        → cond t (list_by (token_at s) (value_at s d) (length s) r) (cond u (named_by (token_at s) (value_at s d) r) bad) ≡ ok v q → Form s (suc d) (K.Control c r) v q
    go true u e f h =
        let w = went (values_at s d r) _ h in
        rw (eqb-true c 0xf0 e) (same_ok (Form s (suc d) (K.Control 0xf0 r)) w.on (of-list r w.end w.what (rw (sub-one (suc d)) w.there)))
    go false true e f h = rw (eqb-true c 0xf2 f) (of-named r q v (rw (sub-one (suc d)) h))
    go false false e f h = no_ok h

pub form : (s : List ℕ) (d p : ℕ) {v : Value} {q : ℕ} → value_at s d p ≡ ok v q → Form s d (token_at s p) v q
unfolding value_by
form s zero p {v} {q} h = form-token s 0 (λ c r. bad) (token_at s p) v q (λ c r e. no_ok e) h
form s (suc d) p {v} {q} h = form-token s (suc d) _ (token_at s p) v q (λ c r e. form-nest s d c r v q e) h

-- ---- what stands inside a value that ends at q: the values of a list, and the value that is named
abbrev pub Inner : List ℕ → ℕ → Value → ℕ → Type 0
Inner s d (atom a) q = Unit {0}
Inner s d (list b vs) q = values_at s (d - 1) b ≡ ok vs q
Inner s d (named a v) q = (p r : ℕ) × (value_at s (d - 1) p ≡ ok v r)

form-inner : (s : List ℕ) (d : ℕ) {t : Token} {v : Value} {q : ℕ} → Form s d t v q → Inner s d v q
form-inner s d (of-int a q) = tt
form-inner s d (of-bytes b n q) = tt
form-inner s d (of-list b q vs h) = h
form-inner s d (of-named b q v h) = let n = named-is (token_at s) (value_at s (d - 1)) b h in rw n.whole (n.mid, n.end, n.second)

pub inside : (s : List ℕ) (d p : ℕ) {v : Value} {q : ℕ} → value_at s d p ≡ ok v q → Inner s d v q
inside s d p h = form-inner s d (form s d p h)
