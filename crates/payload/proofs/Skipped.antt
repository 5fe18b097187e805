-- Empty tokens between the others change no payload: places that stand before the same tokens read alike.
use Prim.Native.Nat.{ℕ, ◌+◌, ◌≤◌}
use mathlib.Core.Path.{◌≡◌, refl, sym, ap, ◌∙◌}
use mathlib.Core.List.{List}
use mathlib.Core.Bool.{Bool, true, false, cond}
use native.Mathlib.Omega.{arith}
use lib.ListN.{length, take, drop}
use lib.Dec.{eqb, lit≤}
use borrow.Author.Tests.{eqb-true}
use Rattle.token.specs.declared.Token.{Token}
use Rattle.token.specs.Bytes.{be_val, number_at}
use Rattle.token.specs.Token.{token_at}
use Rattle.token.proofs.Numbers.{number-there}
use Rattle.value.specs.Value.{Values}
use Rattle.value.specs.Read.{Out, ok, bad, then, atom_is, values_at}
use Rattle.value.specs.Laws.{AtomLies, Stuffed}
use Rattle.value.proofs.Outs.{Has}
use Rattle.value.proofs.Tokens.{token-held}
use Rattle.value.proofs.Skipped.{Beside, Both, Twins, NoMatter, SameValues}
use Rattle.value.proofs.Skipped as Vs
use Rattle.payload.specs.declared.Payload.{Payload}
use Rattle.payload.specs.declared.Payload.TheVariants as P
use Rattle.payload.specs.Payload.{mark_at, atom_at, uid_is, uid_at, int_is, int_at, list_at, status_at, call_at, finish_is, starts_by, is_end, last_of, payload_at}
use Rattle.payload.specs.Exact.{AlikeLists, Alike, call, other}
use Rattle.payload.proofs.Steps.{list-is}

module _ (s t : List ℕ) where
  abbrev Any : Unit {0} → Unit {0} → Type 0
  Any = NoMatter s t

  module _ {A B : Type 0} (R : A → A → Type 0) (Q : B → B → Type 0) where
    on : (o u : Out A) (k l : A → ℕ → Out B) → Both s t R o u → ((a b : A) (q r : ℕ) → R a b → Beside s t q r → Both s t Q (k a q) (l b r)) → Both s t Q (then o k) (then u l)
    on o u k l x g = Vs.then-both s t R Q o u k l x (λ a b q r e y z. g a b q r y z)

  both_if : {A : Type 0} (R : A → A → Type 0) (x : Bool) (o u o' u' : Out A) → (x ≡ true → Both s t R o u) → Both s t R o' u' → Both s t R (cond x o o') (cond x u u')
  both_if R true o u o' u' f g = f refl
  both_if R false o u o' u' f g = g

  -- ---- single tokens
  mark-both : (c p q : ℕ) → Beside s t p q → Both s t Any (mark_at s c p) (mark_at t c q)
  mark-both c p q b = Vs.mark-both s t c (Vs.token-twins s t p q b)

  int-both : (w p q : ℕ) → Beside s t p q → Both s t Any (int_at s w p) (int_at t w q)
  unfolding atom_is int_is then
  int-both w p q b = go (Vs.token-twins s t p q b)
    where
      go : {x y : Token} → Twins s t x y → Both s t Any (then (atom_is x) (int_is w)) (then (atom_is y) (int_is w))
      go (Twins.int v {q = a} {r = c} z) = both_if Any (eqb v w) (ok tt a) (ok tt c) bad bad (λ e. (tt, z)) tt
      go (Twins.bytes a c n e z) = tt
      go (Twins.control k z) = tt
      go Twins.end = tt
      go Twins.broken = tt

  abbrev SameUid : ℕ → ℕ → Type 0
  SameUid u v = u ≡ v

  same-uid : (a b : ℕ) → take 8 (drop a s) ≡ take 8 (drop b t) → a + 8 ≤ length s → b + 8 ≤ length t → number_at s a 8 ≡ number_at t b 8
  same-uid a b e h k = number-there s a 8 (lit≤ tt) h ∙ ap (be_val 0) e ∙ sym (number-there t b 8 (lit≤ tt) k)

  uid-both : (p q : ℕ) → Beside s t p q → Both s t SameUid (uid_at s p) (uid_at t q)
  unfolding atom_is uid_is then
  uid-both p q b = go (Vs.token-twins s t p q b) (token-held s p) (token-held t q)
    where
      go : {x y : Token} → Twins s t x y → Has AtomLies p (length s) x → Has AtomLies q (length t) y → Both s t SameUid (then (atom_is x) (uid_is s)) (then (atom_is y) (uid_is t))
      go (Twins.int v z) h k = tt
      go (Twins.bytes a c n e z) h k = both_if SameUid (eqb n 8) (ok _ _) (ok _ _) bad bad (λ f. let i = eqb-true n 8 f in (same-uid a c (rw i at e) (omega arith) (omega arith), z)) tt
      go (Twins.control c z) h k = tt
      go Twins.end h k = tt
      go Twins.broken h k = tt

  -- ---- rows of them
  abbrev SameParams : ℕ → ℕ → Type 0
  SameParams a b = AlikeLists s (values_at s 15 a) t (values_at t 15 b)

  same_params : (a b : ℕ) → Beside s t a b → SameParams a b
  same_params a b z = go (values_at s 15 a) (values_at t 15 b) (Vs.list-both s t 15 a b z)
    where
      go : (o u : Out Values) → Both s t (SameValues s t) o u → AlikeLists s o t u
      go (ok vs q) (ok ws r) x = x.0
      go (ok vs q) bad x = x
      go bad (ok ws r) x = x
      go bad bad x = tt

  list-both : (p q : ℕ) → Beside s t p q → Both s t SameParams (list_at s p) (list_at t q)
  list-both p q b =
      rw (list-is s p, list-is t q)
      (on Any SameParams (mark_at s 0xf0 p) (mark_at t 0xf0 q) _ _ (mark-both 0xf0 p q b) (λ u v a c x z.
      on (SameValues s t) SameParams (values_at s 15 a) (values_at t 15 c) (λ vs r. ok a r) (λ vs r. ok c r) (Vs.list-both s t 15 a c z) (λ vs ws e f y w.
      (same_params a c z, w))))

  status-both : (p q : ℕ) → Beside s t p q → Both s t Any (status_at s p) (status_at t q)
  unfolding status_at
  status-both p q b =
      on Any Any (mark_at s 0xf0 p) (mark_at t 0xf0 q) _ _ (mark-both 0xf0 p q b) (λ u v a c x z.
      on Any Any (int_at s 0 a) (int_at t 0 c) _ _ (int-both 0 a c z) (λ u v a c x z.
      on Any Any (int_at s 0 a) (int_at t 0 c) _ _ (int-both 0 a c z) (λ u v a c x z.
      on Any Any (int_at s 0 a) (int_at t 0 c) _ _ (int-both 0 a c z) (λ u v a c x z.
      mark-both 0xf1 a c z))))

  -- ---- the payload
  call-both : (p q : ℕ) → Beside s t p q → Both s t (Alike s t) (call_at s p) (call_at t q)
  unfolding call_at
  call-both p q b =
      on SameUid (Alike s t) (uid_at s p) (uid_at t q) _ _ (uid-both p q b) (λ object object' a c e z.
      on SameUid (Alike s t) (uid_at s a) (uid_at t c) _ _ (uid-both a c z) (λ method method' a c f z.
      on SameParams (Alike s t) (list_at s a) (list_at t c) _ _ (list-both a c z) (λ params params' a c g z.
      on Any (Alike s t) (mark_at s 0xf9 a) (mark_at t 0xf9 c) _ _ (mark-both 0xf9 a c z) (λ u v a c x z.
      on Any (Alike s t) (status_at s a) (status_at t c) _ _ (status-both a c z) (λ u v a c x z.
      (rw (e, f) (call object' method' params params' g), z))))))

  finish-both : (p q : ℕ) → Beside s t p q → Both s t (Alike s t) (then (atom_at s p) finish_is) (then (atom_at t q) finish_is)
  unfolding atom_is finish_is then
  finish-both p q b = go (Vs.token-twins s t p q b)
    where
      go : {x y : Token} → Twins s t x y → Both s t (Alike s t) (then (atom_is x) finish_is) (then (atom_is y) finish_is)
      go (Twins.int v z) =
          both_if (Alike s t) (eqb v 0) (ok P.Commit _) (ok P.Commit _) _ _ (λ e. (other P.Commit tt, z))
          (both_if (Alike s t) (eqb v 1) (ok P.Abandon _) (ok P.Abandon _) bad bad (λ e. (other P.Abandon tt, z)) tt)
      go (Twins.bytes a c n e z) = tt
      go (Twins.control k z) = tt
      go Twins.end = tt
      go Twins.broken = tt

  starts-both : {x y : Token} → Twins s t x y → Both s t (Alike s t) (starts_by s x) (starts_by t y)
  unfolding starts_by
  starts-both (Twins.int v z) = tt
  starts-both (Twins.bytes a b n e z) = tt
  starts-both (Twins.control c {q = q} {r = r} z) =
      both_if (Alike s t) (eqb c 0xf8) (call_at s q) (call_at t r) _ _ (λ e. call-both q r z)
      (both_if (Alike s t) (eqb c 0xfa) (ok P.EndSession q) (ok P.EndSession r) _ _ (λ e. (other P.EndSession tt, z))
      (both_if (Alike s t) (eqb c 0xfb) (then (int_at s 0 q) (λ u a. ok P.Begin a)) (then (int_at t 0 r) (λ u a. ok P.Begin a)) _ _
      (λ e. on Any (Alike s t) (int_at s 0 q) (int_at t 0 r) _ _ (int-both 0 q r z) (λ u v a b x y. (other P.Begin tt, y)))
      (both_if (Alike s t) (eqb c 0xfc) (then (atom_at s q) finish_is) (then (atom_at t r) finish_is) bad bad (λ e. finish-both q r z) tt)))
  starts-both Twins.end = tt
  starts-both Twins.broken = tt

  -- nothing follows in one where nothing follows in the other
  last-alike : (o u : Out Payload) → Both s t (Alike s t) o u → Alike s t (last_of s o) (last_of t u)
  unfolding last_of is_end
  last-alike (ok x q) (ok y r) (a, b) = go (Vs.token-twins s t q r b)
    where
      go : {w z : Token} → Twins s t w z → Alike s t (cond (is_end w) x P.Broken) (cond (is_end z) y P.Broken)
      go (Twins.int v z) = other P.Broken tt
      go (Twins.bytes c d n e z) = other P.Broken tt
      go (Twins.control c z) = other P.Broken tt
      go Twins.end = a
      go Twins.broken = other P.Broken tt
  last-alike (ok x q) bad z = absurd z
  last-alike bad (ok y r) z = absurd z
  last-alike bad bad z = other P.Broken tt

pub skipped : (s t : List ℕ) (p q : ℕ) → Stuffed (drop p s) (drop q t) → Alike s t (payload_at s p) (payload_at t q)
skipped s t p q b = last-alike s t (starts_by s (token_at s p)) (starts_by t (token_at t q)) (starts-both s t (Vs.token-twins s t p q b))
