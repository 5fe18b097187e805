-- Nothing is read as a payload but the row of tokens that it is.
use Prim.Native.Nat.{ℕ}
use mathlib.Core.Path.{◌≡◌, refl, sym}
use mathlib.Core.List.{List}
use mathlib.Core.Bool.{Bool, true, false, cond}
use lib.Dec.{eqb}
use borrow.Author.Tests.{eqb-true}
use Rattle.token.specs.declared.Token.{Token}
use Rattle.token.specs.declared.Token.TheVariants as K
use Rattle.token.specs.Token.{token_at}
use Rattle.value.specs.Value.{Atom, int, bytes}
use Rattle.value.specs.Read.{Out, ok, bad, then, mark_of, atom_is, values_at}
use Rattle.payload.specs.declared.Payload.{Payload}
use Rattle.payload.specs.declared.Payload.TheVariants as P
use Rattle.payload.specs.Payload.{mark_at, atom_at, uid_is, uid_at, int_is, int_at, list_at, status_at, call_at, finish_is, starts_by, is_end, last_of, payload_at}
use Rattle.payload.specs.Exact.{Control, Number, Uid, Listed, Nothing, Then, Says}
use Rattle.payload.proofs.Steps.{list-is}
use Rattle.payload.proofs.Taken.{number_of}

-- what is read, if it is, is such
abbrev Only : {A : Type 0} → (A → ℕ → Type 0) → Out A → Type 0
Only R (ok a q) = R a q
Only R bad = Unit {0}

module _ {A : Type 0} where
  itself : (o : Out A) → Only (λ a q. o ≡ ok a q) o
  itself (ok a q) = refl
  itself bad = tt

  if-so : (R : A → ℕ → Type 0) (t : Bool) (o u : Out A) → (t ≡ true → Only R o) → Only R u → Only R (cond t o u)
  if-so R true o u f g = f refl
  if-so R false o u f g = g

  and_then : {B : Type 0} (R : A → ℕ → Type 0) (S : B → ℕ → Type 0) (o : Out A) (k : A → ℕ → Out B) → Only R o → ((a : A) (q : ℕ) → R a q → Only S (k a q)) → Only S (then o k)
  unfolding then
  and_then R S (ok a q) k h g = g a q h
  and_then R S bad k h g = tt

  weaker : (R S : A → ℕ → Type 0) (o : Out A) → Only R o → ((a : A) (q : ℕ) → R a q → S a q) → Only S o
  weaker R S (ok a q) h g = g a q h
  weaker R S bad h g = tt

module _ (s : List ℕ) where
  -- ---- single tokens
  mark-only : (c p : ℕ) → Only (λ u q. Control s c p q) (mark_at s c p)
  unfolding mark_of
  mark-only c p = go (token_at s p) refl
    where
      go : (t : Token) → token_at s p ≡ t → Only (λ u q. Control s c p q) (mark_of c t)
      go (K.Int v q) e = tt
      go (K.Bytes b n q) e = tt
      go (K.Control k q) e = if-so _ (eqb k c) (ok tt q) bad (λ h. rw (eqb-true k c h) at e) tt
      go K.End e = tt
      go K.Broken e = tt

  -- an atom, and the token that it is
  abbrev Is : Atom → ℕ → ℕ → Type 0
  Is (int v) p q = Number s v p q
  Is (bytes b n) p q = token_at s p ≡ K.Bytes b n q

  atom-only : (p : ℕ) → Only (λ a q. Is a p q) (atom_at s p)
  unfolding atom_is
  atom-only p = go (token_at s p) refl
    where
      go : (t : Token) → token_at s p ≡ t → Only (λ a q. Is a p q) (atom_is t)
      go (K.Int v q) e = e
      go (K.Bytes b n q) e = e
      go (K.Control k q) e = tt
      go K.End e = tt
      go K.Broken e = tt

  int-only : (w p : ℕ) → Only (λ u q. Number s w p q) (int_at s w p)
  unfolding int_is
  int-only w p = and_then (λ a q. Is a p q) _ (atom_at s p) (int_is w) (atom-only p) go
    where
      go : (a : Atom) (q : ℕ) → Is a p q → Only (λ u q. Number s w p q) (int_is w a q)
      go (int v) q e = if-so _ (eqb v w) (ok tt q) bad (λ h. rw (eqb-true v w h) at e) tt
      go (bytes b n) q e = tt

  uid-only : (p : ℕ) → Only (λ v q. Uid s v p q) (uid_at s p)
  unfolding uid_is
  uid-only p = and_then (λ a q. Is a p q) _ (atom_at s p) (uid_is s) (atom-only p) go
    where
      go : (a : Atom) (q : ℕ) → Is a p q → Only (λ v q. Uid s v p q) (uid_is s a q)
      go (int v) q e = tt
      go (bytes b n) q e = if-so (λ v q. Uid s v p q) (eqb n 8) (ok _ q) bad (λ h. let f : token_at s p ≡ K.Bytes b 8 q = rw (eqb-true n 8 h) at e in (b, f, sym (number_of s p b q f))) tt

  -- ---- rows of them
  list-only : (p : ℕ) → Only (λ b q. Control s 0xf0 p b × Listed s b q) (list_at s p)
  list-only p =
      rw (list-is s p)
      (and_then (λ u b. Control s 0xf0 p b) _ (mark_at s 0xf0 p) _ (mark-only 0xf0 p) (λ u b e.
      and_then (λ vs q. values_at s 15 b ≡ ok vs q) _ (values_at s 15 b) (λ vs q. ok b q) (itself (values_at s 15 b)) (λ vs q f.
      (e, (vs, f)))))

  -- the status and what follows it
  abbrev Status : (ℕ → Type 0) → ℕ → Type 0
  Status B = Then (Control s 0xf0) (Then (Number s 0) (Then (Number s 0) (Then (Number s 0) (Then (Control s 0xf1) B))))

  status-only : (B : ℕ → Type 0) (p : ℕ) → Only (λ u q. B q → Status B p) (status_at s p)
  unfolding status_at
  status-only B p =
      and_then (λ u q. Control s 0xf0 p q) _ (mark_at s 0xf0 p) _ (mark-only 0xf0 p) (λ u a h.
      and_then (λ u q. Number s 0 a q) _ (int_at s 0 a) _ (int-only 0 a) (λ u b i.
      and_then (λ u q. Number s 0 b q) _ (int_at s 0 b) _ (int-only 0 b) (λ u c j.
      and_then (λ u q. Number s 0 c q) _ (int_at s 0 c) _ (int-only 0 c) (λ u d k.
      weaker (λ u q. Control s 0xf1 d q) _ (mark_at s 0xf1 d) (mark-only 0xf1 d) (λ u e l x.
      (a, h, (b, i, (c, j, (d, k, (e, l, x))))))))))

  -- ---- the payload from p on, if nothing follows
  module _ (p : ℕ) where
    abbrev Row : Payload → ℕ → Type 0
    Row x q = Nothing s q → Says s x p

    last : (o : Out Payload) → Only Row o → Says s (last_of s o) p
    unfolding last_of is_end
    last (ok x q) h = go (token_at s q) refl
      where
        go : (t : Token) → token_at s q ≡ t → Says s (cond (is_end t) x P.Broken) p
        go (K.Int v r) e = tt
        go (K.Bytes b n r) e = tt
        go (K.Control c r) e = tt
        go K.End e = h e
        go K.Broken e = tt
    last bad h = tt

    call-only : (q : ℕ) → Control s 0xf8 p q → Only Row (call_at s q)
    unfolding call_at
    call-only q z =
        and_then (λ v r. Uid s v q r) Row (uid_at s q) _ (uid-only q) (λ object a h.
        and_then (λ v r. Uid s v a r) Row (uid_at s a) _ (uid-only a) (λ method b i.
        and_then (λ v r. Control s 0xf0 b v × Listed s v r) Row (list_at s b) _ (list-only b) (λ params c j.
        and_then (λ u r. Control s 0xf9 c r) Row (mark_at s 0xf9 c) _ (mark-only 0xf9 c) (λ u d k.
        and_then (λ u r. Nothing s r → Status (Nothing s) d) Row (status_at s d) _ (status-only (Nothing s) d) (λ u e l.
        λ n. (q, z, (a, h, (b, i, (params, (j.0, refl), (c, j.1, (d, k, l n)))))))))))

    finish-only : (q : ℕ) → Control s 0xfc p q → Only Row (then (atom_at s q) finish_is)
    unfolding finish_is
    finish-only q z = and_then (λ a r. Is a q r) Row (atom_at s q) finish_is (atom-only q) go
      where
        go : (a : Atom) (r : ℕ) → Is a q r → Only Row (finish_is a r)
        go (int v) r e =
            if-so Row (eqb v 0) (ok P.Commit r) _ (λ h n. (q, z, (r, rw (eqb-true v 0 h) at e, n)))
            (if-so Row (eqb v 1) (ok P.Abandon r) bad (λ h n. (q, z, (r, rw (eqb-true v 1 h) at e, n))) tt)
        go (bytes b n) r e = tt

    starts-only : (t : Token) → token_at s p ≡ t → Only Row (starts_by s t)
    unfolding starts_by
    starts-only (K.Int v q) e = tt
    starts-only (K.Bytes b n q) e = tt
    starts-only (K.Control c q) e =
        if-so Row (eqb c 0xf8) (call_at s q) _ (λ h. call-only q (rw (eqb-true c 0xf8 h) at e))
        (if-so Row (eqb c 0xfa) (ok P.EndSession q) _ (λ h n. (q, rw (eqb-true c 0xfa h) at e, n))
        (if-so Row (eqb c 0xfb) (then (int_at s 0 q) (λ u r. ok P.Begin r)) _
        (λ h. and_then (λ u r. Number s 0 q r) Row (int_at s 0 q) _ (int-only 0 q) (λ u r i n. (q, rw (eqb-true c 0xfb h) at e, (r, i, n))))
        (if-so Row (eqb c 0xfc) (then (atom_at s q) finish_is) bad (λ h. finish-only q (rw (eqb-true c 0xfc h) at e)) tt)))
    starts-only K.End e = tt
    starts-only K.Broken e = tt

pub only : (s : List ℕ) (p : ℕ) → Says s (payload_at s p) p
only s p = last s p (starts_by s (token_at s p)) (starts-only s p (token_at s p) refl)
