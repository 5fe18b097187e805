-- A value that is read from bytes ends past its start and within them, and all its places lie between; a list is the end or a value and the rest.
use Prim.Native.Nat.{ℕ, ◌≤◌}
use mathlib.Core.Path.{◌≡◌}
use mathlib.Core.List.{List}
use native.Mathlib.Omega.{arith}
use lib.ListN.{length}
use Rattle.token.specs.Token.{token_at}
use Rattle.std.specs.Prelude.{Some, None}
use Rattle.value.specs.Value.{Value, atom, list, named, Values, none, more}
use Rattle.value.specs.Read.{Out, ok, bad, then, end_of, mark_of, end_or, value_at, values_at}
use Rattle.value.specs.Laws.{AtomLies, Lies, AllLie, EndsBy}
use Rattle.value.proofs.Outs.{Ends, Any, Has, has-any}
use Rattle.value.proofs.Tokens.{atom-wider, token-held}
use Rattle.value.proofs.Held.{Claim, value-holds, value-ends}
use Rattle.value.proofs.Values as By

mutual
  value-wider : {p p' q q' : ℕ} (v : Value) → p ≤ p' → q' ≤ q → Lies p' q' v → Lies p q v
  value-wider (atom a) h k x = atom-wider a h k x
  value-wider (list b vs) h k x = (omega arith, omega arith, values-wider vs h k x.2)
  value-wider (named a v) h k x = (atom-wider a h k x.0, value-wider v h k x.1)

  values-wider : {p p' q q' : ℕ} (vs : Values) → p ≤ p' → q' ≤ q → AllLie p' q' vs → AllLie p q vs
  values-wider none h k x = tt
  values-wider (more v vs) h k x = (value-wider v h k x.0, values-wider vs h k x.1)

places : Claim AtomLies Lies AllLie
places = record {
  of-atom = atom-wider;
  of-value = value-wider;
  of_values = values-wider;
  at-atom = λ a x. x;
  at-list = λ b vs h k x. (h, k, x);
  at_named = λ a v x y. (x, y);
  at_none = tt;
  at_more = λ v vs x y. (x, y);
}

pub token-ends : (s : List ℕ) (p : ℕ) → Has Any p (length s) (token_at s p)
token-ends s p = has-any AtomLies p (length s) (token_at s p) (token-held s p)

-- ---- in bytes
module _ (s : List ℕ) (d : ℕ) where
  pub value-inside : (p : ℕ) → EndsBy p (length s) (value_at s d p)
  value-inside p = go (value_at s d p) (value-holds AtomLies Lies AllLie places (token_at s) (length s) (token-held s) (length s) d p)
    where
      go : (o : Out Value) → Ends Lies p (length s) o → EndsBy p (length s) o
      go (ok v q) h = h
      go bad h = h

  ends : (p : ℕ) → Ends Any p (length s) (value_at s d p)
  ends = value-ends (token_at s) (length s) (token-ends s) (length s) d

  pub values-step : (p : ℕ) → values_at s d p ≡ end_or (mark_of 0xf1 (token_at s p)) (then (value_at s d p) (λ v q. then (values_at s d q) (λ vs r. ok (more v vs) r)))
  values-step = By.values-step (token_at s) (length s) (token-ends s) (value_at s d) ends

  -- the three cases of it
  pub values-shut : (p q : ℕ) → end_of (mark_of 0xf1 (token_at s p)) ≡ Some q → values_at s d p ≡ ok none q
  values-shut = By.values-shut (token_at s) (length s) (token-ends s) (value_at s d) ends

  pub values-broken : (p : ℕ) → end_of (mark_of 0xf1 (token_at s p)) ≡ None → end_of (value_at s d p) ≡ None → values_at s d p ≡ bad
  values-broken = By.values-broken (token_at s) (length s) (token-ends s) (value_at s d) ends

  pub values-more : (p q : ℕ) (v : Value) → end_of (mark_of 0xf1 (token_at s p)) ≡ None → value_at s d p ≡ ok v q → values_at s d p ≡ then (values_at s d q) (λ vs r. ok (more v vs) r)
  values-more = By.values-more (token_at s) (length s) (token-ends s) (value_at s d) ends
