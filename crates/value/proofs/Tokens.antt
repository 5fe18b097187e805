-- The bytes of a token that is read lie between its start and its end.
use Prim.Native.Nat.{ℕ, ◌≤◌}
use mathlib.Core.List.{List}
use native.Mathlib.Omega.{arith}
use lib.ListN.{length}
use Rattle.token.specs.Token.{token_at}
use Rattle.value.specs.Value.{Atom, int, bytes}
use Rattle.value.specs.Ahead.{Has}
use Rattle.value.specs.Tokens as Any
use Rattle.value.specs.Laws.{AtomLies}

pub atom-wider : {p p' q q' : ℕ} (a : Atom) → p ≤ p' → q' ≤ q → AtomLies p' q' a → AtomLies p q a
atom-wider (int v) h k x = tt
atom-wider (bytes b n) h k x = (omega arith, omega arith)

pub token-held : (s : List ℕ) (p : ℕ) → Has AtomLies p (length s) (token_at s p)
token-held = Any.token-held AtomLies (λ p q v. tt) (λ p q b n h k. (h, k)) (λ p p' q a h x. atom-wider a h (omega arith) x)
