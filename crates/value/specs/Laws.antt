-- What is shown of the reader of values.
use Rattle.std.specs.Prelude.{ℕ, ◌+◌, ◌≤◌, ◌<◌, ◌≡◌, List, ◌∷◌, ◌++◌, length}
use Rattle.token.specs.declared.Token.{Token}
use Rattle.token.specs.declared.Token.TheVariants as K
use Rattle.token.specs.Token.{token_of, token_at}
use Rattle.value.specs.Value.{Atom, int, bytes, Value, atom, list, named, Values, none, more}
use Rattle.value.specs.Read.{Out, ok, bad, then, mark_of, end_or, value_at, values_at}
use Rattle.value.specs.Plain.{plain_in}

-- the bound on the steps never shows: a list is its end, or a value and the rest of the list
abbrev pub ListStep : Type 0
ListStep = (s : List ℕ) (d p : ℕ)
    → values_at s d p ≡ end_or (mark_of 0xf1 (token_at s p)) (then (value_at s d p) (λ v q. then (values_at s d q) (λ vs r. ok (more v vs) r)))

-- all the bytes that a value names lie between p and q
abbrev pub AtomLies : ℕ → ℕ → Atom → Type 0
AtomLies p q (int v) = Unit {0}
AtomLies p q (bytes b n) = (p < b) × (b + n ≤ q)

abbrev mutual
  pub Lies : ℕ → ℕ → Value → Type 0
  Lies p q (atom a) = AtomLies p q a
  Lies p q (list b vs) = (p < b) × (b < q) × AllLie p q vs
  Lies p q (named a v) = AtomLies p q a × Lies p q v

  pub AllLie : ℕ → ℕ → Values → Type 0
  AllLie p q none = Unit {0}
  AllLie p q (more v vs) = Lies p q v × AllLie p q vs

-- a value that is read starts at p, ends past it and within n, and all of it lies between
abbrev pub EndsBy : ℕ → ℕ → Out Value → Type 0
EndsBy p n (ok v q) = (p < q) × (q ≤ n) × Lies p q v
EndsBy p n bad = Unit {0}

-- reading never runs past the input
abbrev pub Inside : Type 0
Inside = (s : List ℕ) (d p : ℕ) → EndsBy p (length s) (value_at s d p)

-- c is one token and nothing more
abbrev pub One : List ℕ → Token → Type 0
One c (K.Int v q) = q ≡ length c
One c (K.Bytes p n q) = q ≡ length c
One c (K.Control k q) = q ≡ length c
One c K.End = ⊥
One c K.Broken = ⊥

-- m is l with empty tokens before or after some of its tokens
pub data Stuffed : List ℕ → List ℕ → Type 0 where
  same : (l : List ℕ) → Stuffed l l
  empty : {l m : List ℕ} → Stuffed l m → Stuffed l (0xff ∷ m)
  token : (c : List ℕ) {l m : List ℕ} → One c (token_of 0 c) → Stuffed l m → Stuffed (c ++ l) (c ++ m)

-- the same contents, or no value in either
abbrev pub Alike : List ℕ → Out Value → List ℕ → Out Value → Type 0
Alike s (ok v q) t (ok w r) = plain_in s v ≡ plain_in t w
Alike s (ok v q) t bad = ⊥
Alike s bad t (ok w r) = ⊥
Alike s bad t bad = Unit {0}

-- skipping empty tokens never changes a value
abbrev pub Skipped : Type 0
Skipped = (s t : List ℕ) (d : ℕ) → Stuffed s t → Alike s (value_at s d 0) t (value_at t d 0)
