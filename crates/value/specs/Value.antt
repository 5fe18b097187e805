-- "A value is an atom, a list or a named value", each where it stands: bytes by their place and count, a list by the place of its first value.
use Rattle.std.specs.Prelude.{ℕ}

pub data Atom : Type 0 where
  int : ℕ → Atom
  bytes : ℕ → ℕ → Atom

mutual
  pub data Value : Type 0 where
    atom : Atom → Value
    list : ℕ → Values → Value
    named : Atom → Value → Value

  pub data Values : Type 0 where
    none : Values
    more : Value → Values → Values
