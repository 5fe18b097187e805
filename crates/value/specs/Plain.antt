-- A value by its contents alone, wherever it stands.
use Rattle.std.specs.Prelude.{ℕ, List, take, drop}
use Rattle.value.specs.Value as At

pub data Atom : Type 0 where
  int : ℕ → Atom
  bytes : List ℕ → Atom

mutual
  pub data Plain : Type 0 where
    atom : Atom → Plain
    list : Plains → Plain
    named : Atom → Plain → Plain

  pub data Plains : Type 0 where
    none : Plains
    more : Plain → Plains → Plains

-- the contents of what stands in s
unfoldable pub atom_in : List ℕ → At.Atom → Atom
atom_in s (At.int v) = int v
atom_in s (At.bytes p n) = bytes (take n (drop p s))

unfoldable mutual
  pub plain_in : List ℕ → At.Value → Plain
  plain_in s (At.atom a) = atom (atom_in s a)
  plain_in s (At.list p vs) = list (plains_in s vs)
  plain_in s (At.named a v) = named (atom_in s a) (plain_in s v)

  pub plains_in : List ℕ → At.Values → Plains
  plains_in s At.none = none
  plains_in s (At.more v vs) = more (plain_in s v) (plains_in s vs)
