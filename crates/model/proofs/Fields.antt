-- The arrays of structs that are fields of a record. What owning such a field tells stands at a map over its list.
use Prim.Native.Nat.{ℕ}
use mathlib.Core.Path.{◌≡◌, sym, ◌∙◌}
use mathlib.Core.List.{List, map}
use lib.ListN.{length, length-map}

-- for `search (needs, mapped)`: how long the field is
pub mapped : (X Y : Type 0) (f : X → Y) (l : List X) (n : ℕ) → length (map f l) ≡ n → length l ≡ n
mapped X Y f l n p = sym (length-map l f) ∙ p
