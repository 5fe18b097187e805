-- A node of a tape ends at the next one, and within the tape.
use Prim.Native.Nat.{ℕ, ◌+◌, ◌*◌, ◌/◌, ◌<◌}
use mathlib.Core.Path.{◌≡◌, refl}
use mathlib.Core.List.{List}
use mathlib.Core.Bool.{Bool, true, false, ◌&&◌, cond}
use native.Mathlib.Omega.{arith}
use lib.ListN.{length, get_or}
use lib.Dec.{eqb, ltb, leb}
use borrow.Author.Tests.{ltb-true}
use Rattle.token.specs.declared.Token.{Token}
use Rattle.token.specs.declared.Token.TheVariants as K
use Rattle.token.specs.Bytes.{within}
use Rattle.token.specs.Write.{max_bytes}
use Rattle.value.specs.Ahead.{Any, Has}
use Rattle.value.specs.Source.{part_of, shape_of, node_at}

by_cases : (P : Token → Type 0) (b : Bool) (x y : Token) → (b ≡ true → P x) → P y → P (cond b x y)
by_cases P true x y f g = f refl
by_cases P false x y f g = g

part_held : (m i n a b : ℕ) → i < n → Has Any i n (part_of m (i + 1) a b)
unfolding part_of
part_held m i n a b h = by_cases (Has Any i n) (ltb b max_bytes && leb (a + b) m) (K.Bytes a b (i + 1)) K.Broken (λ e. (omega arith, omega arith, tt)) tt

shape-held : (m i n k a b : ℕ) → i < n → Has Any i n (shape_of m (i + 1) k a b)
unfolding shape_of
shape-held m i n k a b h =
    by_cases (Has Any i n) (eqb k 1) (K.Int a (i + 1)) _ (λ e. (omega arith, omega arith, tt))
    (by_cases (Has Any i n) (eqb k 2) (part_of m (i + 1) a b) _ (λ e. part_held m i n a b h)
    (by_cases (Has Any i n) (within 0xf0 0xf3 k) (K.Control k (i + 1)) K.Broken (λ e. (omega arith, omega arith)) tt))

pub node-held : (t : List ℕ) (m i : ℕ) → Has Any i (length t / 3) (node_at t m i)
unfolding node_at
node-held t m i =
    by_cases (Has Any i (length t / 3)) (ltb i (length t / 3)) _ K.End
    (λ e. shape-held m i (length t / 3) (get_or t (i * 3) 0) (get_or t (i * 3 + 1) 0) (get_or t (i * 3 + 2) 0) (ltb-true i (length t / 3) e))
    tt
