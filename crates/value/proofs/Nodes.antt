-- `part_of`, `shape_of` and `node_at` at what the tests show.
use Prim.Native.Nat.{ℕ, ◌+◌, ◌*◌, ◌/◌, ◌≤◌, ◌<◌}
use mathlib.Core.Path.{◌≡◌}
use mathlib.Core.List.{List}
use lib.ListN.{length, get_or}
use borrow.Author.Tests.{eq-eqb, ne_eqb, lt-ltb, le-leb}
use Rattle.token.specs.declared.Token.TheVariants as K
use Rattle.token.specs.Write.{max_bytes}
use Rattle.token.proofs.Laws.{inside}
use Rattle.value.specs.Source.{part_of, shape_of, node_at}
pub use Rattle.value.specs.Nodes.{node-held}

module _ (m q p count : ℕ) where
  pub part-ok : count < max_bytes → p + count ≤ m → part_of m q p count ≡ K.Bytes p count q
  unfolding part_of
  part-ok h k = simp (lt-ltb count max_bytes h, le-leb (p + count) m k)

module _ (m q k a b : ℕ) where
  pub shape-int : k ≡ 1 → shape_of m q k a b ≡ K.Int a q
  unfolding shape_of
  shape-int h = simp (eq-eqb k 1 h)

  pub shape-part : (k ≡ 1 → ⊥) → k ≡ 2 → shape_of m q k a b ≡ part_of m q a b
  unfolding shape_of
  shape-part g h = simp (ne_eqb k 1 g, eq-eqb k 2 h)

  pub shape-control : (k ≡ 1 → ⊥) → (k ≡ 2 → ⊥) → 0xf0 ≤ k → k ≤ 0xf3 → shape_of m q k a b ≡ K.Control k q
  unfolding shape_of
  shape-control g h i j = simp (ne_eqb k 1 g, ne_eqb k 2 h, inside 0xf0 0xf3 k i j)

module _ (t : List ℕ) (m i : ℕ) where
  pub node_in : i < length t / 3 → node_at t m i ≡ shape_of m (i + 1) (get_or t (i * 3) 0) (get_or t (i * 3 + 1) 0) (get_or t (i * 3 + 2) 0)
  unfolding node_at
  node_in h = simp (lt-ltb i (length t / 3) h)
