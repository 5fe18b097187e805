-- A node says a token that ends at the next node, whose bytes are lent and whose numbers are the tape's.
use Prim.Native.Nat.{ℕ, ◌+◌, ◌*◌, ◌/◌, ◌^◌, ◌≤◌, ◌<◌}
use mathlib.Core.Path.{◌≡◌, refl}
use mathlib.Core.List.{List}
use mathlib.Core.Bool.{Bool, true, false, ◌&&◌, cond}
use lib.ListN.{length, get_or}
use lib.Dec.{eqb, ltb, leb}
use borrow.Author.Tests.{ltb-true, leb-true}
use Rattle.token.specs.declared.Token.{Token}
use Rattle.token.specs.declared.Token.TheVariants as K
use Rattle.token.specs.Bytes.{within}
use Rattle.token.specs.Write.{max_bytes}
use Rattle.token.proofs.Writes.{cond-all}
use Rattle.token.proofs.Round.{range}
use Rattle.value.specs.Value.{int, bytes}
use Rattle.value.specs.Source.{part_of, shape_of, node_at}
use Rattle.tape.specs.Laws.{Below}
use Rattle.tape.proofs.Rows.{Tok, leaf, mark, tok_to}

abbrev pub Node : List ℕ → ℕ → ℕ → Token → Type 0
Node t m q (K.Int v p) = (p ≡ q) × (Below (2 ^ 64) t → v < 2 ^ 64)
Node t m q (K.Bytes a b p) = (p ≡ q) × (a + b ≤ m) × (b < max_bytes)
Node t m q (K.Control c p) = (p ≡ q) × (0xf0 ≤ c) × (c ≤ 0xf3)
Node t m q K.End = Unit {0}
Node t m q K.Broken = Unit {0}

part-node : (t : List ℕ) (m q a b : ℕ) → Node t m q (part_of m q a b)
unfolding part_of
part-node t m q a b = go (ltb b max_bytes) (leb (a + b) m) refl refl
  where
    go : (x y : Bool) → ltb b max_bytes ≡ x → leb (a + b) m ≡ y → Node t m q (cond (x && y) (K.Bytes a b q) K.Broken)
    go true true d e = (refl, leb-true (a + b) m e, ltb-true b max_bytes d)
    go true false d e = tt
    go false y d e = tt

shape-node : (t : List ℕ) (m q k a b : ℕ) → (Below (2 ^ 64) t → a < 2 ^ 64) → Node t m q (shape_of m q k a b)
unfolding shape_of
shape-node t m q k a b h =
    cond-all (Node t m q) (eqb k 1) (K.Int a q) _ (λ e. (refl, h)) λ _.
    cond-all (Node t m q) (eqb k 2) (part_of m q a b) _ (λ e. part-node t m q a b) λ _.
    cond-all (Node t m q) (within 0xf0 0xf3 k) (K.Control k q) K.Broken (λ e. (refl, (range 0xf0 0xf3 k e).0, (range 0xf0 0xf3 k e).1)) (λ e. tt)

pub node-is : (t : List ℕ) (m i : ℕ) → Node t m (i + 1) (node_at t m i)
unfolding node_at
node-is t m i =
    cond-all (Node t m (i + 1)) (ltb i (length t / 3)) _ K.End
    (λ e. shape-node t m (i + 1) (get_or t (i * 3) 0) (get_or t (i * 3 + 1) 0) (get_or t (i * 3 + 2) 0) (λ h. h (i * 3 + 1))) (λ e. tt)

-- a node's token as one of a row
module _ (t : List ℕ) (m i : ℕ) where
  pub node-int : (v q : ℕ) → node_at t m i ≡ K.Int v q → Node t m (i + 1) (K.Int v q)
  node-int v q e = rw e at (node-is t m i)

  pub node-part : (a b q : ℕ) → node_at t m i ≡ K.Bytes a b q → Node t m (i + 1) (K.Bytes a b q)
  node-part a b q e = rw e at (node-is t m i)

  pub node-mark : (c q : ℕ) → node_at t m i ≡ K.Control c q → Node t m (i + 1) (K.Control c q)
  node-mark c q e = rw e at (node-is t m i)

  pub node-next : (x : Tok) (q : ℕ) → node_at t m i ≡ tok_to x q → q ≡ i + 1
  node-next (leaf (int v)) q e = (node-int v q e).0
  node-next (leaf (bytes a b)) q e = (node-part a b q e).0
  node-next (mark c) q e = (node-mark c q e).0
