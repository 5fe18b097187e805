-- A tape holds tokens too, three words to a node: 1 and an integer; 2, the place and the count of bytes lent beside it; F0, F1, F2 or F3. A further word says nothing.
use Rattle.std.specs.Prelude.{ℕ, ◌+◌, ◌*◌, ◌/◌, List, ◌&&◌, cond, length, get_or, eqb, leb, ltb}
use Rattle.token.specs.declared.Token.{Token}
use Rattle.token.specs.declared.Token.TheVariants as K
use Rattle.token.specs.Bytes.{within}
use Rattle.token.specs.Write.{max_bytes}
use Rattle.value.specs.Value.{Value, Values}
use Rattle.value.specs.Read.{Out, value_by, values_by}

-- count bytes from p on, of m lent
unfoldable pub part_of : ℕ → ℕ → ℕ → ℕ → Token
part_of m q p count = cond (ltb count max_bytes && leb (p + count) m) (K.Bytes p count q) K.Broken

-- the token that three words say, with the next node at q
unfoldable pub shape_of : ℕ → ℕ → ℕ → ℕ → ℕ → Token
shape_of m q k a b =
    cond (eqb k 1) (K.Int a q)
    (cond (eqb k 2) (part_of m q a b)
    (cond (within 0xf0 0xf3 k) (K.Control k q)
    K.Broken))

-- the node with the index i
unfoldable pub node_at : List ℕ → ℕ → ℕ → Token
node_at t m i = cond (ltb i (length t / 3)) (shape_of m (i + 1) (get_or t (i * 3) 0) (get_or t (i * 3 + 1) 0) (get_or t (i * 3 + 2) 0)) K.End

-- the value on a tape, from the node i on
abbrev pub tree_at : List ℕ → List ℕ → ℕ → ℕ → Out Value
tree_at t bs d i = value_by (node_at t (length bs)) (length t / 3) d i

-- the values of a list in any source: tok says the token at a place, and each ends within n
abbrev pub values_from : (ℕ → Token) → ℕ → ℕ → ℕ → Out Values
values_from tok n d p = values_by tok (value_by tok n d) n p
