-- No bytes that are read as a value are fewer than those that are written for it.
use Prim.Native.Nat.{ℕ, ◌+◌, ◌≤◌}
use mathlib.Core.Path.{◌≡◌}
use mathlib.Core.List.{List, [], ◌∷◌}
use native.Mathlib.Omega.{arith}
use lib.ListN.{length, length-append}
use Rattle.token.specs.Token.{token_at}
use Rattle.token.specs.Laws.{Takes, shortest}
use Rattle.token.proofs.Least.{least}
use Rattle.value.specs.Value.{int, bytes, Value}
use Rattle.value.specs.Read.{Out, ok, bad, value_at}
use Rattle.value.specs.Plain.{atom_in}
use Rattle.tape.specs.Write.{enc_atom}
use Rattle.tape.specs.Laws.{Below, NotLonger, Shortest}
use Rattle.tape.proofs.Rows.{Tok, leaf, mark, tok_to, toks, Row}
use Rattle.tape.proofs.Ran.{Holds, Stands, value_row}
use Rattle.tape.proofs.Flat.{flat, flat-none, flat-one, tok_bytes, value-bytes}

-- a token takes at least what is written for it
tok-takes : (s : List ℕ) (p n r : ℕ) (x : Tok) → Takes p (shortest s (tok_to x r)) n (tok_to x r) → p + length (tok_bytes s x) ≤ r
unfolding enc_atom atom_in
tok-takes s p n r (leaf (int v)) h = h.0
tok-takes s p n r (leaf (bytes a b)) h = h.0
tok-takes s p n r (mark c) h = h.0

module _ (s : List ℕ) (b : Below 256 s) where
  tok-least : (p r : ℕ) (x : Tok) → token_at s p ≡ tok_to x r → p + length (tok_bytes s x) ≤ r
  tok-least p r x e = tok-takes s p (length s) r x (rw e at (least s p b))

  row-least : (xs : List Tok) (p q : ℕ) → Row (token_at s) p xs q → p + length (flat (tok_bytes s) xs) ≤ q
  row-least [] p q u = rw (flat-none (tok_bytes s)) (omega arith)
  row-least (x ∷ xs) p q u =
      rw (flat-one (tok_bytes s) x xs, length-append) (omega (arith, tok-least p u.0 x u.1, row-least xs u.0 q u.2))

pub value-least : Shortest
value-least s d p b = go (value_at s d p) (value_row (token_at s) (length s) d p)
  where
    go : (o : Out Value) → Holds (Stands (token_at s) d p) o → NotLonger s p o
    go (ok v q) h = rw (value-bytes s v) (row-least s b (toks v) p q h.0)
    go bad h = tt
