-- Which value stands at a place of a source of tokens: tok says the token at a place.
use Rattle.std.specs.Prelude.{ℕ, zero, suc, List, Option, Some, None, cond, length, eqb}
use Rattle.token.specs.declared.Token.{Token}
use Rattle.token.specs.declared.Token.TheVariants as K
use Rattle.token.specs.Token.{token_at}
use Rattle.value.specs.Value.{Atom, int, bytes, Value, atom, list, named, Values, none, more}

-- what stands at a place and where it ends, or nothing
pub data Out (A : Type 0) : Type 0 where
  ok : A → ℕ → Out A
  bad : Out A

-- go on from where it ends
unfoldable pub then : {A B : Type 0} → Out A → (A → ℕ → Out B) → Out B
then (ok a q) k = k a q
then bad k = bad

-- where it ends
unfoldable pub end_of : {A : Type 0} → Out A → Option ℕ
end_of (ok a q) = Some q
end_of bad = None

-- the control token c
unfoldable pub mark_of : ℕ → Token → Out (Unit {0})
mark_of c (K.Int v q) = bad
mark_of c (K.Bytes p n q) = bad
mark_of c (K.Control k q) = cond (eqb k c) (ok tt q) bad
mark_of c K.End = bad
mark_of c K.Broken = bad

-- an atom
unfoldable pub atom_is : Token → Out Atom
atom_is (K.Int v q) = ok (int v) q
atom_is (K.Bytes p n q) = ok (bytes p n) q
atom_is (K.Control c q) = bad
atom_is K.End = bad
atom_is K.Broken = bad

-- the end of the list, or what else stands there
unfoldable pub end_or : Out (Unit {0}) → Out Values → Out Values
end_or (ok u q) o = ok none q
end_or bad o = o

-- the values from p to F1, each read by f, in at most n steps
unfoldable pub values_by : (ℕ → Token) → (ℕ → Out Value) → ℕ → ℕ → Out Values
values_by tok f zero p = bad
values_by tok f (suc n) p =
    end_or (mark_of 0xf1 (tok p)) (then (f p) (λ v q. then (values_by tok f n q) (λ vs r. ok (more v vs) r)))

-- "A list is F0, values, F1"
unfoldable pub list_by : (ℕ → Token) → (ℕ → Out Value) → ℕ → ℕ → Out Value
list_by tok f n p = then (values_by tok f n p) (λ vs q. ok (list p vs) q)

-- "F2, an atom, a value, F3"
unfoldable pub named_by : (ℕ → Token) → (ℕ → Out Value) → ℕ → Out Value
named_by tok f p =
    then (atom_is (tok p)) (λ a q.
    then (f q) (λ v r.
    then (mark_of 0xf3 (tok r)) (λ u z.
    ok (named a v) z)))

-- what the control token c opens before p, with f for the values inside
unfoldable pub nest_by : (ℕ → Token) → (ℕ → Out Value) → ℕ → ℕ → ℕ → Out Value
nest_by tok f n c p =
    cond (eqb c 0xf0) (list_by tok f n p)
    (cond (eqb c 0xf2) (named_by tok f p)
    bad)

-- by the token that stands there
unfoldable pub value_of : (ℕ → ℕ → Out Value) → Token → Out Value
value_of nest (K.Int v q) = ok (atom (int v)) q
value_of nest (K.Bytes p n q) = ok (atom (bytes p n)) q
value_of nest (K.Control c q) = nest c q
value_of nest K.End = bad
value_of nest K.Broken = bad

-- the value at p, in which lists and named values together nest to a depth, "and deeper is broken"
unfoldable pub value_by : (ℕ → Token) → ℕ → ℕ → ℕ → Out Value
value_by tok n zero p = value_of (λ c q. bad) (tok p)
value_by tok n (suc d) p = value_of (nest_by tok (value_by tok n d) n) (tok p)

-- the same value by the token that opens it
unfoldable pub opened_by : (ℕ → Token) → ℕ → ℕ → Token → Out Value
opened_by tok n zero t = value_of (λ c q. bad) t
opened_by tok n (suc d) t = value_of (nest_by tok (value_by tok n d) n) t

-- in bytes: a list of s has fewer values than s has bytes
abbrev pub value_at : List ℕ → ℕ → ℕ → Out Value
value_at s d p = value_by (token_at s) (length s) d p

abbrev pub values_at : List ℕ → ℕ → ℕ → Out Values
values_at s d p = values_by (token_at s) (value_at s d) (length s) p

abbrev pub opened_in : List ℕ → ℕ → Token → Out Value
opened_in s d t = opened_by (token_at s) (length s) d t
