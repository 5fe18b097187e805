-- A value's bytes in the shortest form, and what a writer of whole values answers and leaves.
use Rattle.std.specs.Prelude.{ℕ, zero, suc, ◌^◌, ◌<◌, List, [], ◌∷◌, ◌++◌, true, length, Result, Err}
use Rattle.token.specs.declared.PutError.{PutError}
use Rattle.token.specs.declared.PutError.TheVariants as P
use Rattle.token.specs.Write.{enc_int, enc_bytes, max_bytes, put_end, put_all}
use Rattle.value.specs.Value.{Value}
use Rattle.value.specs.Read.{Out, ok, bad}
use Rattle.value.specs.Plain.{Atom, int, bytes, Plain, atom, list, named, Plains, none, more, plain_in}

unfoldable pub enc_atom : Atom → List ℕ
enc_atom (int v) = enc_int v
enc_atom (bytes bs) = enc_bytes bs

unfoldable mutual
  pub enc_value : Plain → List ℕ
  enc_value (atom a) = enc_atom a
  enc_value (list vs) = 0xf0 ∷ enc_values vs
  enc_value (named a v) = 0xf2 ∷ (enc_atom a ++ (enc_value v ++ (0xf3 ∷ [])))

  pub enc_values : Plains → List ℕ
  enc_values none = 0xf1 ∷ []
  enc_values (more v vs) = enc_value v ++ enc_values vs

-- the limits of an atom
abbrev pub Small : Atom → Type 0
Small (int v) = v < 2 ^ 64
Small (bytes bs) = length bs < max_bytes

-- the limits of a value whose lists and named values nest to a depth
abbrev mutual
  pub Within : Plain → ℕ → Type 0
  Within (atom a) d = Small a
  Within (list vs) zero = ⊥
  Within (list vs) (suc d) = AllWithin vs d
  Within (named a v) zero = ⊥
  Within (named a v) (suc d) = Small a × Within v d

  pub AllWithin : Plains → ℕ → Type 0
  AllWithin none d = Unit {0}
  AllWithin (more v vs) d = Within v d × AllWithin vs d

-- what the writer answers for the value that a tape with the bytes bs holds, at at in a buffer of n bytes
unfoldable pub wrote_end : List ℕ → ℕ → ℕ → Out Value → Result ℕ PutError
wrote_end bs n at (ok v q) = put_end true n at (enc_value (plain_in bs v))
wrote_end bs n at bad = Err P.Outside

-- and what the buffer d holds then
unfoldable pub wrote_all : List ℕ → List ℕ → ℕ → Out Value → List ℕ
wrote_all bs d at (ok v q) = put_all true d at (enc_value (plain_in bs v))
wrote_all bs d at bad = d
