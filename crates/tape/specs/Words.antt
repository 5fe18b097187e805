-- A value's nodes, and what a reader of whole values answers and leaves.
use Rattle.std.specs.Prelude.{ℕ, ◌+◌, ◌*◌, ◌/◌, List, [], ◌∷◌, ◌++◌, true, cond, length, leb, Result, Ok, Err}
use Rattle.token.specs.Write.{put_all}
use Rattle.value.specs.Value.{Atom, int, bytes, Value, atom, list, named, Values, none, more}
use Rattle.value.specs.Read.{Out, ok, bad}
use Rattle.tape.specs.declared.Took.{Took}
use Rattle.tape.specs.declared.TookError.{TookError}
use Rattle.tape.specs.declared.TookError.TheVariants as T

unfoldable pub atom_words : Atom → List ℕ
atom_words (int v) = 1 ∷ v ∷ 0 ∷ []
atom_words (bytes p n) = 2 ∷ p ∷ n ∷ []

abbrev pub mark_words : ℕ → List ℕ
mark_words c = c ∷ 0 ∷ 0 ∷ []

unfoldable mutual
  pub words : Value → List ℕ
  words (atom a) = atom_words a
  words (list p vs) = mark_words 0xf0 ++ words_all vs
  words (named a v) = mark_words 0xf2 ++ (atom_words a ++ (words v ++ mark_words 0xf3))

  pub words_all : Values → List ℕ
  words_all none = mark_words 0xf1
  words_all (more v vs) = words v ++ words_all vs

-- the node after the value's and the byte after it, where a tape of n words has room from the node i on
unfoldable pub took_end : ℕ → ℕ → Out Value → Result Took TookError
took_end n i (ok v q) = cond (leb (i * 3 + length (words v)) n) (Ok (record { node = i + length (words v) / 3; next = q })) (Err T.Full)
took_end n i bad = Err T.Broken

-- and what the tape t holds then
unfoldable pub took_all : List ℕ → ℕ → Out Value → List ℕ
took_all t i (ok v q) = put_all true t (i * 3) (words v)
took_all t i bad = t
