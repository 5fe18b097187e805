-- One token at a time: what the writer puts for it, what the reader lays for it, and where the next one stands.
use Rattle.std.specs.Prelude.{ℕ, List, [], ◌∷◌, take, drop}
use Rattle.token.specs.declared.Token.{Token}
use Rattle.token.specs.declared.Token.TheVariants as K
use Rattle.token.specs.Write.{enc_int, enc_bytes}
use Rattle.value.specs.Value.{Value, int, bytes}
use Rattle.value.specs.Read.{Out, ok, bad}
use Rattle.value.specs.Plain.{plain_in}
use Rattle.tape.specs.Write.{enc_value}
use Rattle.tape.specs.Words.{atom_words, mark_words, words}

unfoldable pub enc_token : List ℕ → Token → List ℕ
enc_token bs (K.Int v q) = enc_int v
enc_token bs (K.Bytes p n q) = enc_bytes (take n (drop p bs))
enc_token bs (K.Control c q) = c ∷ []
enc_token bs K.End = []
enc_token bs K.Broken = []

unfoldable pub token_words : Token → List ℕ
token_words (K.Int v q) = atom_words (int v)
token_words (K.Bytes p n q) = atom_words (bytes p n)
token_words (K.Control c q) = mark_words c
token_words K.End = mark_words 0
token_words K.Broken = mark_words 0

-- the next token after t; none after the end z
unfoldable pub next_of : ℕ → Token → ℕ
next_of z (K.Int v q) = q
next_of z (K.Bytes p n q) = q
next_of z (K.Control c q) = q
next_of z K.End = z
next_of z K.Broken = z

-- all the bytes of a value whose byte strings are in bs, and all its words
unfoldable pub bytes_in : List ℕ → Out Value → List ℕ
bytes_in bs (ok v q) = enc_value (plain_in bs v)
bytes_in bs bad = []

unfoldable pub words_in : Out Value → List ℕ
words_in (ok v q) = words v
words_in bad = []
