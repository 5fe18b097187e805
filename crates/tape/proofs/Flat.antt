-- A value's bytes and its words, from its tokens one behind another.
use Rattle.std.specs.Prelude.{Ok, Err, Some, None}
use Prim.Native.Nat.{ℕ, ◌+◌, ◌*◌, ◌/◌}
use mathlib.Core.Path.{◌≡◌, refl, sym, ap, ◌∙◌}
use mathlib.Core.List.{List, [], ◌∷◌, ◌++◌, append_assoc, append-nil}
use mathlib.Core.Bool.{true, cond}
use native.Mathlib.Omega.{arith}
use lib.ListN.{length, length-append}
use lib.Dec.{leb}
use Rattle.token.specs.declared.Token.{Token}
use Rattle.token.specs.Write.{put_end, put_all}
use Rattle.value.specs.Value.{int, bytes, Value, atom, list, named, Values, none, more}
use Rattle.value.specs.Read.{Out, ok, bad, end_of}
use Rattle.value.specs.Plain.{atom_in, plain_in, plains_in}
use Rattle.tape.specs.declared.TookError.TheVariants as T
use Rattle.tape.specs.Write.{enc_atom, enc_value, enc_values, wrote_end, wrote_all}
use Rattle.tape.specs.Words.{atom_words, mark_words, words, words_all, took_end, took_all}
use Rattle.tape.specs.Steps.{enc_token, token_words, next_of, bytes_in, words_in}
use Rattle.tape.proofs.Rows.{Tok, leaf, mark, tok_to, toks, toks_all, Row}
use Rattle.tape.proofs.Ran.{Holds, Stands}

unfoldable pub flat : (Tok → List ℕ) → List Tok → List ℕ
flat f [] = []
flat f (x ∷ xs) = f x ++ flat f xs

module _ (f : Tok → List ℕ) where
  pub flat-none : flat f [] ≡ []
  unfolding flat
  flat-none = refl

  pub flat-one : (x : Tok) (xs : List Tok) → flat f (x ∷ xs) ≡ f x ++ flat f xs
  unfolding flat
  flat-one x xs = refl

  pub flat-join : (xs ys : List Tok) → flat f (xs ++ ys) ≡ flat f xs ++ flat f ys
  unfolding flat
  flat-join [] ys = refl
  flat-join (x ∷ xs) ys = rw (flat-join xs ys) (sym (append_assoc (f x) (flat f xs) (flat f ys)))

  pub flat-snoc : (xs : List Tok) (x : Tok) → flat f (xs ++ (x ∷ [])) ≡ flat f xs ++ f x
  unfolding flat
  flat-snoc xs x = flat-join xs (x ∷ []) ∙ rw (append-nil (f x))

abbrev pub tok_bytes : List ℕ → Tok → List ℕ
tok_bytes bs (leaf a) = enc_atom (atom_in bs a)
tok_bytes bs (mark c) = c ∷ []

abbrev pub tok_words : Tok → List ℕ
tok_words (leaf a) = atom_words a
tok_words (mark c) = mark_words c

-- ---- of one token
pub bytes_of : (bs : List ℕ) (x : Tok) (q : ℕ) → enc_token bs (tok_to x q) ≡ tok_bytes bs x
unfolding enc_token enc_atom atom_in
bytes_of bs (leaf (int v)) q = refl
bytes_of bs (leaf (bytes p n)) q = refl
bytes_of bs (mark c) q = refl

pub words_of : (x : Tok) (q : ℕ) → token_words (tok_to x q) ≡ tok_words x
unfolding token_words
words_of (leaf (int v)) q = refl
words_of (leaf (bytes p n)) q = refl
words_of (mark c) q = refl

pub next-is : (z : ℕ) (x : Tok) (q : ℕ) → next_of z (tok_to x q) ≡ q
unfolding next_of
next-is z (leaf (int v)) q = refl
next-is z (leaf (bytes p n)) q = refl
next-is z (mark c) q = refl

pub words-three : (x : Tok) → length (tok_words x) ≡ 3
unfolding atom_words
words-three (leaf (int v)) = refl
words-three (leaf (bytes p n)) = refl
words-three (mark c) = refl

pub words-length : (xs : List Tok) → length (flat tok_words xs) ≡ length xs * 3
unfolding flat
words-length [] = refl
words-length (x ∷ xs) = rw length-append (omega (arith, words-three x, words-length xs))

-- ---- of a value
module _ (bs : List ℕ) where
  mutual
    unfolding enc_value plain_in toks flat

    pub value-bytes : (v : Value) → enc_value (plain_in bs v) ≡ flat (tok_bytes bs) (toks v)
    value-bytes (atom a) = sym (append-nil (enc_atom (atom_in bs a)))
    value-bytes (list p vs) = ap (λ (l : List ℕ). 0xf0 ∷ l) (values-bytes vs)
    value-bytes (named a v) = rw (flat-join (tok_bytes bs) (toks v) (mark 0xf3 ∷ []), value-bytes v)

    values-bytes : (vs : Values) → enc_values (plains_in bs vs) ≡ flat (tok_bytes bs) (toks_all vs)
    values-bytes none = refl
    values-bytes (more v vs) = rw (flat-join (tok_bytes bs) (toks v) (toks_all vs), value-bytes v, values-bytes vs)

mutual
  unfolding words toks flat

  pub value-words : (v : Value) → words v ≡ flat tok_words (toks v)
  value-words (atom a) = sym (append-nil (atom_words a))
  value-words (list p vs) = ap (λ (l : List ℕ). mark_words 0xf0 ++ l) (values-words vs)
  value-words (named a v) = rw (flat-join tok_words (toks v) (mark 0xf3 ∷ []), value-words v)

  values-words : (vs : Values) → words_all vs ≡ flat tok_words (toks_all vs)
  values-words none = refl
  values-words (more v vs) = rw (flat-join tok_words (toks v) (toks_all vs), value-words v, values-words vs)

-- ---- of what is read
unfoldable pub row_of : Out Value → List Tok
row_of (ok v q) = toks v
row_of bad = []

pub bytes-in : (bs : List ℕ) (o : Out Value) → bytes_in bs o ≡ flat (tok_bytes bs) (row_of o)
unfolding bytes_in row_of flat
bytes-in bs (ok v q) = value-bytes bs v
bytes-in bs bad = refl

pub words-in : (o : Out Value) → words_in o ≡ flat tok_words (row_of o)
unfolding words_in row_of flat
words-in (ok v q) = value-words v
words-in bad = refl

-- ---- what the writer and the reader answer and leave, where a value ends at z
pub no_end : {A : Type 0} {q : ℕ} → None ≡ Some q → A
no_end {q = q} e = absurd (let z : ◌≡◌ {A = ℕ} 0 1 = cc in omega arith)

same_end : {p q : ℕ} → Some p ≡ Some q → p ≡ q
same_end e = cc

pub row_is : (tok : ℕ → Token) (d p z : ℕ) (o : Out Value) → Holds (Stands tok d p) o → end_of o ≡ Some z → Row tok p (row_of o) z
unfolding row_of end_of
row_is tok d p z (ok v q) h e = rw (same_end e) at h.0
row_is tok d p z bad h e = no_end e

module _ (bs : List ℕ) (at z : ℕ) where
  pub wrote-end : (n : ℕ) (o : Out Value) → end_of o ≡ Some z → wrote_end bs n at o ≡ put_end true n at (bytes_in bs o)
  unfolding wrote_end bytes_in end_of
  wrote-end n (ok v q) e = refl
  wrote-end n bad e = no_end e

  pub wrote-all : (d : List ℕ) (o : Out Value) → end_of o ≡ Some z → wrote_all bs d at o ≡ put_all true d at (bytes_in bs o)
  unfolding wrote_all bytes_in end_of
  wrote-all d (ok v q) e = refl
  wrote-all d bad e = no_end e

module _ (i z : ℕ) where
  pub took-end : (n : ℕ) (o : Out Value) → end_of o ≡ Some z → took_end n i o ≡ cond (leb (i * 3 + length (words_in o)) n) (Ok (record { node = i + length (words_in o) / 3; next = z })) (Err T.Full)
  unfolding took_end words_in end_of
  took-end n (ok v q) e = rw (same_end e)
  took-end n bad e = no_end e

  pub took-all : (t : List ℕ) (o : Out Value) → end_of o ≡ Some z → took_all t i o ≡ put_all true t (i * 3) (words_in o)
  unfolding took_all words_in end_of
  took-all t (ok v q) e = refl
  took-all t bad e = no_end e
