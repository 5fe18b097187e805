-- The reader's loops: tokens counted, and tokens laid on the tape.
use Rattle.std.specs.Prelude.{Some}
use Prim.Native.Nat.{ℕ, ◌+◌, ◌*◌, ◌≤◌, ◌<◌}
use mathlib.Core.Path.{◌≡◌, refl, sym, ap, ◌∙◌}
use mathlib.Core.List.{List, [], ◌∷◌, ◌++◌}
use native.Mathlib.Omega.{arith}
use lib.ListN.{length, length-append}
use Rattle.token.specs.declared.Token.{Token}
use Rattle.token.specs.Bytes.{over}
use Rattle.token.specs.Token.{token_at}
use Rattle.token.proofs.Writes.{all-fits}
use Rattle.value.specs.Value.{Value}
use Rattle.value.specs.Read.{Out, end_of, value_at}
use Rattle.value.proofs.Inside.{token-ends}
use Rattle.tape.specs.Words.{took_all}
use Rattle.tape.specs.Steps.{token_words, next_of, words_in}
use Rattle.tape.proofs.Rows.{Tok}
use Rattle.tape.proofs.Ran.{value_row}
use Rattle.tape.proofs.Flat.{flat, tok_words, words_of, next-is, words-three, words-length, row_of, row_is, words-in, took-all}
use Rattle.tape.proofs.Walks.{Passed, passed_first, passed-next, passed-last, passed-le, Laid, laid-first, laid_next}

module _ (s : List ℕ) (at z : ℕ) where
  abbrev value : Out Value
  value = value_at s 16 at

  -- the tokens xs before p are passed
  abbrev Before : List Tok → ℕ → Type 0
  Before xs p = Passed (token_at s) (row_of value) z xs p

  before-first : end_of value ≡ Some z → Before [] at
  before-first e = passed_first (token_at s) (row_of value) z at (row_is (token_at s) 16 at z value (value_row (token_at s) (length s) 16 at) e)

  -- one more, and there is room for it where there is room for the whole
  abbrev Next : List Tok → ℕ → Token → ℕ → Type 0
  Next xs p t r = (x : Tok) × (token_words t ≡ tok_words x) × (p < r) × Before (xs ++ (x ∷ [])) r × (length xs * 3 + 3 ≤ length (words_in value))

  before-next : (xs : List Tok) (p r : ℕ) (t : Token) → p < z → Before xs p → t ≡ token_at s p → r ≡ next_of z t → Next xs p t r
  before-next xs p r t h b e f =
      let n = passed-next (token_at s) (row_of value) z (length s) (token-ends s) xs p b h in
      let x = n.0 in
      let g : r ≡ n.1 = f ∙ ap (next_of z) (e ∙ n.2) ∙ next-is z x n.1 in
      let u = passed-le (token_at s) (row_of value) z tok_words (xs ++ (x ∷ [])) n.1 n.4 in
      (x, ap token_words (e ∙ n.2) ∙ words_of x n.1, rw g n.3, rw g n.4, rw (words-in value) (omega (arith, words-length (xs ++ (x ∷ [])), length-append xs (x ∷ []))))

  before_last : (xs : List Tok) (p : ℕ) → z ≤ p → Before xs p → flat tok_words xs ≡ words_in value
  before_last xs p h b = ap (flat tok_words) (passed-last (token_at s) (row_of value) z (length s) (token-ends s) xs p b h) ∙ sym (words-in value)

  -- ---- counted
  abbrev pub Counted : ℕ → ℕ → Type 0
  Counted p m = (xs : List Tok) × Before xs p × (m ≡ length xs) × (m ≤ p)

  pub count-first : end_of value ≡ Some z → Counted at 0
  count-first e = ([], before-first e, refl, omega arith)

  pub count-ahead : (p r m : ℕ) (t : Token) → p < z → Counted p m → t ≡ token_at s p → r ≡ next_of z t → p < r
  count-ahead p r m t h c e f = (before-next c.0 p r t h c.1 e f).2

  pub count_next : (p r m : ℕ) (t : Token) → p < z → Counted p m → t ≡ token_at s p → r ≡ next_of z t → Counted r (m + 1)
  count_next p r m t h c e f =
      let n = before-next c.0 p r t h c.1 e f in
      (c.0 ++ (n.0 ∷ []), n.3, rw length-append (omega (arith, c.2)), omega (arith, c.3, n.2))

  pub count-last : (p m : ℕ) → z ≤ p → Counted p m → m * 3 ≡ length (words_in value)
  count-last p m h c = omega (arith, c.2, words-length c.0, ap length (before_last c.0 p h c.1))

  -- ---- laid on the tape d from the node i on
  module _ (d : List ℕ) (i : ℕ) where
    abbrev pub Loaded : ℕ → ℕ → List ℕ → Type 0
    Loaded p j l = (xs : List Tok) × Before xs p × (j ≡ i + length xs) × Laid tok_words d (i * 3) xs l

    pub load-first : end_of value ≡ Some z → Loaded at i d
    load-first e = ([], before-first e, omega arith, laid-first tok_words d (i * 3))

    pub load-ahead : (p r j : ℕ) (l : List ℕ) (t : Token) → p < z → Loaded p j l → t ≡ token_at s p → r ≡ next_of z t → p < r
    load-ahead p r j l t h c e f = (before-next c.0 p r t h c.1 e f).2

    module _ (w : i * 3 + length (words_in value) ≤ length d) where
      pub load-room : (p j : ℕ) (l : List ℕ) → p < z → Loaded p j l → j * 3 + 3 ≤ length l
      load-room p j l h c = let n = before-next c.0 p _ _ h c.1 refl refl in rw c.3.1 (omega (arith, c.2, n.4))

      pub load-next : (p r j : ℕ) (l m : List ℕ) (t : Token) → p < z → Loaded p j l → t ≡ token_at s p → r ≡ next_of z t → m ≡ over l (j * 3) (token_words t) → Loaded r (j + 1) m
      load-next p r j l m t h c e f g =
          let n = before-next c.0 p r t h c.1 e f in
          let x = n.0 in (
            c.0 ++ (x ∷ []),
            n.3,
            rw length-append (omega (arith, c.2)),
            laid_next tok_words d (i * 3) (j * 3) c.0 x l m c.3 (omega (arith, c.2, words-length c.0)) (omega (arith, c.2, n.4, words-three x)) (g ∙ ap (over l (j * 3)) n.1),
          )

      pub load-last : (p j : ℕ) (l : List ℕ) → end_of value ≡ Some z → z ≤ p → Loaded p j l → l ≡ took_all d i value
      load-last p j l e h c = c.3.0 ∙ ap (over d (i * 3)) (before_last c.0 p h c.1) ∙ sym (took-all i z d value e ∙ all-fits d (i * 3) (words_in value) w)
