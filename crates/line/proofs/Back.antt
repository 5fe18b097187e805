-- What is written is read back.
use Prim.Native.Nat.{ℕ, zero, suc, ◌+◌, ◌*◌, ◌-◌, ◌/◌, ◌%◌, ◌^◌, ◌≤◌, ◌<◌}
use mathlib.Core.Path.{◌≡◌, refl}
use mathlib.Core.List.{List, [], ◌∷◌, ◌++◌}
use mathlib.Core.Bool.{Bool, true, false, not}
use native.Mathlib.Omega.{arith}
use native.Mathlib.Nat.{pow-suc, le_refl}
use lib.ListN.{length, get_or, length-append}
use lib.Seq.{take_at}
use lib.Dec.{T, eqb, eqb→eq, lit≤}
use borrow.Author.Tests.{lt-ltb, le-ltb, le-leb, eq-eqb}
use Rattle.token.proofs.Laws.{lt-or-le, and-f}
use Rattle.token.proofs.Leads.{all-at}
use Rattle.token.proofs.Round.{here}
use Rattle.token.specs.Bytes.{within}
use mathlib.Core.Logic.{⊎_elim}
use Rattle.std.specs.Prelude.{Ok}
use Rattle.std.specs.Str.{bytes_eq}
use Rattle.line.specs.Hex.{digit_of, char_of, digits_of, byte_of, bytes_of}
use Rattle.line.specs.Words.{blank, past}
use Rattle.line.specs.Number.{value_of, dec_of, decimal_of}
use Rattle.line.specs.Line.{number_in, number_at, hex_in, hex_at}
use Rattle.line.specs.Write.{hex_text, bytes_at}
use Rattle.line.specs.Laws.{Ends}
use Rattle.line.proofs.Clear.{Clear, clear-append, digits-here, part-here, word-here}
use Rattle.line.proofs.Forms.{spelled-length}
use Rattle.line.proofs.Values.{sized-is}

-- ---- computed for each digit, and for each byte
is_false : (t : Bool) → T (not t) → t ≡ false
is_false true h = absurd h
is_false false h = refl

char-digit : (d : ℕ) → d < 10 → digit_of (char_of d) ≡ d
unfolding digit_of char_of within
char-digit d h = eqb→eq _ _ (all-at (λ k. eqb (digit_of (char_of k)) k) 10 d tt h)

spelled_back : (b : ℕ) → b < 256 → byte_of (char_of (b / 16)) (char_of (b % 16)) ≡ b
unfolding byte_of digit_of char_of within
spelled_back b h = eqb→eq _ _ (all-at (λ k. eqb (byte_of (char_of (k / 16)) (char_of (k % 16))) k) 256 b tt h)

no-blank : (d : ℕ) → d < 16 → blank (char_of d) ≡ false
unfolding blank char_of
no-blank d h = is_false _ (all-at (λ k. not (blank (char_of k))) 16 d tt h)

hex-char : (d : ℕ) → d < 16 → past 16 (char_of d) ≡ false
unfolding past digit_of char_of within
hex-char d h = is_false _ (all-at (λ k. not (past 16 (char_of k))) 16 d tt h)

decimal-char : (d : ℕ) → d < 10 → past 10 (char_of d) ≡ false
unfolding past digit_of char_of within
decimal-char d h = is_false _ (all-at (λ k. not (past 10 (char_of k))) 10 d tt h)

-- ---- decimal
module _ (t : ℕ → Bool) (h : (d : ℕ) → d < 10 → t (char_of d) ≡ false) where
  decimal-clear : (k v : ℕ) → Clear t (dec_of k v)
  unfolding dec_of
  decimal-clear zero v = tt
  decimal-clear (suc k) v =
      ⊎_elim
      (λ (l : v < 10). rw (lt-ltb v 10 l) (h v l, tt))
      (λ (g : 10 ≤ v). rw (le-ltb v 10 g) (clear-append t (dec_of k (v / 10)) (char_of (v % 10) ∷ []) (decimal-clear k (v / 10)) (h (v % 10) (omega arith), tt)))
      (lt-or-le v 10)

value-snoc : (a : ℕ) (l : List ℕ) (b : ℕ) → value_of a (l ++ (b ∷ [])) ≡ value_of a l * 10 + digit_of b
unfolding value_of
value-snoc a [] b = refl
value-snoc a (x ∷ l) b = value-snoc (a * 10 + digit_of x) l b

value-back : (k v : ℕ) → v < 10 ^ k → value_of 0 (dec_of k v) ≡ v
unfolding dec_of value_of
value-back zero v h = omega arith
value-back (suc k) v h =
    ⊎_elim
    (λ (l : v < 10). rw (lt-ltb v 10 l) (omega (arith, char-digit v l)))
    (λ (g : 10 ≤ v). rw (le-ltb v 10 g, value-snoc, value-back k (v / 10) (omega (arith, pow-suc 10 k)), char-digit (v % 10) (omega arith)) (omega arith))
    (lt-or-le v 10)

decimal-some : (k v : ℕ) → 0 < length (dec_of (suc k) v)
unfolding dec_of
decimal-some k v =
    ⊎_elim
    (λ (l : v < 10). rw (lt-ltb v 10 l) (omega arith))
    (λ (g : 10 ≤ v). rw (le-ltb v 10 g, length-append) (omega arith))
    (lt-or-le v 10)

pub number-back : (a b : List ℕ) (v : ℕ) → v < 2 ^ 64 → Ends b → number_at (a ++ decimal_of v ++ b) (length a) ≡ Ok (v, length a + length (decimal_of v))
unfolding number_in
number-back a b v h e =
    rw (
      word-here a (decimal_of v) b (decimal-some 19 v) (decimal-clear blank (λ d k. no-blank d (omega arith)) 20 v) e,
      digits-here a (decimal_of v) b e 10 (lit≤ tt) (decimal-clear (past 10) decimal-char 20 v),
      le-ltb _ _ (le_refl (length a + length (decimal_of v))),
      part-here a (decimal_of v) b,
      value-back 20 v (omega arith),
      sized-is v h,
    )
    refl

-- ---- hex
module _ (t : ℕ → Bool) (h : (d : ℕ) → d < 16 → t (char_of d) ≡ false) where
  hex-clear : (bs : List ℕ) → ((i : ℕ) → get_or bs i 0 < 256) → Clear t (digits_of bs)
  unfolding digits_of
  hex-clear [] k = tt
  hex-clear (b ∷ l) k = (h (b / 16) (omega (arith, k 0)), (h (b % 16) (omega arith), hex-clear l (λ i. k (suc i))))

meant-back : (bs : List ℕ) → ((i : ℕ) → get_or bs i 0 < 256) → bytes_of (digits_of bs) ≡ bs
unfolding digits_of bytes_of
meant-back [] k = refl
meant-back (b ∷ l) k = rw (spelled_back b (k 0), meant-back l (λ i. k (suc i)))

spelled-there : (a b bs : List ℕ) → ((i : ℕ) → get_or bs i 0 < 256) → bytes_at (a ++ digits_of bs ++ b) (length a) (2 * length bs) ≡ bs
unfolding bytes_at
spelled-there a b bs k =
    let n = spelled-length bs in
    let m : length a + 2 * length bs ≤ length (a ++ digits_of bs ++ b) = simp length-append (omega arith) in
    rw (le-leb _ _ m, here a (digits_of bs) b, take_at (digits_of bs) b (2 * length bs) n) (meant-back bs k)

pub bytes_back : (a b bs : List ℕ) → ((i : ℕ) → get_or bs i 0 < 256) → bytes_at (a ++ hex_text bs ++ b) (length a) (2 * length bs) ≡ bs
unfolding hex_text bytes_at bytes_of
bytes_back a b [] k = rw (le-leb (length a + 0) (length (a ++ (45 ∷ []) ++ b)) (simp length-append (omega arith)))
bytes_back a b (x ∷ l) k = spelled-there a b (x ∷ l) k

-- digits are more than the one sign that stands for none
no-dash : (bs : List ℕ) → 0 < length bs → bytes_eq (digits_of bs) (45 ∷ []) ≡ false
unfolding digits_of
no-dash [] h = absurd (omega arith)
no-dash (b ∷ l) h = and-f _

spelled-word : (a b bs : List ℕ) → 0 < length bs → ((i : ℕ) → get_or bs i 0 < 256) → Ends b
    → hex_at (a ++ digits_of bs ++ b) (length a) ≡ Ok (length a, 2 * length bs, length a + length (digits_of bs))
unfolding hex_in
spelled-word a b bs h k e =
    let n = spelled-length bs in
    let q : length a + length (digits_of bs) - length a ≡ 2 * length bs = omega arith in
    rw (
      word-here a (digits_of bs) b (omega arith) (hex-clear blank no-blank bs k) e,
      part-here a (digits_of bs) b,
      no-dash bs h,
      digits-here a (digits_of bs) b e 16 (lit≤ tt) (hex-clear (past 16) hex-char bs k),
      le-ltb _ _ (le_refl (length a + length (digits_of bs))),
      q,
      eq-eqb (2 * length bs % 2) 0 (omega arith),
    )

pub digits-back : (a b bs : List ℕ) → ((i : ℕ) → get_or bs i 0 < 256) → Ends b
    → hex_at (a ++ hex_text bs ++ b) (length a) ≡ Ok (length a, 2 * length bs, length a + length (hex_text bs))
unfolding hex_text hex_in blank
digits-back a b [] k e = rw (word-here a (45 ∷ []) b (omega arith) (refl, tt) e, part-here a (45 ∷ []) b)
digits-back a b (x ∷ l) k e = spelled-word a b (x ∷ l) (omega arith) k e
