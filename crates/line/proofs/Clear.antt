-- Text in which a walk does not stop, and the word that it makes.
use Prim.Native.Nat.{ℕ, ◌+◌, ◌-◌, ◌≤◌, ◌<◌}
use mathlib.Core.Path.{◌≡◌, refl}
use mathlib.Core.List.{List, [], ◌∷◌, ◌++◌}
use mathlib.Core.Bool.{Bool, true, false}
use mathlib.Core.Logic.{⊎_elim}
use native.Mathlib.Omega.{arith}
use lib.ListN.{length, length-append}
use lib.Seq.{take_at}
use borrow.Author.Tests.{lt-ltb, le-leb, ne_eqb}
use Rattle.std.specs.Prelude.{Some}
use Rattle.token.proofs.Laws.{lt-or-le, below}
use Rattle.token.proofs.Round.{here}
use Rattle.line.specs.Hex.{digit_of}
use Rattle.line.specs.Words.{blank, mark, past, first_of, first_at, word_at, part}
use Rattle.line.specs.Laws.{Ends}

-- t holds nowhere in l
abbrev pub Clear : (ℕ → Bool) → List ℕ → Type 0
Clear t [] = Unit {0}
Clear t (x ∷ l) = (t x ≡ false) × Clear t l

pub clear-append : (t : ℕ → Bool) (l m : List ℕ) → Clear t l → Clear t m → Clear t (l ++ m)
clear-append t [] m h k = k
clear-append t (x ∷ l) m h k = (h.0, clear-append t l m h.1 k)

-- t holds at the head of l, if there is one
abbrev Stops : (ℕ → Bool) → List ℕ → Type 0
Stops t [] = Unit {0}
Stops t (x ∷ l) = t x ≡ true

first_past : (t : ℕ → Bool) (p : ℕ) (l b : List ℕ) → Clear t l → Stops t b → first_of t p (l ++ b) ≡ p + length l
unfolding first_of
first_past t p [] [] h k = omega arith
first_past t p [] (x ∷ b) h k = rw k (omega arith)
first_past t p (x ∷ l) b h k = rw h.0 (omega (arith, first_past t (p + 1) l b h.1 k))

-- below the digits nothing is one
under : (b : ℕ) → b < 48 → digit_of b ≡ 16
unfolding digit_of
under b h = simp (below 48 57 b h, below 65 70 b (omega arith), below 97 102 b (omega arith))

-- a blank is no digit
blank-under : (x : ℕ) → blank x ≡ true → x < 48
unfolding blank
blank-under x e = ⊎_elim (λ (h : x < 48). h) (λ (h : 48 ≤ x). absurd (never h)) (lt-or-le x 48)
  where
    never : 48 ≤ x → ⊥
    never h =
        let f : blank x ≡ false = simp (ne_eqb x 32 (λ q. omega arith), ne_eqb x 9 (λ q. omega arith), ne_eqb x 13 (λ q. omega arith)) in
        let z : ◌≡◌ {A = ℕ} 0 1 = cc in
        omega arith

stops-blank : (b : List ℕ) → Ends b → Stops blank b
stops-blank [] e = tt
stops-blank (x ∷ b) e = e

stops-digit : (n : ℕ) → n ≤ 16 → (b : List ℕ) → Ends b → Stops (past n) b
unfolding past
stops-digit n h [] e = tt
stops-digit n h (x ∷ b) e = rw (under x (blank-under x e)) (le-leb n 16 h)

pub part-here : (a l b : List ℕ) → part (a ++ l ++ b) (length a) (length a + length l) ≡ l
part-here a l b =
    let q : length a + length l - length a ≡ length l = omega arith in
    rw (here a l b, q) (take_at l b (length l) refl)

module _ (a l b : List ℕ) (e : Ends b) where
  pub digits-here : (n : ℕ) → n ≤ 16 → Clear (past n) l → first_at (past n) (a ++ l ++ b) (length a) ≡ length a + length l
  digits-here n h k = rw (here a l b) (first_past (past n) (length a) l b k (stops-digit n h b e))

  end-here : Clear blank l → first_at blank (a ++ l ++ b) (length a) ≡ length a + length l
  end-here k = rw (here a l b) (first_past blank (length a) l b k (stops-blank b e))

start-here : (a b : List ℕ) (x : ℕ) (l : List ℕ) → blank x ≡ false → first_at mark (a ++ (x ∷ l) ++ b) (length a) ≡ length a
unfolding first_of
start-here a b x l k = rw (here a (x ∷ l) b, k)

-- a text of no blank is a word
pub word-here : (a l b : List ℕ) → 0 < length l → Clear blank l → Ends b → word_at (a ++ l ++ b) (length a) ≡ Some (length a, length a + length l)
unfolding word_at
word-here a [] b h k e = absurd (omega arith)
word-here a (x ∷ l) b h k e =
    let n : length a < length (a ++ (x ∷ l) ++ b) = simp length-append (omega arith) in
    rw (start-here a b x l k.0, lt-ltb (length a) (length (a ++ (x ∷ l) ++ b)) n, end-here a (x ∷ l) b e k)
