-- What a line says: an unknown word first, then its parameters from left to right, then what is too many. The first fault decides.
use Rattle.std.specs.Prelude.{ℕ, ◌-◌, ◌%◌, List, [], ◌∷◌, Bool, true, false, cond, get_or, ltb, leb, eqb, Option, Some, None, Result, Ok, Err, ok_or}
use Rattle.std.specs.Str.{bytes_eq}
use Rattle.line.specs.declared.Line.{Line}
use Rattle.line.specs.declared.Line.TheVariants as L
use Rattle.line.specs.declared.Why.{Why}
use Rattle.line.specs.declared.Why.TheVariants as Y
use Rattle.line.specs.declared.Verb.{Verb}
use Rattle.line.specs.declared.Verb.TheVariants as B
use Rattle.line.specs.Words.{past, first_at, word_at, part}
use Rattle.line.specs.Number.{value_of, sized}

-- what k makes of r, or r's fault
abbrev pub on_ok : {A B : Type 0} → Result A Why → (A → Result B Why) → Result B Why
on_ok (Ok x) k = k x
on_ok (Err w) k = Err w

-- new, cmd, power, reset, read, write, image, load
unfoldable pub verb_of : List ℕ → Option Verb
verb_of w =
    cond (bytes_eq w (110 ∷ 101 ∷ 119 ∷ [])) (Some B.New)
    (cond (bytes_eq w (99 ∷ 109 ∷ 100 ∷ [])) (Some B.Command)
    (cond (bytes_eq w (112 ∷ 111 ∷ 119 ∷ 101 ∷ 114 ∷ [])) (Some B.Power)
    (cond (bytes_eq w (114 ∷ 101 ∷ 115 ∷ 101 ∷ 116 ∷ [])) (Some B.Reset)
    (cond (bytes_eq w (114 ∷ 101 ∷ 97 ∷ 100 ∷ [])) (Some B.Read)
    (cond (bytes_eq w (119 ∷ 114 ∷ 105 ∷ 116 ∷ 101 ∷ [])) (Some B.Write)
    (cond (bytes_eq w (105 ∷ 109 ∷ 97 ∷ 103 ∷ 101 ∷ [])) (Some B.Image)
    (cond (bytes_eq w (108 ∷ 111 ∷ 97 ∷ 100 ∷ [])) (Some B.Load)
    None)))))))

-- the word from p to e as a number, with the place after it: decimal digits to its end
unfoldable pub number_in : List ℕ → ℕ → ℕ → Result (ℕ × ℕ) Why
number_in s p e = cond (ltb (first_at (past 10) s p) e) (Err Y.Number) (on_ok (sized (value_of 0 (part s p e))) (λ v. Ok (v, e)))

-- the next word from at on as a number
abbrev pub number_at : List ℕ → ℕ → Result (ℕ × ℕ) Why
number_at s at = on_ok (ok_or (word_at s at) Y.Few) (λ (p, e). number_in s p e)

-- the word from p to e as hex: `-`, or hex digits to its end, an even count; where they start, how many they are, and the place after them
unfoldable pub hex_in : List ℕ → ℕ → ℕ → Result (ℕ × ℕ × ℕ) Why
hex_in s p e =
    cond (bytes_eq (part s p e) (45 ∷ [])) (Ok (p, 0, e))
    (cond (ltb (first_at (past 16) s p) e) (Err Y.Hex)
    (cond (eqb ((e - p) % 2) 0) (Ok (p, e - p, e))
    (Err Y.Odd)))

-- the next word from at on as hex
abbrev pub hex_at : List ℕ → ℕ → Result (ℕ × ℕ × ℕ) Why
hex_at s at = on_ok (ok_or (word_at s at) Y.Few) (λ (p, e). hex_in s p e)

-- l, where no word is left
abbrev pub last : Option (ℕ × ℕ) → Line → Result Line Why
last None l = Ok l
last (Some w) l = Err Y.Many

abbrev pub ended : List ℕ → ℕ → Line → Result Line Why
ended s at l = last (word_at s at) l

-- START COUNT
abbrev pub media : List ℕ → ℕ → Bool → Result Line Why
media s at w = on_ok (number_at s at) (λ (start, q). on_ok (number_at s q) (λ (count, q). ended s q (L.Media w start count)))

-- by the first word, with the parameters from at on
abbrev pub said : List ℕ → ℕ → Verb → Result Line Why
said s at B.New = on_ok (number_at s at) (λ (n, q). on_ok (hex_at s q) (λ (p, len, q). ended s q (L.New n p len)))
said s at B.Command =
    on_ok (number_at s at) (λ (n, q). cond (leb n 65536) (on_ok (hex_at s q) (λ (p, len, q). ended s q (L.Command n p len))) (Err Y.Room))
said s at B.Power = ended s at L.Power
said s at B.Reset = ended s at L.Reset
said s at B.Read = media s at false
said s at B.Write = media s at true
said s at B.Image = ended s at L.Image
said s at B.Load = on_ok (hex_at s at) (λ (p, len, q). ended s q (L.Load p len))

-- the first word begins with #
unfoldable pub remark_in : List ℕ → Option (ℕ × ℕ) → Bool
remark_in s None = false
remark_in s (Some (p, e)) = eqb (get_or s p 0) 35

abbrev pub remark : List ℕ → Bool
remark s = remark_in s (word_at s 0)

-- a line with no word, or whose first word begins with #, is passed over
unfoldable pub line_in : List ℕ → Option (ℕ × ℕ) → Result Line Why
line_in s None = Ok L.Pass
line_in s (Some (p, e)) = cond (eqb (get_or s p 0) 35) (Ok L.Pass) (on_ok (ok_or (verb_of (part s p e)) Y.Word) (λ k. said s e k))

abbrev pub line_of : List ℕ → Result Line Why
line_of s = line_in s (word_at s 0)
