-- The simulator's own words, each in ASCII.
use Rattle.std.specs.Prelude.{ℕ, List, [], ◌∷◌, cond, eqb}
use Rattle.line.specs.declared.Why.{Why}
use Rattle.line.specs.declared.Why.TheVariants as Y

-- why a line can't be read
unfoldable pub why_text : Why → List ℕ
-- ? unknown word
why_text Y.Word = 63 ∷ 32 ∷ 117 ∷ 110 ∷ 107 ∷ 110 ∷ 111 ∷ 119 ∷ 110 ∷ 32 ∷ 119 ∷ 111 ∷ 114 ∷ 100 ∷ []
-- ? too few words
why_text Y.Few = 63 ∷ 32 ∷ 116 ∷ 111 ∷ 111 ∷ 32 ∷ 102 ∷ 101 ∷ 119 ∷ 32 ∷ 119 ∷ 111 ∷ 114 ∷ 100 ∷ 115 ∷ []
-- ? too many words
why_text Y.Many = 63 ∷ 32 ∷ 116 ∷ 111 ∷ 111 ∷ 32 ∷ 109 ∷ 97 ∷ 110 ∷ 121 ∷ 32 ∷ 119 ∷ 111 ∷ 114 ∷ 100 ∷ 115 ∷ []
-- ? not a number
why_text Y.Number = 63 ∷ 32 ∷ 110 ∷ 111 ∷ 116 ∷ 32 ∷ 97 ∷ 32 ∷ 110 ∷ 117 ∷ 109 ∷ 98 ∷ 101 ∷ 114 ∷ []
-- ? number too large
why_text Y.Large = 63 ∷ 32 ∷ 110 ∷ 117 ∷ 109 ∷ 98 ∷ 101 ∷ 114 ∷ 32 ∷ 116 ∷ 111 ∷ 111 ∷ 32 ∷ 108 ∷ 97 ∷ 114 ∷ 103 ∷ 101 ∷ []
-- ? not hex
why_text Y.Hex = 63 ∷ 32 ∷ 110 ∷ 111 ∷ 116 ∷ 32 ∷ 104 ∷ 101 ∷ 120 ∷ []
-- ? odd hex
why_text Y.Odd = 63 ∷ 32 ∷ 111 ∷ 100 ∷ 100 ∷ 32 ∷ 104 ∷ 101 ∷ 120 ∷ []
-- ? room over 65536
why_text Y.Room = 63 ∷ 32 ∷ 114 ∷ 111 ∷ 111 ∷ 109 ∷ 32 ∷ 111 ∷ 118 ∷ 101 ∷ 114 ∷ 32 ∷ 54 ∷ 53 ∷ 53 ∷ 51 ∷ 54 ∷ []

-- ? no card
unfoldable pub no_card : List ℕ
no_card = 63 ∷ 32 ∷ 110 ∷ 111 ∷ 32 ∷ 99 ∷ 97 ∷ 114 ∷ 100 ∷ []

-- ? line too long
unfoldable pub too_long : List ℕ
too_long = 63 ∷ 32 ∷ 108 ∷ 105 ∷ 110 ∷ 101 ∷ 32 ∷ 116 ∷ 111 ∷ 111 ∷ 32 ∷ 108 ∷ 111 ∷ 110 ∷ 103 ∷ []

-- by the number that a media question brings: 0 disk, 2 shadow, 3 refused, and else 1
unfoldable pub verdict_text : ℕ → List ℕ
verdict_text r =
    cond (eqb r 0) (100 ∷ 105 ∷ 115 ∷ 107 ∷ [])
    (cond (eqb r 2) (115 ∷ 104 ∷ 97 ∷ 100 ∷ 111 ∷ 119 ∷ [])
    (cond (eqb r 3) (114 ∷ 101 ∷ 102 ∷ 117 ∷ 115 ∷ 101 ∷ 100 ∷ [])
    (49 ∷ [])))
