-- The starred bench figures.
use Rattle.std.specs.Prelude.{ℕ, ◌≡◌, Bool, true, false, List, [], ◌∷◌, length, replicate, set, Some, None}
use Rattle.token.specs.declared.Token.{Token}
use Rattle.token.specs.declared.Token.TheVariants as K
use Rattle.token.specs.Token.{token_at}
use Rattle.token.specs.Write.{enc_bytes}
use Rattle.ranges.specs.declared.Row.{Row}
use Rattle.ranges.specs.declared.Edit.{Edit}
use Rattle.ranges.specs.declared.Verdict.{Verdict}
use Rattle.ranges.specs.declared.Verdict.TheVariants as W
use Rattle.ranges.specs.Row.{row_count, no_row}
use Rattle.ranges.specs.Set.{set_ok, edited_row}
use Rattle.ranges.specs.Media.{media_of}

-- start and length, and nothing else
abbrev pub span : ℕ → ℕ → Edit
span start len = record {
  start = Some start;
  length = Some len;
  read_enabled = None;
  write_enabled = None;
  read_locked = None;
  write_locked = None;
  lock_on_program = None;
}

-- "N = 1,000,000, range 1 at 1,000, length 100"
abbrev pub bench_size : ℕ
bench_size = 1000000

abbrev pub bench_rows : List Row
bench_rows = set (replicate row_count no_row) 1 (edited_row no_row (span 1000 100))

pub data Figure : Type 0 where
  -- these bytes are this token
  reads : List ℕ → Token → Figure
  -- every string of so many bytes is written behind these
  headed : ℕ → ℕ → ℕ → Figure
  -- range 2 with this start and length is allowed, or refused
  second : ℕ → ℕ → Bool → Figure
  -- with the shadow on, a read from here for so many
  shadowed : ℕ → ℕ → Verdict → Figure

abbrev pub Holds : Figure → Type 0
Holds (reads s t) = token_at s 0 ≡ t
Holds (headed n a b) = (bs : List ℕ) → length bs ≡ n → enc_bytes bs ≡ a ∷ b ∷ bs
Holds (second start len ok) = set_ok bench_rows 2 (span start len) bench_size ≡ ok
Holds (shadowed start count v) =
    media_of bench_rows (record { enable = true; done = false; done_on_program = false }) true bench_size false start count ≡ v

unfoldable pub figures : List Figure
figures =
    reads (0x3f ∷ []) (K.Int 63 1)
    ∷ reads (0x40 ∷ []) K.Broken
    ∷ reads (0x81 ∷ 0x40 ∷ []) (K.Int 64 2)
    ∷ reads (0x81 ∷ 0x05 ∷ []) (K.Int 5 2)
    ∷ reads (0x80 ∷ []) K.Broken
    ∷ reads (0xa0 ∷ []) (K.Bytes 1 0 1)
    ∷ headed 32 0xd0 0x20
    ∷ second 1100 1 true
    ∷ second 1099 1 false
    ∷ second 1050 0 true
    ∷ second 1000000 1 false
    ∷ second 18446744073709551615 2 false
    ∷ shadowed 262143 1 W.Shadow
    ∷ shadowed 262143 2 W.Refused
    ∷ []

abbrev pub AllHold : List Figure → Type 0
AllHold [] = Unit {0}
AllHold (f ∷ fs) = Holds f × AllHold fs
