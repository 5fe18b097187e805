-- The record that an image holds, by the places of docs/IMAGE.md, and which images are taken.
use Rattle.std.specs.Prelude.{ℕ, zero, suc, ◌+◌, ◌-◌, ◌*◌, Bool, true, ◌&&◌, cond, List, [], ◌∷◌, ◌++◌, length, get_or, take, drop, leb, eqb, Option, Some, None}
use Rattle.token.specs.Bytes.{number_at}
use Rattle.ranges.specs.Row.{row_count}
use Rattle.image.specs.Types.{Row, Mbr, Tables, PinRow, Session, Secret, Card}
use Rattle.model.specs.Record.{user_count, pin_count, pin_bytes}
use Rattle.image.specs.Write.{image_length}

-- f 0, f 1 and so on, n of them
unfoldable pub rows_from : {A : Type 0} → ℕ → (ℕ → A) → List A
rows_from zero f = []
rows_from (suc n) f = rows_from n f ++ (f n ∷ [])

-- n bytes from p on
abbrev pub bytes_at : List ℕ → ℕ → ℕ → List ℕ
bytes_at s p n = take n (drop p s)

abbrev pub flag_at : List ℕ → ℕ → Bool
flag_at s p = eqb (get_or s p 0) 1

-- a flag of each authority
abbrev pub flags_at : List ℕ → ℕ → List Bool
flags_at s p = rows_from pin_count (λ i. flag_at s (p + i))

unfoldable pub row_at : List ℕ → ℕ → Row
row_at s p = record {
  start = number_at s p 8;
  length = number_at s (p + 8) 8;
  read_enabled = flag_at s (p + 16);
  write_enabled = flag_at s (p + 17);
  read_locked = flag_at s (p + 18);
  write_locked = flag_at s (p + 19);
  lock_on_program = flag_at s (p + 20);
}

abbrev pub ranges_at : List ℕ → ℕ → List Row
ranges_at s p = rows_from row_count (λ i. row_at s (p + 21 * i))

abbrev pub mbr_at : List ℕ → ℕ → Mbr
mbr_at s p = record { enable = flag_at s p; done = flag_at s (p + 1); done_on_program = flag_at s (p + 2) }

unfoldable pub tables_at : List ℕ → ℕ → Tables
tables_at s p = record {
  active = flag_at s p;
  rows = ranges_at s (p + 1);
  mbr = mbr_at s (p + 106);
  enabled = flags_at s (p + 109);
  resettable = flag_at s (p + 122);
}

abbrev pub tries_at : List ℕ → ℕ → List PinRow
tries_at s p = rows_from pin_count (λ i. record { tries = get_or s (p + i) 0 })

unfoldable pub session_at : List ℕ → ℕ → Session
session_at s p = record {
  live = flag_at s p;
  locking = flag_at s (p + 1);
  tsn = record { 0 = number_at s (p + 2) 4 };
  hsn = record { 0 = number_at s (p + 6) 4 };
  proved = flags_at s (p + 10);
}

unfoldable pub pin_at : List ℕ → ℕ → Secret
pin_at s p = record { bytes = bytes_at s (p + 1) pin_bytes; len = get_or s p 0 }

abbrev pub pins_at : List ℕ → ℕ → List Secret
pins_at s p = rows_from pin_count (λ i. pin_at s (p + 33 * i))

unfoldable pub card_at : List ℕ → Card
card_at s = record {
  cells = record {
    n = number_at s 3 8;
    msid = bytes_at s 11 pin_bytes;
    tables = tables_at s 43;
    pins = tries_at s 166;
    session = session_at s 179;
    next = record { 0 = number_at s 202 4 };
    undo = record { live = flag_at s 206; was = tables_at s 207 };
  };
  vault = record { live = pins_at s 330; kept = pins_at s 759 };
}

-- ---- which images are taken: "refused where its length, version or counts are others than these, or where a flag is neither 00 nor 01"

-- f holds of every number below n
unfoldable pub all_below : ℕ → (ℕ → Bool) → Bool
all_below zero f = true
all_below (suc n) f = all_below n f && f n

-- each of n bytes from p on is 00 or 01
abbrev pub flags_ok : List ℕ → ℕ → ℕ → Bool
flags_ok s p n = all_below n (λ i. leb (get_or s (p + i) 0) 1)

-- the five flags of each range row
abbrev pub ranges_ok : List ℕ → ℕ → Bool
ranges_ok s p = all_below row_count (λ i. flags_ok s (p + 21 * i + 16) 5)

-- the flags of the tables: active; those of the rows; MBRControl's, Enabled of each authority and TPerInfo's, which stand in a row
unfoldable pub tables_ok : List ℕ → ℕ → Bool
tables_ok s p = flags_ok s p 1 && ranges_ok s (p + 1) && flags_ok s (p + 106) (3 + pin_count + 1)

unfoldable pub session_ok : List ℕ → ℕ → Bool
session_ok s p = flags_ok s p 2 && flags_ok s (p + 10) pin_count

-- the length, the version and the counts
unfoldable pub head_ok : List ℕ → Bool
head_ok s = eqb (length s) image_length && eqb (get_or s 0 0) 1 && eqb (get_or s 1 0) (row_count - 1) && eqb (get_or s 2 0) user_count

unfoldable pub image_ok : List ℕ → Bool
image_ok s = head_ok s && tables_ok s 43 && session_ok s 179 && flags_ok s 206 1 && tables_ok s 207

-- what is read of any bytes: the record, where the image is taken
unfoldable pub loaded_of : List ℕ → Option Card
loaded_of s = cond (image_ok s) (Some (card_at s)) None
