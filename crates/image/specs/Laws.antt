-- What is shown of images: reading and writing undo one another.
use Rattle.std.specs.Prelude.{ℕ, ◌^◌, ◌<◌, ◌≡◌, true, List, [], ◌∷◌, length, get_or}
use Rattle.ranges.specs.Row.{row_count}
use Rattle.image.specs.Types.{Row, Tables, Session, Secret, Card}
use Rattle.model.specs.Record.{pin_count, pin_bytes}
use Rattle.image.specs.Write.{image_of, image_length}
use Rattle.image.specs.Read.{card_at, image_ok}

-- of each of a list
abbrev pub Every : {A : Type 0} → (A → Type 0) → List A → Type 0
Every P [] = Unit {0}
Every P (x ∷ l) = P x × Every P l

-- ---- a record's numbers and arrays fit their machine types; a byte is read back whatever it is
pub record HeldRow (r : Row) : Type 0 where
  pub start : r.start < 2 ^ 64
  pub length : r.length < 2 ^ 64

pub record HeldTables (t : Tables) : Type 0 where
  pub rows : length t.rows ≡ row_count
  pub each : Every HeldRow t.rows
  pub enabled : length t.enabled ≡ pin_count

pub record HeldSession (x : Session) : Type 0 where
  pub tsn : x.tsn.0 < 2 ^ 32
  pub hsn : x.hsn.0 < 2 ^ 32
  pub proved : length x.proved ≡ pin_count

abbrev pub HeldPin : Secret → Type 0
HeldPin x = length x.bytes ≡ pin_bytes

pub record Held (k : Card) : Type 0 where
  pub n : k.cells.n < 2 ^ 64
  pub msid : length k.cells.msid ≡ pin_bytes
  pub tables : HeldTables k.cells.tables
  pub tries : length k.cells.pins ≡ pin_count
  pub session : HeldSession k.cells.session
  pub next : k.cells.next.0 < 2 ^ 32
  pub was : HeldTables k.cells.undo.was
  pub live : (length k.vault.live ≡ pin_count) × Every HeldPin k.vault.live
  pub kept : (length k.vault.kept ≡ pin_count) × Every HeldPin k.vault.kept

-- what was written has the one length, is taken, and is read back
abbrev pub ReadBack : Type 0
ReadBack = (k : Card) → Held k → (length (image_of k) ≡ image_length) × (image_ok (image_of k) ≡ true) × (card_at (image_of k) ≡ k)

-- every image that is taken writes back to itself
abbrev pub WrittenBack : Type 0
WrittenBack = (s : List ℕ) → ((i : ℕ) → get_or s i 0 < 256) → image_ok s ≡ true → image_of (card_at s) ≡ s
