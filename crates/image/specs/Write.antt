-- The image of a record, part by part in the order of docs/IMAGE.md:
--     0    1  version                     179   23  the session
--     1    1  ranges beside the global    202    4  the next session's TSN
--     2    1  users                       206    1  a transaction is open
--     3    8  N                           207  123  the tables from before it
--    11   32  the MSID                    330  429  the PINs
--    43  123  the tables                  759  429  the PINs from before an open transaction
--   166   13  Tries of each PIN row       1188 bytes in all
use Rattle.std.specs.Prelude.{ℕ, ◌+◌, ◌-◌, ◌≡◌, Bool, cond, List, [], ◌∷◌, ◌++◌, length}
use Rattle.token.specs.Bytes.{be_of, over}
use Rattle.ranges.specs.Row.{row_count}
use Rattle.image.specs.Types.{Row, Tables, PinRow, Session, Undo, Cells, Secret, Vault, Card}
use Rattle.model.specs.Record.{user_count}

-- the bytes of each of them, one behind another
unfoldable pub each_of : {A : Type 0} → (A → List ℕ) → List A → List ℕ
each_of f [] = []
each_of f (x ∷ l) = f x ++ each_of f l

-- "A flag is one byte, 00 or 01"
abbrev pub flag_of : Bool → List ℕ
flag_of b = cond b 1 0 ∷ []

abbrev pub flags_of : List Bool → List ℕ
flags_of l = each_of flag_of l

-- "A range row, 21 bytes: start (8), length (8), then five flags"
unfoldable pub row_of : Row → List ℕ
row_of r = be_of 8 r.start ++ be_of 8 r.length
    ++ flags_of (r.read_enabled ∷ r.write_enabled ∷ r.read_locked ∷ r.write_locked ∷ r.lock_on_program ∷ [])

-- "Tables, 123 bytes: the Locking SP is active; five range rows; MBRControl; Enabled of each authority; TPerInfo's column 8"
unfoldable pub tables_of : Tables → List ℕ
tables_of t = flag_of t.active ++ each_of row_of t.rows
    ++ flags_of (t.mbr.enable ∷ t.mbr.done ∷ t.mbr.done_on_program ∷ [])
    ++ flags_of t.enabled ++ flag_of t.resettable

-- "Tries of each PIN row, one byte each"
abbrev pub tries_of : PinRow → List ℕ
tries_of p = p.tries ∷ []

-- "The session, 23 bytes: one is open; it is to the Locking SP; its TSN (4); its HSN (4); the authorities that are proved in it"
unfoldable pub session_of : Session → List ℕ
session_of x = flags_of (x.live ∷ x.locking ∷ []) ++ be_of 4 x.tsn.0 ++ be_of 4 x.hsn.0 ++ flags_of x.proved

-- "A PIN, 33 bytes: its length, then its bytes, then zeros up to 32"
unfoldable pub pin_of : Secret → List ℕ
pin_of x = x.len ∷ x.bytes

-- version 01, the counts of ranges and users; N; the MSID
unfoldable pub head_of : ℕ → List ℕ → List ℕ
head_of n msid = (1 ∷ (row_count - 1) ∷ user_count ∷ []) ++ be_of 8 n ++ msid

-- a transaction is open; the tables from before it
unfoldable pub undo_of : Undo → List ℕ
undo_of u = flag_of u.live ++ tables_of u.was

-- every cell that is no PIN
unfoldable pub cells_of : Cells → List ℕ
cells_of c = head_of c.n c.msid ++ tables_of c.tables ++ each_of tries_of c.pins ++ session_of c.session ++ be_of 4 c.next.0
    ++ undo_of c.undo

-- the PINs; those from before an open transaction
unfoldable pub vault_of : Vault → List ℕ
vault_of v = each_of pin_of v.live ++ each_of pin_of v.kept

abbrev pub image_length : ℕ
image_length = 1188

unfoldable pub image_of : Card → List ℕ
image_of k = cells_of k.cells ++ vault_of k.vault

-- what a writer of the n bytes bs leaves: they stand in d from at on, the rest is as it was, and r is the place behind them
abbrev pub Put : List ℕ → ℕ → List ℕ → ℕ → ℕ → List ℕ → Type 0
Put d at bs n r last = (r ≡ at + n) × (last ≡ over d at bs) × (length bs ≡ n)
