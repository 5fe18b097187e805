-- The cells by name, the record with some of them put anew, and the record as it comes from the factory.
use Rattle.std.specs.Prelude.{ℕ, ◌+◌, ◌-◌, Bool, true, false, List, [], ◌∷◌, ◌++◌, length, get_or, set, take, replicate}
use Rattle.ranges.specs.Row.{row_count, no_row}
use Rattle.model.specs.Types.{Tsn, Row, Mbr, Tables, PinRow, Session, Undo, Cells, Secret, Card}

-- SID, "Admin1-4 and User1-8"
abbrev pub admin_count : ℕ
admin_count = 4

abbrev pub user_count : ℕ
user_count = 8

abbrev pub pin_count : ℕ
pin_count = 1 + admin_count + user_count

-- "The MSID PIN is 32 bytes, a stored one 0 to 32"
abbrev pub pin_bytes : ℕ
pin_bytes = 32

-- "Every TryLimit is 5"
abbrev pub try_limit : ℕ
try_limit = 5

-- ---- readers
abbrev pub pin_row_at : List PinRow → ℕ → PinRow
pin_row_at l r = get_or l r (record { tries = 0 })

abbrev pub tries_at : Cells → ℕ → ℕ
tries_at c r = (pin_row_at c.pins r).tries

abbrev pub proved_at : Session → ℕ → Bool
proved_at s r = get_or s.proved r false

abbrev pub enabled_at : Tables → ℕ → Bool
enabled_at t r = get_or t.enabled r false

abbrev pub no_secret : Secret
no_secret = record { bytes = replicate pin_bytes 0; len = 0 }

abbrev pub no_secrets : List Secret
no_secrets = replicate pin_count no_secret

abbrev pub secret_at : List Secret → ℕ → Secret
secret_at l r = get_or l r (record { bytes = []; len = 0 })

-- the PIN itself
abbrev pub pin_of : Secret → List ℕ
pin_of x = take x.len x.bytes

-- these bytes as a PIN
abbrev pub secret_of : List ℕ → Secret
secret_of p = record { bytes = p ++ replicate (pin_bytes - length p) 0; len = length p }

-- ---- setters
abbrev pub with_tables : Cells → Tables → Cells
with_tables c t = record { n = c.n; msid = c.msid; tables = t; pins = c.pins; session = c.session; next = c.next; undo = c.undo }

abbrev pub with_pins : Cells → List PinRow → Cells
with_pins c l = record { n = c.n; msid = c.msid; tables = c.tables; pins = l; session = c.session; next = c.next; undo = c.undo }

abbrev pub with_session : Cells → Session → Cells
with_session c s = record { n = c.n; msid = c.msid; tables = c.tables; pins = c.pins; session = s; next = c.next; undo = c.undo }

abbrev pub with_next : Cells → Tsn → Cells
with_next c x = record { n = c.n; msid = c.msid; tables = c.tables; pins = c.pins; session = c.session; next = x; undo = c.undo }

abbrev pub with_undo : Cells → Undo → Cells
with_undo c u = record { n = c.n; msid = c.msid; tables = c.tables; pins = c.pins; session = c.session; next = c.next; undo = u }

abbrev pub with_tries : Cells → ℕ → ℕ → Cells
with_tries c r k = with_pins c (set c.pins r (record { tries = k }))

abbrev pub with_rows : Tables → List Row → Tables
with_rows t l = record { active = t.active; rows = l; mbr = t.mbr; enabled = t.enabled; resettable = t.resettable }

abbrev pub with_mbr : Tables → Mbr → Tables
with_mbr t m = record { active = t.active; rows = t.rows; mbr = m; enabled = t.enabled; resettable = t.resettable }

abbrev pub with_enabled : Tables → ℕ → Bool → Tables
with_enabled t r on = record { active = t.active; rows = t.rows; mbr = t.mbr; enabled = set t.enabled r on; resettable = t.resettable }

abbrev pub with_resettable : Tables → Bool → Tables
with_resettable t on = record { active = t.active; rows = t.rows; mbr = t.mbr; enabled = t.enabled; resettable = on }

abbrev pub with_active : Tables → Bool → Tables
with_active t on = record { active = on; rows = t.rows; mbr = t.mbr; enabled = t.enabled; resettable = t.resettable }

-- ---- the factory
abbrev pub no_session : Session
no_session = record { live = false; locking = false; tsn = record { 0 = 0 }; hsn = record { 0 = 0 }; proved = replicate pin_count false }

-- "Admin1 alone enabled", and SID, who is always
abbrev pub factory_enabled : List Bool
factory_enabled = true ∷ true ∷ replicate (pin_count - 2) false

abbrev pub no_mbr : Mbr
no_mbr = record { enable = false; done = false; done_on_program = false }

-- the Locking SP as it comes: inactive, "range numbers and flags 0, {0}"
abbrev pub restored_locking : Tables → Tables
restored_locking t = record { active = false; rows = replicate row_count no_row; mbr = no_mbr; enabled = factory_enabled; resettable = t.resettable }

abbrev pub factory_tables : Tables
factory_tables = record { active = false; rows = replicate row_count no_row; mbr = no_mbr; enabled = factory_enabled; resettable = false }

-- no rollback copy
abbrev pub no_tables : Tables
no_tables = record { active = false; rows = replicate row_count no_row; mbr = no_mbr; enabled = replicate pin_count false; resettable = false }

abbrev pub no_undo : Undo
no_undo = record { live = false; was = no_tables }

abbrev pub no_tries : List PinRow
no_tries = replicate pin_count (record { tries = 0 })

-- "SID's PIN the MSID, other PINs empty"
abbrev pub factory_secrets : List ℕ → List Secret
factory_secrets msid = record { bytes = msid; len = pin_bytes } ∷ replicate (pin_count - 1) no_secret

abbrev pub factory_cells : ℕ → List ℕ → Cells
factory_cells n msid = record { n = n; msid = msid; tables = factory_tables; pins = no_tries; session = no_session; next = record { 0 = 1 }; undo = no_undo }

abbrev pub factory_card : ℕ → List ℕ → Card
factory_card n msid = record { cells = factory_cells n msid; vault = record { live = factory_secrets msid; kept = no_secrets } }

-- what stands where no record could be made; it is not sound
abbrev pub no_card : Card
no_card = factory_card 0 (replicate pin_bytes 0)
