-- "A record is sound when every cell is in its range, no two non-global ranges share a sector and each ends within N, Tries ≤ 5, neither the next TSN
-- nor an open session's is 0, no session is open to an inactive SP, a transaction is open only in a session, only authorities known to an open
-- session's SP are proved, and it stays sound with a rollback copy put back."
use Rattle.std.specs.Prelude.{ℕ, Bool, true, not, ◌&&◌, cond, List, length, get_or, leb, ltb, eqb}
use Rattle.ranges.specs.Decides.{imp, all}
use Rattle.ranges.specs.Row.{row_count, row_at}
use Rattle.ranges.specs.Fit.{fit_b}
use Rattle.model.specs.Types.{Row, Mbr, Tables, PinRow, Session, Cells, Secret, Vault, Card}
use Rattle.model.specs.Record as R

-- "262,144 ≤ N ≤ 2^40"
abbrev pub size_ok : ℕ → Bool
size_ok n = leb 262144 n && leb n 1099511627776

-- the rows fit, the global one has no numbers of its own, and SID is enabled
unfoldable pub tables_ok : ℕ → Tables → Bool
tables_ok n t =
    eqb (length t.rows) row_count
    && (eqb (length t.enabled) R.pin_count
    && (R.enabled_at t 0
    && (eqb (row_at t.rows 0).start 0
    && (eqb (row_at t.rows 0).length 0
    && fit_b t.rows n))))

-- "Tries ≤ 5"
unfoldable pub tries_ok : List PinRow → Bool
tries_ok l = eqb (length l) R.pin_count && all (λ r. leb (R.pin_row_at l r).tries R.try_limit) R.pin_count

-- SID is known to the Admin SP, the others to Locking
abbrev pub known_to : Bool → ℕ → Bool
known_to locking r = cond locking (leb 1 r) (eqb r 0)

abbrev pub nobody_proved : Session → Bool
nobody_proved s = all (λ r. not (R.proved_at s r)) R.pin_count

-- a session that is open, on these tables; where none is, its cells are empty
unfoldable pub session_ok : Tables → Session → Bool
session_ok t s =
    eqb (length s.proved) R.pin_count
    && cond s.live
    (ltb 0 s.tsn.0 && (imp s.locking t.active && all (λ r. imp (R.proved_at s r) (known_to s.locking r)) R.pin_count))
    (not s.locking && (eqb s.tsn.0 0 && (eqb s.hsn.0 0 && nobody_proved s)))

-- a PIN of 0 to 32 bytes, and zeros after them
unfoldable pub secret_ok : Secret → Bool
secret_ok x =
    leb x.len R.pin_bytes
    && (eqb (length x.bytes) R.pin_bytes
    && all (λ i. imp (leb x.len i) (eqb (get_or x.bytes i 0) 0)) R.pin_bytes)

unfoldable pub secrets_ok : List Secret → Bool
secrets_ok l = eqb (length l) R.pin_count && all (λ r. secret_ok (R.secret_at l r)) R.pin_count

-- nothing is kept
unfoldable pub blank_row : Row → Bool
blank_row r =
    eqb r.start 0
    && (eqb r.length 0
    && not (cond r.read_enabled true (cond r.write_enabled true (cond r.read_locked true (cond r.write_locked true r.lock_on_program)))))

unfoldable pub blank_mbr : Mbr → Bool
blank_mbr m = not (cond m.enable true (cond m.done true m.done_on_program))

unfoldable pub blank_tables : Tables → Bool
blank_tables t =
    not (cond t.active true t.resettable)
    && (eqb (length t.rows) row_count
    && (eqb (length t.enabled) R.pin_count
    && (blank_mbr t.mbr
    && (all (λ i. blank_row (row_at t.rows i)) row_count
    && all (λ r. not (R.enabled_at t r)) R.pin_count))))

unfoldable pub blank_secrets : List Secret → Bool
blank_secrets l = all (λ r. eqb (R.secret_at l r).len 0) R.pin_count

-- the rollback copies: sound too where a transaction is open, and empty where none is
unfoldable pub undo_ok : Cells → Vault → Bool
undo_ok c v =
    cond c.undo.live
    (c.session.live && (tables_ok c.n c.undo.was && session_ok c.undo.was c.session))
    (blank_tables c.undo.was && blank_secrets v.kept)

unfoldable pub sound : Card → Bool
sound k =
    size_ok k.cells.n
    && (eqb (length k.cells.msid) R.pin_bytes
    && (tables_ok k.cells.n k.cells.tables
    && (tries_ok k.cells.pins
    && (ltb 0 k.cells.next.0
    && (session_ok k.cells.tables k.cells.session
    && (secrets_ok k.vault.live
    && (secrets_ok k.vault.kept
    && undo_ok k.cells k.vault)))))))
