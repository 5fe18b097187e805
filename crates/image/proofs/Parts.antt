-- Where the parts of what was written stand.
use Prim.Native.Nat.{ℕ, ◌+◌}
use mathlib.Core.Path.{refl, ◌∙◌}
use mathlib.Core.Bool.{Bool}
use mathlib.Core.List.{List, [], ◌∷◌, ◌++◌}
use Rattle.token.specs.Bytes.{be_of}
use Rattle.token.proofs.Writes.{be-length}
use Rattle.image.specs.Types.{Row, Tables, Session, Card}
use Rattle.image.specs.Write as W
use Rattle.image.specs.Laws.{HeldTables, HeldSession, Held}
use Rattle.image.proofs.Segments.{Stands, split}
use Rattle.image.proofs.Flags.{flags-length}
use Rattle.image.proofs.Lengths as N

-- the flags of a range row, and of MBRControl
abbrev pub row_flags : Row → List Bool
row_flags r = r.read_enabled ∷ r.write_enabled ∷ r.read_locked ∷ r.write_locked ∷ r.lock_on_program ∷ []

abbrev pub mbr_flags : Tables → List Bool
mbr_flags t = t.mbr.enable ∷ t.mbr.done ∷ t.mbr.done_on_program ∷ []

-- ---- where the parts stand
pub record RowParts (s : List ℕ) (p : ℕ) (r : Row) : Type 0 where
  pub start : Stands s p 8 (be_of 8 r.start)
  pub length : Stands s (p + 8) 8 (be_of 8 r.length)
  pub flags : Stands s (p + 16) 5 (W.flags_of (row_flags r))

pub record TablesParts (s : List ℕ) (p : ℕ) (t : Tables) : Type 0 where
  pub active : Stands s p 1 (W.flags_of (t.active ∷ []))
  pub rows : Stands s (p + 1) 105 (W.each_of W.row_of t.rows)
  pub mbr : Stands s (p + 106) 3 (W.flags_of (mbr_flags t))
  pub enabled : Stands s (p + 109) 13 (W.flags_of t.enabled)
  pub resettable : Stands s (p + 122) 1 (W.flags_of (t.resettable ∷ []))

pub record SessionParts (s : List ℕ) (p : ℕ) (x : Session) : Type 0 where
  pub flags : Stands s p 2 (W.flags_of (x.live ∷ x.locking ∷ []))
  pub tsn : Stands s (p + 2) 4 (be_of 4 x.tsn.0)
  pub hsn : Stands s (p + 6) 4 (be_of 4 x.hsn.0)
  pub proved : Stands s (p + 10) 13 (W.flags_of x.proved)

pub record CellsParts (s : List ℕ) (k : Card) : Type 0 where
  pub counts : Stands s 0 3 (1 ∷ 4 ∷ 8 ∷ [])
  pub n : Stands s 3 8 (be_of 8 k.cells.n)
  pub msid : Stands s 11 32 k.cells.msid
  pub tables : Stands s 43 123 (W.tables_of k.cells.tables)
  pub tries : Stands s 166 13 (W.each_of W.tries_of k.cells.pins)
  pub session : Stands s 179 23 (W.session_of k.cells.session)
  pub next : Stands s 202 4 (be_of 4 k.cells.next.0)
  pub undo : Stands s 206 1 (W.flags_of (k.cells.undo.live ∷ []))
  pub was : Stands s 207 123 (W.tables_of k.cells.undo.was)

module _ (s : List ℕ) (p : ℕ) where
  pub row-parts : (r : Row) → Stands s p 21 (W.row_of r) → RowParts s p r
  unfolding W.row_of
  row-parts r w =
      let a = split s p 16 5 (be_of 8 r.start ++ be_of 8 r.length) (W.flags_of (row_flags r)) w (flags-length (row_flags r)) in
      let b = split s p 8 8 (be_of 8 r.start) (be_of 8 r.length) a.0 (be-length 8 r.length) in
      record { start = b.0; length = b.1; flags = a.1 }

  pub tables-parts : (t : Tables) → HeldTables t → Stands s p 123 (W.tables_of t) → TablesParts s p t
  unfolding W.tables_of W.each_of
  tables-parts t h w =
      let l₁ : List ℕ = W.flag_of t.active in
      let l₂ : List ℕ = l₁ ++ W.each_of W.row_of t.rows in
      let l₃ : List ℕ = l₂ ++ W.flags_of (mbr_flags t) in
      let l₄ : List ℕ = l₃ ++ W.flags_of t.enabled in
      let a = split s p 122 1 l₄ (W.flag_of t.resettable) w refl in
      let b = split s p 109 13 l₃ (W.flags_of t.enabled) a.0 (flags-length t.enabled ∙ h.enabled) in
      let c = split s p 106 3 l₂ (W.flags_of (mbr_flags t)) b.0 refl in
      let d = split s p 1 105 l₁ (W.each_of W.row_of t.rows) c.0 (N.ranges-length t h) in
      record { active = d.0; rows = d.1; mbr = c.1; enabled = b.1; resettable = a.1 }

  pub session-parts : (x : Session) → HeldSession x → Stands s p 23 (W.session_of x) → SessionParts s p x
  unfolding W.session_of
  session-parts x h w =
      let l₁ : List ℕ = W.flags_of (x.live ∷ x.locking ∷ []) in
      let l₂ : List ℕ = l₁ ++ be_of 4 x.tsn.0 in
      let l₃ : List ℕ = l₂ ++ be_of 4 x.hsn.0 in
      let a = split s p 10 13 l₃ (W.flags_of x.proved) w (flags-length x.proved ∙ h.proved) in
      let b = split s p 6 4 l₂ (be_of 4 x.hsn.0) a.0 (be-length 4 x.hsn.0) in
      let c = split s p 2 4 l₁ (be_of 4 x.tsn.0) b.0 (be-length 4 x.tsn.0) in
      record { flags = c.0; tsn = c.1; hsn = b.1; proved = a.1 }

module _ (k : Card) (h : Held k) (s : List ℕ) (w : Stands s 0 1188 (W.image_of k)) where
  pub vault-parts : Stands s 330 429 (W.each_of W.pin_of k.vault.live) × Stands s 759 429 (W.each_of W.pin_of k.vault.kept)
  unfolding W.image_of W.vault_of
  vault-parts =
      let a = split s 0 330 858 (W.cells_of k.cells) (W.vault_of k.vault) w (N.vault-length k h) in
      split s 330 429 429 (W.each_of W.pin_of k.vault.live) (W.each_of W.pin_of k.vault.kept) a.1 (N.pins-length k.vault.kept h.kept)

  pub cells-parts : CellsParts s k
  unfolding W.image_of W.cells_of W.head_of W.undo_of W.each_of
  cells-parts =
      let c = k.cells in
      let l₁ : List ℕ = W.head_of c.n c.msid in
      let l₂ : List ℕ = l₁ ++ W.tables_of c.tables in
      let l₃ : List ℕ = l₂ ++ W.each_of W.tries_of c.pins in
      let l₄ : List ℕ = l₃ ++ W.session_of c.session in
      let l₅ : List ℕ = l₄ ++ be_of 4 c.next.0 in
      let a = split s 0 330 858 (W.cells_of c) (W.vault_of k.vault) w (N.vault-length k h) in
      let b = split s 0 206 124 l₅ (W.undo_of c.undo) a.0 (N.undo-length k h) in
      let d = split s 206 1 123 (W.flag_of c.undo.live) (W.tables_of c.undo.was) b.1 (N.tables-length c.undo.was h.was) in
      let e = split s 0 202 4 l₄ (be_of 4 c.next.0) b.0 (be-length 4 c.next.0) in
      let f = split s 0 179 23 l₃ (W.session_of c.session) e.0 (N.session-length c.session h.session) in
      let g = split s 0 166 13 l₂ (W.each_of W.tries_of c.pins) f.0 (N.tries-length c.pins h.tries) in
      let i = split s 0 43 123 l₁ (W.tables_of c.tables) g.0 (N.tables-length c.tables h.tables) in
      let m = split s 0 11 32 ((1 ∷ 4 ∷ 8 ∷ []) ++ be_of 8 c.n) c.msid i.0 h.msid in
      let o = split s 0 3 8 (1 ∷ 4 ∷ 8 ∷ []) (be_of 8 c.n) m.0 (be-length 8 c.n) in
      record {
        counts = o.0;
        n = o.1;
        msid = m.1;
        tables = i.1;
        tries = g.1;
        session = f.1;
        next = e.1;
        undo = d.0;
        was = d.1;
      }
