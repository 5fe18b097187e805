-- Each part that was written is taken and read back where it stands, and so is the whole.
use Prim.Native.Nat.{ℕ, ◌+◌, ◌*◌, ◌<◌}
use mathlib.Core.Path.{◌≡◌, refl, ap, ◌∙◌}
use mathlib.Core.Bool.{true, ◌&&◌}
use mathlib.Core.List.{List, [], ◌∷◌}
use native.Mathlib.Omega.{arith}
use borrow.Author.Tests.{eq-eqb}
use lib.ListN.{length, get_or}
use lib.Seq.{take_all}
use lib.Dec.{eqb, lit≤, lit<}
use Rattle.ranges.specs.Row.{no_row}
use Rattle.image.specs.Types.{Row, Tables, PinRow, Session, Secret, Card}
use Rattle.image.specs.Write as W
use Rattle.image.specs.Read as R
use Rattle.image.specs.Laws.{Every, HeldRow, HeldTables, HeldSession, HeldPin, Held}
use Rattle.std.proofs.lemmas.Bool.{and_from}
use Rattle.image.proofs.Arrays.{all_true}
use Rattle.image.proofs.Segments.{Stands, split, byte_at}
use Rattle.image.proofs.Digits.{number-back}
use Rattle.image.proofs.Lists.{part-stands, each_back}
use Rattle.image.proofs.Flags.{Any, any, flag-back, flags-back, flags-taken, runs}
use Rattle.image.proofs.Lengths as N
use Rattle.image.proofs.Parts.{row_flags, mbr_flags, row-parts, tables-parts, session-parts, vault-parts, cells-parts}

-- ---- parts
module _ (s : List ℕ) (p : ℕ) where
  row_back : (r : Row) → HeldRow r → Stands s p 21 (W.row_of r) → R.row_at s p ≡ r
  unfolding R.row_at
  row_back r h w =
      let t = row-parts s p r w in
      let flag = flag-back s (p + 16) 5 (row_flags r) refl t.flags in
      λ j. record {
        start = number-back s p 8 r.start (lit≤ tt) h.start t.start j;
        length = number-back s (p + 8) 8 r.length (lit≤ tt) h.length t.length j;
        read_enabled = flag (p + 16) 0 (omega arith) (lit< tt) j;
        write_enabled = flag (p + 17) 1 (omega arith) (lit< tt) j;
        read_locked = flag (p + 18) 2 (omega arith) (lit< tt) j;
        write_locked = flag (p + 19) 3 (omega arith) (lit< tt) j;
        lock_on_program = flag (p + 20) 4 (omega arith) (lit< tt) j;
      }

  pin-back : (x : Secret) → HeldPin x → Stands s p 33 (W.pin_of x) → R.pin_at s p ≡ x
  unfolding W.pin_of R.pin_at
  pin-back x h w =
      let t = split s p 1 32 (x.len ∷ []) x.bytes w h in
      let len : get_or s p 0 ≡ x.len = byte_at s p 1 (x.len ∷ []) p 0 t.0 (omega arith) (lit< tt) in
      λ j. record { bytes = t.1.1 j; len = len j }

  session-back : (x : Session) → HeldSession x → Stands s p 23 (W.session_of x) → R.session_at s p ≡ x
  unfolding R.session_at
  session-back x h w =
      let t = session-parts s p x h w in
      let flag = flag-back s p 2 (x.live ∷ x.locking ∷ []) refl t.flags in
      λ j. record {
        live = flag p 0 (omega arith) (lit< tt) j;
        locking = flag (p + 1) 1 (omega arith) (lit< tt) j;
        tsn = record { 0 = number-back s (p + 2) 4 x.tsn.0 (lit≤ tt) h.tsn t.tsn j };
        hsn = record { 0 = number-back s (p + 6) 4 x.hsn.0 (lit≤ tt) h.hsn t.hsn j };
        proved = flags-back s (p + 10) 13 x.proved h.proved t.proved j;
      }

  session-taken : (x : Session) → HeldSession x → Stands s p 23 (W.session_of x) → R.session_ok s p ≡ true
  unfolding R.session_ok
  session-taken x h w =
      let t = session-parts s p x h w in
      and_from (R.flags_ok s p 2) (R.flags_ok s (p + 10) 13)
      (flags-taken s p 2 (x.live ∷ x.locking ∷ []) refl t.flags) (flags-taken s (p + 10) 13 x.proved h.proved t.proved)

  tries-back : (l : List PinRow) → length l ≡ 13 → Stands s p 13 (W.each_of W.tries_of l) → R.tries_at s p ≡ l
  tries-back l e w =
      each_back W.tries_of Any 1 (λ x h. refl) s (record { tries = 0 }) l p 13 (λ (i : ℕ). record { tries = get_or s (p + i) 0 }) (any l) e w
      (λ i x h st. λ j. record { tries = byte_at s (p + 1 * i) 1 (x.tries ∷ []) (p + i) 0 st (omega arith) (lit< tt) j })

-- ---- lists of rows and PINs
module _ (s : List ℕ) (p : ℕ) where
  ranges-back : (t : Tables) → HeldTables t → Stands s p 105 (W.each_of W.row_of t.rows) → R.ranges_at s p ≡ t.rows
  ranges-back t h w =
      each_back W.row_of HeldRow 21 (λ r k. N.row-length r) s no_row t.rows p 5 (λ (i : ℕ). R.row_at s (p + 21 * i)) h.each h.rows w
      (λ i r k st. row_back s (p + 21 * i) r k st)

  ranges-taken : (t : Tables) → HeldTables t → Stands s p 105 (W.each_of W.row_of t.rows) → R.ranges_ok s p ≡ true
  ranges-taken t h w =
      all_true (λ (i : ℕ). R.flags_ok s (p + 21 * i + 16) 5) 5
      (λ i b. let r : Row = get_or t.rows i no_row in
      flags-taken s (p + 21 * i + 16) 5 (row_flags r) refl
      (row-parts s (p + 21 * i) r (part-stands W.row_of HeldRow 21 (λ x k. N.row-length x) s no_row t.rows p 5 i h.each h.rows w b)).flags)

  pins-back : (l : List Secret) → (length l ≡ 13) × Every HeldPin l → Stands s p 429 (W.each_of W.pin_of l) → R.pins_at s p ≡ l
  pins-back l h w =
      each_back W.pin_of HeldPin 33 N.pin-length s (record { bytes = []; len = 0 }) l p 13 (λ (i : ℕ). R.pin_at s (p + 33 * i)) h.1 h.0 w
      (λ i x k st. pin-back s (p + 33 * i) x k st)

module _ (s : List ℕ) (p : ℕ) (t : Tables) (h : HeldTables t) (w : Stands s p 123 (W.tables_of t)) where
  tables-back : R.tables_at s p ≡ t
  unfolding R.tables_at
  tables-back =
      let x = tables-parts s p t h w in
      let flag = flag-back s (p + 106) 3 (mbr_flags t) refl x.mbr in
      λ j. record {
        active = flag-back s p 1 (t.active ∷ []) refl x.active p 0 (omega arith) (lit< tt) j;
        rows = ranges-back s (p + 1) t h x.rows j;
        mbr = record {
          enable = flag (p + 106) 0 (omega arith) (lit< tt) j;
          done = flag (p + 106 + 1) 1 (omega arith) (lit< tt) j;
          done_on_program = flag (p + 106 + 2) 2 (omega arith) (lit< tt) j;
        };
        enabled = flags-back s (p + 109) 13 t.enabled h.enabled x.enabled j;
        resettable = flag-back s (p + 122) 1 (t.resettable ∷ []) refl x.resettable (p + 122) 0 (omega arith) (lit< tt) j;
      }

  tables-taken : R.tables_ok s p ≡ true
  unfolding R.tables_ok
  tables-taken =
      let x = tables-parts s p t h w in
      let e₁ : p + 106 + 3 ≡ p + 109 = omega arith in
      let e₂ : p + 106 + 16 ≡ p + 122 = omega arith in
      and_from (R.flags_ok s p 1 && R.ranges_ok s (p + 1)) (R.flags_ok s (p + 106) 17)
      (and_from (R.flags_ok s p 1) (R.ranges_ok s (p + 1)) (flags-taken s p 1 (t.active ∷ []) refl x.active) (ranges-taken s (p + 1) t h x.rows))
      (runs s (p + 106) 16 1
      (runs s (p + 106) 3 13 (flags-taken s (p + 106) 3 (mbr_flags t) refl x.mbr)
      (ap (λ (q : ℕ). R.flags_ok s q 13) e₁ ∙ flags-taken s (p + 109) 13 t.enabled h.enabled x.enabled))
      (ap (λ (q : ℕ). R.flags_ok s q 1) e₂ ∙ flags-taken s (p + 122) 1 (t.resettable ∷ []) refl x.resettable))

-- ---- the whole
module _ (k : Card) (h : Held k) (s : List ℕ) (w : Stands s 0 1188 (W.image_of k)) where
  card-back : R.card_at s ≡ k
  unfolding R.card_at
  card-back =
      let c = cells-parts k h s w in
      let v = vault-parts k h s w in
      λ j. record {
        cells = record {
          n = number-back s 3 8 k.cells.n (lit≤ tt) h.n c.n j;
          msid = c.msid.1 j;
          tables = tables-back s 43 k.cells.tables h.tables c.tables j;
          pins = tries-back s 166 k.cells.pins h.tries c.tries j;
          session = session-back s 179 k.cells.session h.session c.session j;
          next = record { 0 = number-back s 202 4 k.cells.next.0 (lit≤ tt) h.next c.next j };
          undo = record {
            live = flag-back s 206 1 (k.cells.undo.live ∷ []) refl c.undo 206 0 refl (lit< tt) j;
            was = tables-back s 207 k.cells.undo.was h.was c.was j;
          };
        };
        vault = record { live = pins-back s 330 k.vault.live h.live v.0 j; kept = pins-back s 759 k.vault.kept h.kept v.1 j };
      }

  head-taken : length s ≡ 1188 → R.head_ok s ≡ true
  unfolding R.head_ok
  head-taken e =
      let b : (i : ℕ) → i < 3 → get_or s i 0 ≡ get_or (1 ∷ 4 ∷ 8 ∷ []) i 0 = λ i l. byte_at s 0 3 (1 ∷ 4 ∷ 8 ∷ []) i i (cells-parts k h s w).counts (omega arith) l in
      and_from (eqb (length s) 1188 && eqb (get_or s 0 0) 1 && eqb (get_or s 1 0) 4) (eqb (get_or s 2 0) 8)
      (and_from (eqb (length s) 1188 && eqb (get_or s 0 0) 1) (eqb (get_or s 1 0) 4)
      (and_from (eqb (length s) 1188) (eqb (get_or s 0 0) 1) (eq-eqb (length s) 1188 e) (eq-eqb (get_or s 0 0) 1 (b 0 (lit< tt))))
      (eq-eqb (get_or s 1 0) 4 (b 1 (lit< tt))))
      (eq-eqb (get_or s 2 0) 8 (b 2 (lit< tt)))

  image-taken : length s ≡ 1188 → R.image_ok s ≡ true
  unfolding R.image_ok
  image-taken e =
      let c = cells-parts k h s w in
      and_from (R.head_ok s && R.tables_ok s 43 && R.session_ok s 179 && R.flags_ok s 206 1) (R.tables_ok s 207)
      (and_from (R.head_ok s && R.tables_ok s 43 && R.session_ok s 179) (R.flags_ok s 206 1)
      (and_from (R.head_ok s && R.tables_ok s 43) (R.session_ok s 179)
      (and_from (R.head_ok s) (R.tables_ok s 43) (head-taken e) (tables-taken s 43 k.cells.tables h.tables c.tables))
      (session-taken s 179 k.cells.session h.session c.session))
      (flags-taken s 206 1 (k.cells.undo.live ∷ []) refl c.undo))
      (tables-taken s 207 k.cells.undo.was h.was c.was)

pub image-back : (k : Card) → Held k → (length (W.image_of k) ≡ 1188) × (R.image_ok (W.image_of k) ≡ true) × (R.card_at (W.image_of k) ≡ k)
image-back k h =
    let s : List ℕ = W.image_of k in
    let l : length s ≡ 1188 = N.image-length k h in
    let w : Stands s 0 1188 s = (omega arith, take_all 1188 s (omega arith)) in
    (l, image-taken k h s w l, card-back k h s w)
