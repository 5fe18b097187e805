-- How many bytes each part of an image has.
use Prim.Native.Nat.{ℕ, ◌*◌}
use mathlib.Core.Path.{◌≡◌, refl, ap, ◌∙◌}
use mathlib.Core.List.{List}
use lib.ListN.{length, length-append}
use Rattle.token.proofs.Writes.{be-length}
use Rattle.image.specs.Types.{Row, Tables, PinRow, Session, Secret, Card}
use Rattle.image.specs.Write.{each_of, row_of, tables_of, tries_of, session_of, pin_of, head_of, undo_of, cells_of, vault_of, image_of}
use Rattle.image.specs.Laws.{Every, HeldRow, HeldTables, HeldSession, HeldPin, Held}
use Rattle.image.proofs.Lists.{each-length}
use Rattle.image.proofs.Flags.{Any, any, flags-length}

pub row-length : (r : Row) → length (row_of r) ≡ 21
unfolding row_of
row-length r = simp (length-append, be-length, flags-length)

pub pin-length : (x : Secret) → HeldPin x → length (pin_of x) ≡ 33
unfolding pin_of
pin-length x h = simp h

pub ranges-length : (t : Tables) → HeldTables t → length (each_of row_of t.rows) ≡ 105
ranges-length t h = each-length row_of HeldRow 21 (λ r k. row-length r) t.rows h.each ∙ ap (λ (n : ℕ). 21 * n) h.rows

pub tables-length : (t : Tables) → HeldTables t → length (tables_of t) ≡ 123
unfolding tables_of
tables-length t h = simp (length-append, flags-length, ranges-length t h, h.enabled)

pub tries-length : (l : List PinRow) → length l ≡ 13 → length (each_of tries_of l) ≡ 13
tries-length l e = each-length tries_of Any 1 (λ x k. refl) l (any l) ∙ ap (λ (n : ℕ). 1 * n) e

pub session-length : (x : Session) → HeldSession x → length (session_of x) ≡ 23
unfolding session_of
session-length x h = simp (length-append, be-length, flags-length, h.proved)

pub pins-length : (l : List Secret) → (length l ≡ 13) × Every HeldPin l → length (each_of pin_of l) ≡ 429
pins-length l h = each-length pin_of HeldPin 33 pin-length l h.1 ∙ ap (λ (n : ℕ). 33 * n) h.0

module _ (k : Card) (h : Held k) where
  pub undo-length : length (undo_of k.cells.undo) ≡ 124
  unfolding undo_of
  undo-length = simp (tables-length k.cells.undo.was h.was)

  pub vault-length : length (vault_of k.vault) ≡ 858
  unfolding vault_of
  vault-length = simp (length-append, pins-length k.vault.live h.live, pins-length k.vault.kept h.kept)

  pub head-length : length (head_of k.cells.n k.cells.msid) ≡ 43
  unfolding head_of
  head-length = simp (length-append, be-length, h.msid)

  pub cells-length : length (cells_of k.cells) ≡ 330
  unfolding cells_of
  cells-length =
      simp (
        length-append,
        be-length,
        head-length,
        tables-length k.cells.tables h.tables,
        tries-length k.cells.pins h.tries,
        session-length k.cells.session h.session,
        undo-length,
      )

  pub image-length : length (image_of k) ≡ 1188
  unfolding image_of
  image-length = simp (length-append, cells-length, vault-length)
