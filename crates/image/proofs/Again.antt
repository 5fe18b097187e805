-- Each part that is taken writes back to the bytes that it was read from, and so does the whole.
use Prim.Native.Nat.{ℕ, ◌+◌, ◌*◌, ◌≤◌, ◌<◌}
use mathlib.Core.Path.{◌≡◌, refl, ap, sym, ◌∙◌}
use mathlib.Core.Bool.{true, ◌&&◌}
use mathlib.Core.List.{List, [], ◌∷◌}
use native.Mathlib.Omega.{arith}
use lib.ListN.{length, get_or}
use lib.Seq.{take_all}
use lib.Dec.{lit≤}
use Rattle.image.specs.Write.{each_of, row_of, tables_of, tries_of, session_of, pin_of, head_of, undo_of, cells_of, vault_of, image_of}
use Rattle.image.specs.Read.{bytes_at, row_at, ranges_at, tables_at, tries_at, session_at, pin_at, pins_at, card_at, flags_ok, ranges_ok, tables_ok, session_ok, image_ok}
use Rattle.std.proofs.lemmas.Bool.{and_parts}
use Rattle.image.proofs.Arrays.{below_each}
use Rattle.image.proofs.Segments.{glue, run-one}
use Rattle.image.proofs.Digits.{number-again}
use Rattle.image.proofs.Lists.{each_again}
use Rattle.image.proofs.Flags.{small, flag-again, flags-again, flags-cons, flags-nil}
use Rattle.image.proofs.Taken.{Head, taken}

module _ (s : List ℕ) (byte : (i : ℕ) → get_or s i 0 < 256) where
  row-again : (p : ℕ) → flags_ok s (p + 16) 5 ≡ true → p + 21 ≤ length s → row_of (row_at s p) ≡ bytes_at s p 21
  unfolding row_of row_at
  row-again p h fit =
      let ok : (q : ℕ) → p + 16 ≤ q → q < p + 16 + 5 → get_or s q 0 ≤ 1 = small s (p + 16) 5 h in
      glue s p 16 5 _ _
      (glue s p 8 8 _ _ (number-again s byte p 8 (lit≤ tt) (omega arith)) (number-again s byte (p + 8) 8 (lit≤ tt) (omega arith)))
      (flags-cons s (p + 16) (p + 17) 4 _ (ok (p + 16) (omega arith) (omega arith)) (omega arith) (omega arith)
      (flags-cons s (p + 17) (p + 18) 3 _ (ok (p + 17) (omega arith) (omega arith)) (omega arith) (omega arith)
      (flags-cons s (p + 18) (p + 19) 2 _ (ok (p + 18) (omega arith) (omega arith)) (omega arith) (omega arith)
      (flags-cons s (p + 19) (p + 20) 1 _ (ok (p + 19) (omega arith) (omega arith)) (omega arith) (omega arith)
      (flags-cons s (p + 20) (p + 21) 0 _ (ok (p + 20) (omega arith) (omega arith)) (omega arith) (omega arith)
      (flags-nil s (p + 21)))))))

  ranges-again : (p : ℕ) → ranges_ok s p ≡ true → p + 105 ≤ length s → each_of row_of (ranges_at s p) ≡ bytes_at s p 105
  ranges-again p h fit =
      each_again row_of (λ (i : ℕ). row_at s (p + 21 * i)) s p 21 5
      (λ i (b : i < 5). row-again (p + 21 * i) (below_each (λ (k : ℕ). flags_ok s (p + 21 * k + 16) 5) 5 i h b) (omega arith))

  tables-again : (p : ℕ) → tables_ok s p ≡ true → p + 123 ≤ length s → tables_of (tables_at s p) ≡ bytes_at s p 123
  unfolding tables_of tables_at tables_ok
  tables-again p h fit =
      let two = and_parts (flags_ok s p 1 && ranges_ok s (p + 1)) (flags_ok s (p + 106) 17) h in
      let one = and_parts (flags_ok s p 1) (ranges_ok s (p + 1)) two.0 in
      let ok : (q : ℕ) → p + 106 ≤ q → q < p + 106 + 17 → get_or s q 0 ≤ 1 = small s (p + 106) 17 two.1 in
      glue s p 122 1 _ _
      (glue s p 109 13 _ _
      (glue s p 106 3 _ _
      (glue s p 1 105 _ _
      (flag-again s p (small s p 1 one.0 p (omega arith) (omega arith)) (omega arith))
      (ranges-again (p + 1) one.1 (omega arith)))
      (flags-cons s (p + 106) (p + 106 + 1) 2 _ (ok (p + 106) (omega arith) (omega arith)) (omega arith) refl
      (flags-cons s (p + 106 + 1) (p + 106 + 2) 1 _ (ok (p + 106 + 1) (omega arith) (omega arith)) (omega arith) (omega arith)
      (flags-cons s (p + 106 + 2) (p + 109) 0 _ (ok (p + 106 + 2) (omega arith) (omega arith)) (omega arith) (omega arith)
      (flags-nil s (p + 109))))))
      (flags-again s (p + 109) 13 (λ q (a : p + 109 ≤ q) (b : q < p + 109 + 13). ok q (omega arith) (omega arith)) (omega arith)))
      (flag-again s (p + 122) (ok (p + 122) (omega arith) (omega arith)) (omega arith))

  tries-again : (p : ℕ) → p + 13 ≤ length s → each_of tries_of (tries_at s p) ≡ bytes_at s p 13
  tries-again p fit =
      each_again tries_of (λ (i : ℕ). record { tries = get_or s (p + i) 0 }) s p 1 13
      (λ i (b : i < 13). let e : p + i ≡ p + 1 * i = omega arith in run-one s (p + i) (omega arith) ∙ ap (λ (q : ℕ). bytes_at s q 1) e)

  session-again : (p : ℕ) → session_ok s p ≡ true → p + 23 ≤ length s → session_of (session_at s p) ≡ bytes_at s p 23
  unfolding session_of session_at session_ok
  session-again p h fit =
      let t = and_parts (flags_ok s p 2) (flags_ok s (p + 10) 13) h in
      let ok : (q : ℕ) → p ≤ q → q < p + 2 → get_or s q 0 ≤ 1 = small s p 2 t.0 in
      glue s p 10 13 _ _
      (glue s p 6 4 _ _
      (glue s p 2 4 _ _
      (flags-cons s p (p + 1) 1 _ (ok p (omega arith) (omega arith)) (omega arith) refl
      (flags-cons s (p + 1) (p + 2) 0 _ (ok (p + 1) (omega arith) (omega arith)) (omega arith) (omega arith) (flags-nil s (p + 2))))
      (number-again s byte (p + 2) 4 (lit≤ tt) (omega arith)))
      (number-again s byte (p + 6) 4 (lit≤ tt) (omega arith)))
      (flags-again s (p + 10) 13 (small s (p + 10) 13 t.1) (omega arith))

  pin-again : (p : ℕ) → p + 33 ≤ length s → pin_of (pin_at s p) ≡ bytes_at s p 33
  unfolding pin_of pin_at
  pin-again p fit = glue s p 1 32 (get_or s p 0 ∷ []) (bytes_at s (p + 1) 32) (run-one s p (omega arith)) refl

  pins-again : (p : ℕ) → p + 429 ≤ length s → each_of pin_of (pins_at s p) ≡ bytes_at s p 429
  pins-again p fit = each_again pin_of (λ (i : ℕ). pin_at s (p + 33 * i)) s p 33 13 (λ i (b : i < 13). pin-again (p + 33 * i) (omega arith))

  counts-again : Head s → (1 ∷ 4 ∷ 8 ∷ []) ≡ bytes_at s 0 3
  counts-again h =
      let l : length s ≡ 1188 = h.length in
      ap (λ (x : ℕ). x ∷ 4 ∷ 8 ∷ []) (sym h.version)
      ∙ ap (λ (x : ℕ). get_or s 0 0 ∷ x ∷ 8 ∷ []) (sym h.ranges)
      ∙ ap (λ (x : ℕ). get_or s 0 0 ∷ get_or s 1 0 ∷ x ∷ []) (sym h.users)
      ∙ glue s 0 2 1 (get_or s 0 0 ∷ get_or s 1 0 ∷ []) (get_or s 2 0 ∷ [])
      (glue s 0 1 1 (get_or s 0 0 ∷ []) (get_or s 1 0 ∷ []) (run-one s 0 (omega arith)) (run-one s 1 (omega arith))) (run-one s 2 (omega arith))

  pub image-again : image_ok s ≡ true → image_of (card_at s) ≡ s
  unfolding image_of cells_of head_of undo_of vault_of card_at
  image-again h =
      let t = taken s h in
      let l : length s ≡ 1188 = t.head.length in
      glue s 0 330 858 _ _
      (glue s 0 206 124 _ _
      (glue s 0 202 4 _ _
      (glue s 0 179 23 _ _
      (glue s 0 166 13 _ _
      (glue s 0 43 123 _ _
      (glue s 0 11 32 _ _ (glue s 0 3 8 _ _ (counts-again t.head) (number-again s byte 3 8 (lit≤ tt) (omega arith))) refl)
      (tables-again 43 t.tables (omega arith)))
      (tries-again 166 (omega arith)))
      (session-again 179 t.session (omega arith)))
      (number-again s byte 202 4 (lit≤ tt) (omega arith)))
      (glue s 206 1 123 _ _
      (flag-again s 206 (small s 206 1 t.undo 206 (omega arith) (omega arith)) (omega arith))
      (tables-again 207 t.was (omega arith))))
      (glue s 330 429 429 _ _ (pins-again 330 (omega arith)) (pins-again 759 (omega arith)))
      ∙ take_all 1188 s (omega arith)
