-- Bytes as digits and back, by their places.
use Rattle.std.proofs.Common.{ℕ, zero, suc, ◌+◌, ◌*◌, ◌/◌, ◌%◌, ◌<◌, ◌≡◌, refl, List, [], ◌∷◌, ◌++◌, length, get_or, take, arith}
use Rattle.line.specs.Hex.{char_of, digits_of, byte_of, bytes_of}

pub spelled-length : (l : List ℕ) → length (digits_of l) ≡ 2 * length l
unfolding digits_of
spelled-length [] = refl
spelled-length (b ∷ l) = omega (arith, spelled-length l)

pub meant-length : (l : List ℕ) → length (bytes_of l) ≡ length l / 2
unfolding bytes_of
meant-length [] = refl
meant-length (x ∷ []) = refl
meant-length (x ∷ y ∷ l) = omega (arith, meant-length l)

-- the two digits of the byte at i, behind those of the bytes before it
pub spelled-more : (l : List ℕ) (i : ℕ) → i < length l
    → digits_of (take (suc i) l) ≡ digits_of (take i l) ++ (char_of (get_or l i 0 / 16) ∷ char_of (get_or l i 0 % 16) ∷ [])
unfolding digits_of
spelled-more [] i h = absurd (omega arith)
spelled-more (b ∷ l) zero h = refl
spelled-more (b ∷ l) (suc i) h = rw (spelled-more l i (omega arith))

-- the byte that two digits say
pub meant-at : (l : List ℕ) (j : ℕ) → 2 * j + 1 < length l → get_or (bytes_of l) j 0 ≡ byte_of (get_or l (2 * j) 0) (get_or l (2 * j + 1) 0)
unfolding bytes_of
meant-at [] j h = absurd (omega arith)
meant-at (x ∷ []) j h = absurd (omega arith)
meant-at (x ∷ y ∷ l) zero h = refl
meant-at (x ∷ y ∷ l) (suc j) h =
    let e : 2 * suc j ≡ suc (suc (2 * j)) = omega arith in
    let g : 2 * suc j + 1 ≡ suc (suc (2 * j + 1)) = omega arith in
    rw (g, e) (meant-at l j (omega arith))
