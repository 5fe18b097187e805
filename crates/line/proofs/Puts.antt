-- What a writer answers and leaves, by the room that there is; and what it writes.
use Rattle.std.proofs.Common.{ℕ, ◌+◌, ◌-◌, ◌*◌, ◌/◌, ◌%◌, ◌≤◌, ◌<◌, ◌≡◌, refl, sym, ◌∙◌, ap, List, [], ◌∷◌, true, length, get_or, take, drop, set, arith, add-one, length-take, append-nil, add-zero, take-append-drop}
use Rattle.std.proofs.Math.Seq.{paste, paste-suc, take-length}
use Rattle.std.proofs.lemmas.List.{take_all}
use borrow.Author.Tests.{le-leb, lt-leb}
use Rattle.token.specs.Bytes.{over}
use Rattle.token.specs.Write.{put_all}
use Rattle.token.proofs.Writes.{all-fits, all-full, join, over-length}
use Rattle.line.specs.Hex.{char_of, digits_of, byte_of, bytes_of}
use Rattle.line.specs.Write.{hex_text, bytes_at, put_end}
use Rattle.line.proofs.Forms.{spelled-length, spelled-more, meant-length, meant-at}

-- the answer r and the buffer y are those of the writer of bs at at in d
pub record Puts (d : List ℕ) (at : ℕ) (bs : List ℕ) (r : ℕ) (y : List ℕ) : Type 0 where
  pub answer : r ≡ put_end (length d) at bs
  pub buffer : y ≡ put_all true d at bs

module _ (d : List ℕ) (at : ℕ) (bs : List ℕ) where
  fits : (r : ℕ) (y : List ℕ) → r ≡ at + length bs → r ≤ length d → y ≡ over d at bs → Puts d at bs r y
  unfolding put_end
  fits r y e h w = record { answer = rw (le-leb (at + length bs) (length d) (omega arith)) e; buffer = w ∙ sym (all-fits d at bs (omega arith)) }

  full : length d < at + length bs → Puts d at bs at d
  unfolding put_end
  full h = record { answer = rw (lt-leb (at + length bs) (length d) h); buffer = sym (all-full d at bs h) }

-- ---- as digits
module _ (d : List ℕ) (at : ℕ) (s : List ℕ) where
  pub spelled-full : length d < at + 2 * length s → Puts d at (digits_of s) at d
  spelled-full h = full d at (digits_of s) (omega (arith, spelled-length s))

  pub spelled-start : d ≡ over d at (digits_of [])
  unfolding over digits_of
  spelled-start = rw (append-nil, add-zero) (sym (take-append-drop at d))

  module _ (i r : ℕ) (x : List ℕ) (room : at + 2 * length s ≤ length d) (e : r ≡ at + 2 * i) (f : x ≡ over d at (digits_of (take i s))) where
    pub spelled-on : i < length s → (a b q : ℕ) (y : List ℕ) → a ≡ char_of (get_or s i 0 / 16) → b ≡ char_of (get_or s i 0 % 16)
        → q ≡ put_end (length x) r (a ∷ b ∷ []) → y ≡ put_all true x r (a ∷ b ∷ []) → (q ≡ at + 2 * (i + 1)) × (y ≡ over d at (digits_of (take (i + 1) s)))
    unfolding put_end
    spelled-on h a b q y u v w z =
        let n : length (digits_of (take i s)) ≡ 2 * i = omega (arith, spelled-length (take i s), length-take i s) in
        let l : length x ≡ length d = ap length f ∙ over-length d (digits_of (take i s)) at (omega arith) in
        let k : r + 2 ≤ length x = omega arith in
        let c : y ≡ over x r (a ∷ b ∷ []) = z ∙ all-fits x r (a ∷ b ∷ []) k in
        let j = join d x y (digits_of (take i s)) (a ∷ b ∷ []) at r f c (omega arith) (omega arith) in
        let t : put_end (length x) r (a ∷ b ∷ []) ≡ r + 2 = rw (le-leb (r + 2) (length x) k) in
        (omega arith, rw (add-one, spelled-more s i h, ← u, ← v) j)

    pub spelled-done : length s ≡ i → Puts d at (digits_of s) r x
    spelled-done k =
        let t : take i s ≡ s = take_all i s (omega arith) in
        fits d at (digits_of s) r x (omega (arith, spelled-length s)) (omega arith) (rw t at f)

-- ---- as the bytes that digits say
module _ (d : List ℕ) (at : ℕ) (s : List ℕ) where
  pub meant-full : length d < at + length s / 2 → Puts d at (bytes_of s) at d
  meant-full h = full d at (bytes_of s) (omega (arith, meant-length s))

  module _ (i : ℕ) (x : List ℕ) (room : at + length s / 2 ≤ length d) (e : x ≡ paste d at (bytes_of s) i) where
    pub meant-on : i < length s / 2 → (v : ℕ) → v ≡ byte_of (get_or s (2 * i) 0) (get_or s (2 * i + 1) 0) → set x (at + i) v ≡ paste d at (bytes_of s) (i + 1)
    meant-on h v f =
        let m = meant-length s in
        let g = meant-at s i (omega arith) in
        rw (e, f, ← g, add-one) (paste-suc d at (bytes_of s) i 0 (omega arith) (omega arith))

    pub meant-done : i ≡ length s / 2 → Puts d at (bytes_of s) (at + i) x
    unfolding over
    meant-done h =
        let n : i ≡ length (bytes_of s) = omega (arith, meant-length s) in
        fits d at (bytes_of s) (at + i) x (omega arith) (omega arith) (e ∙ rw (n, take-length))

-- ---- bytes as text, and the digits of a line
pub hex-none : (s : List ℕ) → length s ≡ 0 → hex_text s ≡ 45 ∷ []
unfolding hex_text
hex-none [] h = refl
hex-none (b ∷ l) h = absurd (omega arith)

pub hex-some : (s : List ℕ) → 0 < length s → hex_text s ≡ digits_of s
unfolding hex_text
hex-some [] h = absurd (omega arith)
hex-some (b ∷ l) h = refl

pub bytes-gone : (d s : List ℕ) (at len : ℕ) → length s < at + len → Puts d 0 (bytes_at s at len) 0 d
unfolding bytes_at over
bytes-gone d s at len h = rw (lt-leb (at + len) (length s) h) (fits d 0 [] 0 d refl (omega arith) refl)

pub bytes_there : (s : List ℕ) (at len : ℕ) → at + len ≤ length s → bytes_at s at len ≡ bytes_of (take (at + len - at) (drop at s))
unfolding bytes_at
bytes_there s at len h =
    let e : at + len - at ≡ len = omega arith in
    rw (le-leb (at + len) (length s) h, e)
