-- A run of bytes at a place: what stands there, in two parts and byte by byte.
use Prim.Native.Nat.{ℕ, ◌+◌, ◌≤◌, ◌<◌}
use mathlib.Core.Path.{◌≡◌, ap, sym, ◌∙◌}
use mathlib.Core.List.{List, [], ◌∷◌, ◌++◌}
use native.Mathlib.Omega.{arith}
use lib.ListN.{length, get_or, take, drop, length-append, length-drop}
use lib.Seq.{take-add, drop-drop, take_at, drop_at, drop-cons, get_or-take, get_or-drop, length-take-le}
use Rattle.image.specs.Read.{bytes_at}

-- the n bytes from p on are there, and are bs
abbrev pub Stands : List ℕ → ℕ → ℕ → List ℕ → Type 0
Stands s p n bs = (p + n ≤ length s) × (bytes_at s p n ≡ bs)

-- the same place and count by other names
pub same : (s bs : List ℕ) (p q m n : ℕ) → q ≡ p → m ≡ n → Stands s p n bs → Stands s q m bs
same s bs p q m n e f h = rw (e, f) h

module _ (s : List ℕ) (p : ℕ) where
  pub run_length : (n : ℕ) → p + n ≤ length s → length (bytes_at s p n) ≡ n
  run_length n h = length-take-le n (drop p s) (omega (arith, length-drop p s))

  pub run-add : (m n : ℕ) → bytes_at s p (m + n) ≡ bytes_at s p m ++ bytes_at s (p + m) n
  run-add m n = take-add m n (drop p s) ∙ ap (λ (l : List ℕ). take m (drop p s) ++ take n l) (drop-drop m p s)

  -- two parts that are read are one
  pub glue : (m n : ℕ) (a b : List ℕ) → a ≡ bytes_at s p m → b ≡ bytes_at s (p + m) n → a ++ b ≡ bytes_at s p (m + n)
  glue m n a b e f = ap (λ (l : List ℕ). l ++ b) e ∙ ap (λ (l : List ℕ). bytes_at s p m ++ l) f ∙ sym (run-add m n)

  -- what stands as two parts stands as each of them
  pub split : (m n : ℕ) (a b : List ℕ) → Stands s p (m + n) (a ++ b) → length b ≡ n → Stands s p m a × Stands s (p + m) n b
  split m n a b h e =
      let fit : p + (m + n) ≤ length s = h.0 in
      let all : length (a ++ b) ≡ m + n = sym (ap length h.1) ∙ run_length (m + n) fit in
      let front : length a ≡ m = omega (arith, length-append a b) in
      let both : bytes_at s p m ++ bytes_at s (p + m) n ≡ a ++ b = sym (run-add m n) ∙ h.1 in
      let read : length (bytes_at s p m) ≡ m = run_length m (omega arith) in (
        (omega arith, sym (take_at (bytes_at s p m) (bytes_at s (p + m) n) m read) ∙ ap (take m) both ∙ take_at a b m front),
        (omega arith, sym (drop_at (bytes_at s p m) (bytes_at s (p + m) n) m read) ∙ ap (drop m) both ∙ drop_at a b m front),
      )

  pub byte_at : (n : ℕ) (bs : List ℕ) (q i : ℕ) → Stands s p n bs → q ≡ p + i → i < n → get_or s q 0 ≡ get_or bs i 0
  byte_at n bs q i h e b =
      ap (λ (k : ℕ). get_or s k 0) e ∙ sym (get_or-take n (drop p s) i 0 b ∙ get_or-drop p s i 0) ∙ ap (λ (l : List ℕ). get_or l i 0) h.1

  pub run-one : p < length s → (get_or s p 0 ∷ []) ≡ bytes_at s p 1
  run-one h = sym (ap (take 1) (drop-cons s p 0 h))
