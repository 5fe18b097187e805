-- The parts of a list, each of as many bytes: where each of them stands, and all of them read or written back.
use Prim.Native.Nat.{ℕ, zero, suc, ◌+◌, ◌*◌, ◌≤◌, ◌<◌}
use mathlib.Core.Path.{◌≡◌, refl, ap, sym, ◌∙◌}
use mathlib.Core.List.{List, [], ◌∷◌, ◌++◌}
use native.Mathlib.Nat.{mul-zero, mul-suc}
use native.Mathlib.Omega.{arith}
use lib.ListN.{length, get_or, take, length-append}
use lib.Seq.{take-suc, take_all}
use Rattle.image.specs.Write.{each_of}
use Rattle.image.specs.Read.{rows_from, bytes_at}
use Rattle.image.specs.Laws.{Every}
use Rattle.image.proofs.Segments.{Stands, same, split, glue}
use Rattle.image.proofs.Puts.{each_snoc}

-- ---- a list that is made by index
made-front : {A : Type 0} (f : ℕ → A) (l : List A) (d : A) → ((i : ℕ) → i < length l → f i ≡ get_or l i d) → (i : ℕ) → i ≤ length l → rows_from i f ≡ take i l
unfolding rows_from
made-front f l d h zero b = refl
made-front {A} f l d h (suc i) b =
    ap (λ (t : List A). t ++ (f i ∷ [])) (made-front f l d h i (omega arith))
    ∙ ap (λ (x : A). take i l ++ (x ∷ [])) (h i (omega arith))
    ∙ sym (take-suc l i d (omega arith))

pub made : {A : Type 0} (f : ℕ → A) (l : List A) (d : A) (n : ℕ) → length l ≡ n → ((i : ℕ) → i < n → f i ≡ get_or l i d) → rows_from n f ≡ l
made f l d n e h = made-front f l d (λ i (b : i < length l). h i (omega arith)) n (omega arith) ∙ take_all n l (omega arith)

pub every-at : {A : Type 0} (P : A → Type 0) (d : A) (l : List A) (i : ℕ) → Every P l → i < length l → P (get_or l i d)
every-at P d [] i h b = absurd (omega arith)
every-at P d (x ∷ l) zero h b = h.0
every-at P d (x ∷ l) (suc i) h b = every-at P d l i h.1 (omega arith)

-- ---- the parts of a list
module _ {A : Type 0} (f : A → List ℕ) (P : A → Type 0) (size : ℕ) (sized : (x : A) → P x → length (f x) ≡ size) where
  pub each-length : (l : List A) → Every P l → length (each_of f l) ≡ size * length l
  unfolding each_of
  each-length [] h = sym (mul-zero size)
  each-length (x ∷ l) h =
      let one : length (f x) ≡ size = sized x h.0 in
      let rest : length (each_of f l) ≡ size * length l = each-length l h.1 in
      omega (arith, length-append (f x) (each_of f l), mul-suc size (length l))

  -- the first of them, and the others behind it
  halves : (s : List ℕ) (x : A) (l : List A) (p : ℕ) → Every P l → Stands s p (size * suc (length l)) (f x ++ each_of f l)
      → Stands s p size (f x) × Stands s (p + size) (size * length l) (each_of f l)
  halves s x l p h w =
      let e : size + size * length l ≡ size * suc (length l) = omega (arith, mul-suc size (length l)) in
      split s p size (size * length l) (f x) (each_of f l)
      (same s (f x ++ each_of f l) p p (size + size * length l) (size * suc (length l)) refl e w) (each-length l h)

  each_stands : (s : List ℕ) (none : A) (l : List A) (p i : ℕ) → Every P l → Stands s p (size * length l) (each_of f l) → i < length l
      → Stands s (p + size * i) size (f (get_or l i none))
  unfolding each_of
  each_stands s none [] p i h w b = absurd (omega arith)
  each_stands s none (x ∷ l) p zero h w b =
      same s (f x) p (p + size * 0) size size (omega (arith, mul-zero size)) refl (halves s x l p h.1 w).0
  each_stands s none (x ∷ l) p (suc j) h w b =
      same s (f (get_or l j none)) (p + size + size * j) (p + size * suc j) size size (omega (arith, mul-suc size j)) refl
      (each_stands s none l (p + size) j h.1 (halves s x l p h.1 w).1 (omega arith))

  -- where part i stands
  pub part-stands : (s : List ℕ) (none : A) (l : List A) (p n i : ℕ) → Every P l → length l ≡ n → Stands s p (size * n) (each_of f l) → i < n
      → Stands s (p + size * i) size (f (get_or l i none))
  part-stands s none l p n i h e w b =
      each_stands s none l p i h (same s (each_of f l) p p (size * length l) (size * n) refl (ap (λ (k : ℕ). size * k) e) w) (omega arith)

  -- a list of parts that are read back is read back
  pub each_back : (s : List ℕ) (none : A) (l : List A) (p n : ℕ) (g : ℕ → A) → Every P l → length l ≡ n → Stands s p (size * n) (each_of f l)
      → ((i : ℕ) (x : A) → P x → Stands s (p + size * i) size (f x) → g i ≡ x) → rows_from n g ≡ l
  each_back s none l p n g h e w part =
      made g l none n e (λ i (b : i < n). part i (get_or l i none) (every-at P none l i h (omega arith)) (part-stands s none l p n i h e w b))

-- a list of parts that write back writes back
pub each_again : {A : Type 0} (f : A → List ℕ) (g : ℕ → A) (s : List ℕ) (p size n : ℕ) → ((i : ℕ) → i < n → f (g i) ≡ bytes_at s (p + size * i) size)
    → each_of f (rows_from n g) ≡ bytes_at s p (size * n)
unfolding rows_from each_of
each_again f g s p size zero h = ap (bytes_at s p) (sym (mul-zero size))
each_again f g s p size (suc n) h =
    each_snoc f (rows_from n g) (g n)
    ∙ glue s p (size * n) size (each_of f (rows_from n g)) (f (g n)) (each_again f g s p size n (λ i (b : i < n). h i (omega arith))) (h n (omega arith))
    ∙ ap (bytes_at s p) (sym (mul-suc size n))
