-- What the writers need: one part behind another, and a loop that writes the parts of a list.
use Prim.Native.Nat.{ℕ, ◌+◌, ◌*◌, ◌≤◌, ◌<◌}
use mathlib.Core.Path.{◌≡◌, refl, ap, sym, ◌∙◌}
use mathlib.Core.List.{List, [], ◌∷◌, ◌++◌, append-nil, append_assoc}
use native.Mathlib.Nat.{add-zero, mul-zero, mul-le-mul_left}
use native.Mathlib.Numerals.{add-one}
use native.Mathlib.Omega.{arith}
use lib.ListN.{length, get_or, take, drop, length-append, take-append-drop, drop_of_length-le}
use lib.Seq.{take-suc}
use Rattle.token.specs.Bytes.{over}
use Rattle.token.proofs.Writes.{join, whole}
use Rattle.image.specs.Write.{each_of, Put}

pub put-none : (d : List ℕ) (at : ℕ) → Put d at [] 0 at d
unfolding over
put-none d at =
    let e : d ≡ take at d ++ [] ++ drop (at + 0) d =
    sym (ap (λ (k : ℕ). take at d ++ [] ++ drop k d) (add-zero at) ∙ ap (λ (l : List ℕ). l ++ drop at d) (append-nil (take at d)) ∙ take-append-drop at d) in
    (sym (add-zero at), e, refl)

-- one part behind another
pub behind : (d x y a b : List ℕ) (at k r m n : ℕ) → Put d at a m k x → Put x k b n r y → at + m ≤ length d → Put d at (a ++ b) (m + n) r y
behind d x y a b at k r m n p q h =
    let e : k ≡ at + m = p.0 in
    let f : r ≡ k + n = q.0 in
    let u : length a ≡ m = p.2 in
    let v : length b ≡ n = q.2 in
    (omega arith, join d x y a b at k p.1 q.1 (omega arith) (omega arith), length-append a b ∙ omega arith)

-- the same count by another name
pub sized : (d y bs : List ℕ) (at r n m : ℕ) → n ≡ m → Put d at bs n r y → Put d at bs m r y
sized d y bs at r n m e w = rw e at w

-- ---- the parts of a list, each of as many bytes
module _ {A : Type 0} (f : A → List ℕ) where
  pub each_snoc : (l : List A) (x : A) → each_of f (l ++ (x ∷ [])) ≡ each_of f l ++ f x
  unfolding each_of
  each_snoc [] x = append-nil (f x)
  each_snoc (y ∷ l) x = ap (λ (t : List ℕ). f y ++ t) (each_snoc l x) ∙ sym (append_assoc (f y) (each_of f l) (f x))

  pub each_more : (l : List A) (i : ℕ) (none : A) → i < length l → each_of f (take i l) ++ f (get_or l i none) ≡ each_of f (take (i + 1) l)
  each_more l i none h =
      sym (ap (λ (k : ℕ). each_of f (take k l)) (add-one i) ∙ ap (each_of f) (take-suc l i none h) ∙ each_snoc (take i l) (get_or l i none))

  -- before the first turn, and a turn that writes part i, which is x
  pub started : (size : ℕ) (d : List ℕ) (at : ℕ) (l : List A) → Put d at (each_of f (take 0 l)) (size * 0) at d
  unfolding each_of
  started size d at l = sized d d [] at at 0 (size * 0) (sym (mul-zero size)) (put-none d at)

  pub turned : (size : ℕ) (l : List A) (i : ℕ) (x : A) (d b y : List ℕ) (at p r : ℕ) → i < length l → x ≡ get_or l i x
      → at + size * length l ≤ length d → Put d at (each_of f (take i l)) (size * i) p b → Put b p (f x) size r y
      → Put d at (each_of f (take (i + 1) l)) (size * (i + 1)) r y
  turned size l i x d b y at p r h e fit was now =
      let n : size * (i + 1) ≡ size * i + size = omega arith in
      let room : size * i ≤ size * length l = mul-le-mul_left size (omega arith) in
      let parts : each_of f (take i l) ++ f x ≡ each_of f (take (i + 1) l) = ap (λ (v : A). each_of f (take i l) ++ f v) e ∙ each_more l i x h in
      let all = behind d b y (each_of f (take i l)) (f x) at p r (size * i) size was now (omega arith) in
      rw (← parts, n) all

-- a write as long as the buffer leaves nothing of it
pub filled : (d y bs : List ℕ) (n r : ℕ) → Put d 0 bs n r y → length d ≡ n → y ≡ bs
filled d y bs n r w e =
    let l : length bs ≡ n = w.2 in
    whole d y bs n w.1 (sym l) ∙ ap (λ (t : List ℕ). bs ++ t) (drop_of_length-le d {i = n} (omega arith)) ∙ append-nil bs
