-- Flags: those that are written are taken and read back, and those that are taken write back.
use Prim.Native.Nat.{ℕ, ◌+◌, ◌-◌, ◌*◌, ◌≤◌, ◌<◌}
use mathlib.Core.Path.{◌≡◌, refl, ap, sym, ◌∙◌}
use mathlib.Core.Bool.{Bool, true, false, cond}
use mathlib.Core.List.{List, [], ◌∷◌}
use mathlib.Core.Logic.{⊎_elim}
use native.Mathlib.Omega.{arith}
use borrow.Author.Tests.{leb-true}
use lib.ListN.{length, get_or}
use lib.Dec.{leb, eqb, lit<}
use Rattle.token.proofs.Laws.{lt-or-le}
use Rattle.image.specs.Write.{each_of, flag_of, flags_of}
use Rattle.image.specs.Read.{rows_from, bytes_at, flag_at, flags_ok}
use Rattle.image.specs.Laws.{Every}
use Rattle.image.proofs.Arrays.{all_true, below_each}
use Rattle.image.proofs.Segments.{Stands, byte_at, glue, run-one, same}
use Rattle.image.proofs.Lists.{made, each-length, part-stands, each_again}

-- of any value
abbrev pub Any : {A : Type 0} → A → Type 0
Any x = Unit {0}

pub any : {A : Type 0} (l : List A) → Every Any l
any [] = tt
any (x ∷ l) = (tt, any l)

-- ---- written
is-flag : (x : ℕ) (b : Bool) → x ≡ cond b 1 0 → eqb x 1 ≡ b
is-flag x true e = ap (λ (k : ℕ). eqb k 1) e
is-flag x false e = ap (λ (k : ℕ). eqb k 1) e

is-small : (x : ℕ) (b : Bool) → x ≡ cond b 1 0 → leb x 1 ≡ true
is-small x true e = ap (λ (k : ℕ). leb k 1) e
is-small x false e = ap (λ (k : ℕ). leb k 1) e

pub flags-length : (l : List Bool) → length (flags_of l) ≡ length l
flags-length l = each-length flag_of Any 1 (λ x h. refl) l (any l) ∙ omega arith

module _ (s : List ℕ) (p n : ℕ) (l : List Bool) (e : length l ≡ n) (w : Stands s p n (flags_of l)) where
  written : (q i : ℕ) → q ≡ p + i → i < n → get_or s q 0 ≡ cond (get_or l i false) 1 0
  written q i f b =
      byte_at s (p + 1 * i) 1 (flag_of (get_or l i false)) q 0
      (part-stands flag_of Any 1 (λ x h. refl) s false l p n i (any l) e (same s (flags_of l) p p (1 * n) n refl (omega arith) w) b)
      (omega arith) (lit< tt)

  pub flag-back : (q i : ℕ) → q ≡ p + i → i < n → flag_at s q ≡ get_or l i false
  flag-back q i f b = is-flag (get_or s q 0) (get_or l i false) (written q i f b)

  pub flags-back : rows_from n (λ (i : ℕ). flag_at s (p + i)) ≡ l
  flags-back = made (λ (i : ℕ). flag_at s (p + i)) l false n e (λ i b. flag-back (p + i) i refl b)

  pub flags-taken : flags_ok s p n ≡ true
  flags-taken = all_true (λ (i : ℕ). leb (get_or s (p + i) 0) 1) n (λ i b. is-small (get_or s (p + i) 0) (get_or l i false) (written (p + i) i refl b))

-- ---- taken
same_byte : (x : ℕ) → x ≤ 1 → cond (eqb x 1) 1 0 ≡ x
same_byte x h = ⊎_elim
    (λ (k : x < 1). let e : x ≡ 0 = omega arith in ap (λ (y : ℕ). cond (eqb y 1) 1 0) e ∙ sym e)
    (λ (k : 1 ≤ x). let e : x ≡ 1 = omega arith in ap (λ (y : ℕ). cond (eqb y 1) 1 0) e ∙ sym e)
    (lt-or-le x 1)

-- a flag of a run that is taken
pub small : (s : List ℕ) (p n : ℕ) → flags_ok s p n ≡ true → (q : ℕ) → p ≤ q → q < p + n → get_or s q 0 ≤ 1
small s p n h q a b =
    let e : q ≡ p + (q - p) = omega arith in
    leb-true (get_or s q 0) 1
    (ap (λ (k : ℕ). leb (get_or s k 0) 1) e ∙ below_each (λ (i : ℕ). leb (get_or s (p + i) 0) 1) n (q - p) h (omega arith))

-- two runs, one behind the other, are one
pub runs : (s : List ℕ) (p m n : ℕ) → flags_ok s p m ≡ true → flags_ok s (p + m) n ≡ true → flags_ok s p (m + n) ≡ true
runs s p m n h k =
    all_true (λ (i : ℕ). leb (get_or s (p + i) 0) 1) (m + n)
    (λ i (b : i < m + n). ⊎_elim
    (λ (c : i < m). below_each (λ (j : ℕ). leb (get_or s (p + j) 0) 1) m i h c)
    (λ (c : m ≤ i). let e : p + i ≡ p + m + (i - m) = omega arith in
    ap (λ (q : ℕ). leb (get_or s q 0) 1) e ∙ below_each (λ (j : ℕ). leb (get_or s (p + m + j) 0) 1) n (i - m) k (omega arith))
    (lt-or-le i m))

pub flag-again : (s : List ℕ) (p : ℕ) → get_or s p 0 ≤ 1 → p < length s → flag_of (flag_at s p) ≡ bytes_at s p 1
flag-again s p h b = ap (λ (x : ℕ). x ∷ []) (same_byte (get_or s p 0) h) ∙ run-one s p b

pub flags-again : (s : List ℕ) (p n : ℕ) → ((q : ℕ) → p ≤ q → q < p + n → get_or s q 0 ≤ 1) → p + n ≤ length s
    → flags_of (rows_from n (λ (i : ℕ). flag_at s (p + i))) ≡ bytes_at s p n
flags-again s p n h fit =
    each_again flag_of (λ (i : ℕ). flag_at s (p + i)) s p 1 n
    (λ i (b : i < n). let e : p + i ≡ p + 1 * i = omega arith in
    flag-again s (p + i) (h (p + i) (omega arith) (omega arith)) (omega arith) ∙ ap (λ (q : ℕ). bytes_at s q 1) e)
    ∙ ap (bytes_at s p) (let e : 1 * n ≡ n = omega arith in e)

-- flags by name, one in front of the others
pub flags-cons : (s : List ℕ) (p q n : ℕ) (bs : List Bool) → get_or s p 0 ≤ 1 → p < length s → q ≡ p + 1 → flags_of bs ≡ bytes_at s q n
    → flags_of (flag_at s p ∷ bs) ≡ bytes_at s p (1 + n)
unfolding each_of
flags-cons s p q n bs h b e w =
    glue s p 1 n (flag_of (flag_at s p)) (flags_of bs) (flag-again s p h b) (w ∙ ap (λ (k : ℕ). bytes_at s k n) e)

pub flags-nil : (s : List ℕ) (q : ℕ) → flags_of [] ≡ bytes_at s q 0
unfolding each_of
flags-nil s q = refl
