-- Texts at the front of a buffer, and how long they are.
use Prim.Native.Nat.{ℕ, zero, suc, ◌+◌, ◌*◌, ◌/◌, ◌%◌, ◌≤◌}
use mathlib.Core.Path.{◌≡◌, refl, ap, ◌∙◌}
use mathlib.Core.Bool.{Bool, true}
use mathlib.Core.List.{List, [], ◌∷◌, ◌++◌, append_assoc}
use native.Mathlib.Omega.{arith}
use borrow.Author.Tests.{le-leb}
use lib.ListN.{length, length-append}
use lib.Dec.{ltb}
use Rattle.token.specs.Bytes.{over}
use Rattle.token.specs.Write.{put_all}
use Rattle.token.proofs.Writes.{cond-all, all-fits, all-length, join}
use Rattle.line.specs.Hex.{digits_of, char_of}
use Rattle.line.specs.Number.{dec_of, decimal_of}
use Rattle.line.specs.Write.{hex_text, put_end}
use Rattle.desk.specs.Desk.{Said, Texted, Turned}

-- ---- how long a text is
dec-short : (k v : ℕ) → length (dec_of (suc k) v) ≤ suc k
unfolding dec_of
dec-short zero v = cond-all (λ (l : List ℕ). length l ≤ 1) (ltb v 10) _ _ (λ _. omega arith) (λ _. omega arith)
dec-short (suc k) v =
    cond-all (λ (l : List ℕ). length l ≤ suc (suc k)) (ltb v 10) _ _ (λ _. omega arith)
    (λ _. omega (arith, dec-short k (v / 10), length-append (dec_of (suc k) (v / 10)) (char_of (v % 10) ∷ [])))

pub decimal-short : (v : ℕ) → length (decimal_of v) ≤ 20
decimal-short v = dec-short 19 v

digits-length : (l : List ℕ) → length (digits_of l) ≡ 2 * length l
unfolding digits_of
digits-length [] = refl
digits-length (b ∷ l) = omega (arith, digits-length l)

pub hex-short : (l : List ℕ) (n : ℕ) → length l ≤ n → 1 ≤ n → length (hex_text l) ≤ 2 * n
unfolding hex_text
hex-short [] n h m = omega arith
hex-short (b ∷ l) n h m = omega (arith, digits-length (b ∷ l))

-- ---- where there is room
pub put-there : (d bs y : List ℕ) (at r : ℕ) → r ≡ put_end (length d) at bs → y ≡ put_all true d at bs → at + length bs ≤ length d → (r ≡ at + length bs) × (y ≡ over d at bs)
unfolding put_end
put-there d bs y at r p q h = (p ∙ simp (le-leb (at + length bs) (length d) h), q ∙ all-fits d at bs h)

pub text-there : (d bs y : List ℕ) (r : ℕ) → r ≡ put_end (length d) 0 bs → y ≡ put_all true d 0 bs → length bs ≤ length d → Texted d bs r y
text-there d bs y r p q h =
    let w = put-there d bs y 0 r p q (omega arith) in
    record { count = omega (arith, w.0); out = w.1 }

-- a number, a blank and bytes, one behind another
pub reply-there : (d x y z D H : List ℕ) (a b r : ℕ) → a ≡ put_end (length d) 0 D → x ≡ put_all true d 0 D
    → b ≡ put_end (length x) a (32 ∷ []) → y ≡ put_all true x a (32 ∷ []) → r ≡ put_end (length y) b H → z ≡ put_all true y b H
    → length D ≤ 20 → 21 + length H ≤ length d → Texted d (D ++ (32 ∷ H)) r z
reply-there d x y z D H a b r p₁ q₁ p₂ q₂ p₃ q₃ h m =
    let w₁ = put-there d D x 0 a p₁ q₁ (omega arith) in
    let l₁ : length x ≡ length d = ap length q₁ ∙ all-length true d 0 D in
    let w₂ = put-there x (32 ∷ []) y a b p₂ q₂ (omega (arith, w₁.0)) in
    let l₂ : length y ≡ length x = ap length q₂ ∙ all-length true x a (32 ∷ []) in
    let w₃ = put-there y H z b r p₃ q₃ (omega (arith, w₁.0, w₂.0)) in
    let s₁ : y ≡ over d 0 (D ++ (32 ∷ [])) = join d x y D (32 ∷ []) 0 a w₁.1 w₂.1 w₁.0 (omega (arith, w₁.0)) in
    let n : length (D ++ (32 ∷ [])) ≡ length D + 1 = length-append D (32 ∷ []) in
    let s₂ : z ≡ over d 0 ((D ++ (32 ∷ [])) ++ H) = join d y z (D ++ (32 ∷ [])) H 0 b s₁ w₃.1 (omega (arith, w₁.0, w₂.0)) (omega (arith, w₁.0, w₂.0)) in
    let e : (D ++ (32 ∷ [])) ++ H ≡ D ++ (32 ∷ H) = append_assoc D (32 ∷ []) H in
    record { count = rw (← e) (omega (arith, w₁.0, w₂.0, w₃.0, length-append (D ++ (32 ∷ [])) H)); out = rw (← e) s₂ }

-- ---- the same text in other words, and a turn that says it
pub retext : {d t u y : List ℕ} {r : ℕ} → Texted d t r y → t ≡ u → Texted d u r y
retext w e = rw (← e) w

pub turns : (x : Said) (d i y : List ℕ) (h : Bool) (n : ℕ) → Texted d x.text n y → h ≡ x.there → i ≡ x.image → Turned x d (record { there = h; count = n }) i y
turns x d i y h n t e f = record { there = e; count = t.count; image = f; out = t.out }
