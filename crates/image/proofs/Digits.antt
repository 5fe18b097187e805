-- A number written at a place is read there, and a number read there writes back.
use Prim.Native.Nat.{ℕ, zero, suc, ◌+◌, ◌*◌, ◌/◌, ◌%◌, ◌^◌, ◌≤◌, ◌<◌}
use mathlib.Core.Path.{◌≡◌, refl, ap, sym, ◌∙◌}
use mathlib.Core.List.{List, [], ◌∷◌, ◌++◌}
use native.Mathlib.Nat.{div-add-mod', div-eq_of_lt, mul-add-div_right}
use native.Mathlib.Omega.{arith}
use lib.ListN.{length, get_or, drop, length-drop}
use lib.Seq.{take-suc, get_or-drop}
use lib.Dec.{lit<}
use Rattle.token.specs.Bytes.{be_val, be_of, number_at}
use Rattle.token.proofs.Laws.{be_val-snoc, be-val}
use Rattle.token.proofs.Numbers.{number-there}
use Rattle.image.specs.Read.{bytes_at}
use Rattle.image.proofs.Segments.{Stands}

pub number-back : (s : List ℕ) (p n v : ℕ) → n ≤ 8 → v < 256 ^ n → Stands s p n (be_of n v) → number_at s p n ≡ v
number-back s p n v k small h = number-there s p n k h.0 ∙ ap (be_val 0) h.1 ∙ be-val n v small

-- the digits of a number with one digit more
be-more : (n v x : ℕ) → x < 256 → be_of (suc n) (v * 256 + x) ≡ be_of n v ++ (x ∷ [])
unfolding be_of
be-more n v x h =
    let over : (v * 256 + x) / 256 ≡ v + x / 256 = mul-add-div_right {m = 256} (lit< tt) v x in
    let none : x / 256 ≡ 0 = div-eq_of_lt h in
    let all : (v * 256 + x) / 256 * 256 + (v * 256 + x) % 256 ≡ v * 256 + x = div-add-mod' (v * 256 + x) 256 in
    let q : (v * 256 + x) / 256 ≡ v = omega arith in
    let r : (v * 256 + x) % 256 ≡ x = omega arith in
    ap (λ (k : ℕ). be_of n k ++ (((v * 256 + x) % 256) ∷ [])) q ∙ ap (λ (k : ℕ). be_of n v ++ (k ∷ [])) r

module _ (s : List ℕ) (byte : (i : ℕ) → get_or s i 0 < 256) (p : ℕ) where
  be-of : (n : ℕ) → p + n ≤ length s → be_of n (be_val 0 (bytes_at s p n)) ≡ bytes_at s p n
  unfolding be_of be_val
  be-of zero h = refl
  be-of (suc n) h =
      let x : ℕ = get_or s (p + n) 0 in
      let e : bytes_at s p (suc n) ≡ bytes_at s p n ++ (x ∷ []) =
      take-suc (drop p s) n 0 (omega (arith, length-drop p s)) ∙ ap (λ (k : ℕ). bytes_at s p n ++ (k ∷ [])) (get_or-drop p s n 0) in
      ap (λ (l : List ℕ). be_of (suc n) (be_val 0 l)) e
      ∙ ap (be_of (suc n)) (be_val-snoc 0 (bytes_at s p n) x)
      ∙ be-more n (be_val 0 (bytes_at s p n)) x (byte (p + n))
      ∙ ap (λ (l : List ℕ). l ++ (x ∷ [])) (be-of n (omega arith))
      ∙ sym e

  pub number-again : (n : ℕ) → n ≤ 8 → p + n ≤ length s → be_of n (number_at s p n) ≡ bytes_at s p n
  number-again n k h = ap (be_of n) (number-there s p n k h) ∙ be-of n h
