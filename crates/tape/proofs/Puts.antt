-- What is put for one node, and the three words that are laid for one token.
use Prim.Native.Nat.{ℕ, suc, ◌+◌, ◌-◌, ◌≤◌, ◌<◌}
use mathlib.Core.Path.{◌≡◌, refl, sym, ◌∙◌}
use mathlib.Core.List.{List, [], ◌∷◌}
use mathlib.Core.Bool.{true}
use native.Mathlib.Omega.{arith}
use lib.ListN.{length, take, drop, set, length-drop}
use lib.Seq.{length-take-le}
use lib.Dec.{leb, ltb}
use borrow.Author.Tests.{lt-ltb}
use Rattle.token.specs.Bytes.{over}
use Rattle.token.specs.Token.{is_control}
use Rattle.token.specs.Write.{head_of, enc_bytes, max_bytes, put_all}
use Rattle.token.proofs.Laws.{inside}
use Rattle.token.proofs.Forms.{bytes-length}
use Rattle.token.proofs.Writes.{cond-all, over-sets}
use Rattle.tape.proofs.Walks.{over_none}

module _ (bs : List ℕ) (a b : ℕ) (lent : a + b ≤ length bs) where
  part-is : length (take b (drop a bs)) ≡ b
  part-is = length-take-le b (drop a bs) (rw length-drop (omega arith))

  pub part_length : (h : ℕ) → h ≡ length (head_of b) → h + b ≡ length (enc_bytes (take b (drop a bs)))
  part_length h e = rw (bytes-length (take b (drop a bs)), part-is, e)

  pub part-put : (d l : List ℕ) (at : ℕ) → b < max_bytes → l ≡ put_all (ltb (length (take (a + b - a) (drop a bs))) max_bytes) d at (enc_bytes (take (a + b - a) (drop a bs)))
      → l ≡ put_all true d at (enc_bytes (take b (drop a bs)))
  part-put d l at h e =
      let s : a + b - a ≡ b = omega arith in
      let u = lt-ltb (length (take b (drop a bs))) max_bytes (rw part-is h) in
      e ∙ rw (s, u)

pub mark-is : (c : ℕ) → 0xf0 ≤ c → c ≤ 0xf3 → is_control c ≡ true
unfolding is_control
mark-is c h k = rw (inside 0xf0 0xf3 c h k)

pub mark-put : (c : ℕ) (d l : List ℕ) (at : ℕ) → 0xf0 ≤ c → c ≤ 0xf3 → l ≡ put_all (is_control c) d at (c ∷ []) → l ≡ put_all true d at (c ∷ [])
mark-put c d l at h k e = e ∙ rw (mark-is c h k)

pub none-put : (d : List ℕ) (at : ℕ) → d ≡ put_all true d at []
unfolding put_all
none-put d at = cond-all (λ (l : List ℕ). d ≡ l) (leb (at + 0) (length d)) (over d at []) d (λ e. sym (over_none d at)) (λ e. refl)

pub over-three : (d : List ℕ) (at x y z : ℕ) → at + 3 ≤ length d → set (set (set d at x) (at + 1) y) (at + 2) z ≡ over d at (x ∷ y ∷ z ∷ [])
over-three d at x y z h =
    let e₁ : at + 1 ≡ suc at = omega arith in
    let e₂ : at + 2 ≡ suc (suc at) = omega arith in
    rw (e₁, e₂) (over-sets d (x ∷ y ∷ z ∷ []) at h)
