-- The envelope around a payload that stands where it belongs.
use Rattle.std.specs.Prelude.{Ok}
use Rattle.std.specs.Result.{result_unwrap_or}
use Prim.Native.Nat.{ℕ, ◌+◌, ◌≤◌, ◌<◌}
use mathlib.Core.Path.{◌≡◌, refl, sym, ◌∙◌, ap, subst}
use mathlib.Core.Bool.{Bool, true, false, cond}
use mathlib.Core.List.{List, ◌++◌}
use native.Mathlib.Omega.{arith}
use borrow.Author.Tests.{le-leb}
use lib.ListN.{length, take, drop}
use lib.Dec.{leb}
use lib.Seq.{take_at, drop_at, drop-drop}
use Rattle.token.specs.Bytes.{over}
use Rattle.token.proofs.Writes.{over-length, over-drop}
use Rattle.packet.specs.Envelope.{pad_of, packet_of, carried, seal_end, seal_all}
use Rattle.packet.proofs.Writes.{carried-all}
use Rattle.packet.specs.declared.Tsn.{Tsn}
use Rattle.packet.specs.declared.Hsn.{Hsn}
use Rattle.model.specs.declared.Cells.{Cells}
use Rattle.model.specs.declared.Decision.{Decision}
use Rattle.model.specs.Answer.{answer}
use Rattle.model.specs.Step.{broke, framed}
use Rattle.model.proofs.Short.{answer-short, answer-some}
use Rattle.model.proofs.Framed.{packet_length}

pad-small : (n : ℕ) → pad_of n < 4
unfolding pad_of
pad-small n = omega arith

module _ (d p : List ℕ) (t h : ℕ) (some : 1 ≤ length p) (few : length p ≤ 1000) (room : 2048 ≤ length d) where
  fits : 56 + length p ≤ length d
  fits = omega arith

  carries : carried (length p) ≡ true
  carries = carried-all (length p) (some, omega (arith, pad-small (length p)))

  enough : 56 + length p + pad_of (length p) ≤ length (over d 56 p)
  enough = omega (arith, over-length d p 56 fits, pad-small (length p))

  -- the payload, and what stands behind it
  inner : take (length p) (drop 56 (over d 56 p)) ≡ p
  inner = rw (over-drop d p 56 fits) (take_at p (drop (56 + length p) d) (length p) refl)

  behind : (n : ℕ) → drop (56 + length p + n) (over d 56 p) ≡ drop (56 + length p + n) d
  behind n =
      sym (drop-drop n (56 + length p) (over d 56 p))
      ∙ ap (drop n) (sym (drop-drop (length p) 56 (over d 56 p)) ∙ rw (over-drop d p 56 fits) (drop_at p (drop (56 + length p) d) (length p) refl))
      ∙ drop-drop n (56 + length p) d

  pub sealed-end : seal_end (length (over d 56 p)) (length p) ≡ Ok (length (packet_of t h p))
  unfolding seal_end
  sealed-end = rw (carries, le-leb _ _ enough, packet_length t h p) refl

  pub sealed-all : seal_all (over d 56 p) t h (length p) ≡ packet_of t h p ++ drop (length (packet_of t h p)) d
  unfolding seal_all
  sealed-all = rw (carries, le-leb _ _ enough, packet_length t h p, inner, behind (pad_of (length p))) refl

-- what stands in the buffer at the end, and its count
abbrev pub Stands : List ℕ → ℕ → List ℕ → List ℕ → Type 0
Stands old r last x = (r ≡ length x) × (last ≡ x ++ drop (length x) old)

-- the payload of an answer is written, and then its envelope
pub written : (c : Cells) (d : Decision) (old : List ℕ) (t h n : ℕ) (mid : List ℕ) (r : ℕ) (last : List ℕ) → length c.msid ≡ 32 → 2048 ≤ length old
    → n ≡ cond (leb 2048 (length old)) (length (answer c d)) 0 → mid ≡ cond (leb 2048 (length old)) (over old 56 (answer c d)) old
    → r ≡ result_unwrap_or (seal_end (length mid) n) 0 → last ≡ seal_all mid t h n → Stands old r last (packet_of t h (answer c d))
written c d old t h n mid r last m room p q e f =
    let on : leb 2048 (length old) ≡ true = le-leb _ _ room in
    let some = answer-some c d in
    let few = answer-short c d m in
    let n-is : n ≡ length (answer c d) = p ∙ ap (λ (b : Bool). cond b (length (answer c d)) 0) on in
    let mid-is : mid ≡ over old 56 (answer c d) = q ∙ ap (λ (b : Bool). cond b (over old 56 (answer c d)) old) on in
    let ends : seal_end (length mid) n ≡ Ok (length (packet_of t h (answer c d))) = rw (mid-is, n-is) (sealed-end old (answer c d) t h some few room) in
    let leaves : seal_all mid t h n ≡ packet_of t h (answer c d) ++ drop (length (packet_of t h (answer c d))) old
    = rw (mid-is, n-is) (sealed-all old (answer c d) t h some few room) in
    (e ∙ ap (λ x. result_unwrap_or x 0) ends, f ∙ leaves)

-- on 0, 0 where the payload was broken, and else for the request's own session
module _ (c : Cells) (tsn : Tsn) (hsn : Hsn) (d : Decision) (old : List ℕ) (r : ℕ) (last : List ℕ) where
  pub framed-broke : broke d ≡ true → Stands old r last (packet_of 0 0 (answer c d)) → Stands old r last (framed c tsn hsn d)
  framed-broke b = subst (λ (x : Bool). Stands old r last (cond x (packet_of 0 0 (answer c d)) (packet_of tsn.0 hsn.0 (answer c d)))) (sym b)

  pub framed-else : broke d ≡ false → Stands old r last (packet_of tsn.0 hsn.0 (answer c d)) → Stands old r last (framed c tsn hsn d)
  framed-else b = subst (λ (x : Bool). Stands old r last (cond x (packet_of 0 0 (answer c d)) (packet_of tsn.0 hsn.0 (answer c d)))) (sym b)
