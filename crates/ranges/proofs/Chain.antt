-- The media's verdict goes down document 01's chain, and the chain gives one verdict only. Over any number of rows.
use Prim.Native.Nat.{ℕ, zero, suc, ◌+◌, ◌≤◌, ◌<◌}
use mathlib.Core.Path.{◌≡◌, refl, sym, ◌∙◌}
use mathlib.Core.Bool.{Bool, true, false, not, ◌&&◌, cond, true≢false}
use mathlib.Core.List.{List}
use lib.ListN.{length}
use lib.Dec.{leb, ltb, eqb}
use native.Mathlib.Nat.{lt-suc_self}
use native.Mathlib.Omega.{arith}
use borrow.Author.Tests.{eqb-true, eqb-false, leb-true, lt-ltb, not-false}
use Rattle.ranges.specs.declared.Row.{Row}
use Rattle.ranges.specs.declared.Mbr.{Mbr}
use Rattle.ranges.specs.declared.Verdict.{Verdict}
use Rattle.ranges.specs.declared.Verdict.TheVariants as W
use Rattle.ranges.specs.Decides.{Decides, all}
use Rattle.ranges.specs.Row.{row_at}
use Rattle.ranges.specs.Fit.{Fit}
use Rattle.ranges.specs.Owner.{owner_of}
use Rattle.ranges.specs.Media.{barred_b, clear_b, shadow_of, media_of}
use Rattle.ranges.specs.Laws.{Passes}
use Rattle.ranges.specs.Exact.{Barred, On, Open, Locked, First, so, not_so, Ruled}
use Rattle.ranges.proofs.Decide.{map, dec-le, dec-lt, dec-and}
use Rattle.ranges.proofs.Owners.{owns, owns-once}
use Rattle.ranges.proofs.Verdicts.{clear-decides}

-- ---- tests of the chain
is_set : (b : Bool) → Decides b (b ≡ true)
is_set b = record { holds = λ e. e; fails = λ f t. absurd (true≢false (sym t ∙ f)) }

is-clear : (b : Bool) → Decides (not b) (b ≡ false)
is-clear true = record { holds = λ e. absurd (true≢false (sym e)); fails = λ _ f. true≢false f }
is-clear false = record { holds = λ _. refl; fails = λ e _. true≢false e }

is_same : (m n : ℕ) → Decides (eqb m n) (m ≡ n)
is_same m n = record { holds = eqb-true m n; fails = eqb-false m n }

abbrev on_b : Mbr → Bool
on_b m = m.enable && not m.done

is-on : (m : Mbr) → Decides (on_b m) (On m)
is-on m = dec-and _ _ (is_set m.enable) (is-clear m.done)

-- ---- who is barred
is-barred : (r : Row) (write : Bool) → Decides (barred_b r write) (Barred r write)
unfolding barred_b
is-barred r true = dec-and _ _ (is_set _) (is_set _)
is-barred r false = dec-and _ _ (is_set _) (is_set _)

unbarred : (r : Row) (write : Bool) → Passes r write → Barred r write → ⊥
unbarred r true p b = p.writing refl b.0 b.1
unbarred r false p b = p.reading refl b.0 b.1

passing : (r : Row) (write : Bool) → (Barred r write → ⊥) → Passes r write
passing r true n = record { reading = λ e. absurd (true≢false e); writing = λ _ a b. n (a, b) }
passing r false n = record { reading = λ _ a b. n (a, b); writing = λ e. absurd (true≢false (sym e)) }

-- a number at which a test of all fails
abbrev Fails : (ℕ → Bool) → ℕ → Type 0
Fails p n = (k : ℕ) × (k < n) × (p k ≡ false)

fails_more : (p : ℕ → Bool) (n : ℕ) (b : Bool) {r : Bool} → p n ≡ b → (r ≡ false → Fails p n) → (b && r) ≡ false → Fails p (suc n)
fails_more p n true e later f = let w = later f in (w.0, omega (arith, w.1), w.2)
fails_more p n false e later f = (n, lt-suc_self n, e)

fails-at : (p : ℕ → Bool) (n : ℕ) → all p n ≡ false → Fails p n
unfolding all
fails-at p zero e = absurd (true≢false e)
fails-at p (suc n) e = fails_more p n (p n) refl (fails-at p n) e

module _ (rows : List Row) (n : ℕ) (long : 1 ≤ length rows) (fit : Fit rows n) (write : Bool) (start count : ℕ) where
  is_open_lem : Decides (clear_b rows write start count) (Open rows write start count)
  is_open_lem =
      map
      (λ h s o a b x. unbarred (row_at rows o) write (rw (owns-once rows s n fit o (owner_of rows s) x (owns rows s long)) (h s a b)))
      (λ h s a b. passing _ write (h s (owner_of rows s) a b (owns rows s long)))
      (clear-decides rows write start count)

  is-locked : clear_b rows write start count ≡ false → Locked rows write start count
  unfolding clear_b
  is-locked e =
      let w = fails-at _ count e in
      let s : ℕ = start + w.0 in
      (s, owner_of rows s, omega (arith, w.1), omega (arith, w.1), owns rows s long, (is-barred (row_at rows (owner_of rows s)) write).holds (not-false _ w.2))

-- ---- one link of the chain
module _ {P : Type 0} {v : Verdict} {rest : Verdict → Type 0} where
  link : (b : Bool) (w : Verdict) → Decides b P → ((P → ⊥) → b ≡ false → rest w) → First P v rest (cond b v w)
  link true w d r = so (d.holds refl)
  link false w d r = not_so w (d.fails refl) (r (d.fails refl) refl)

  one-verdict : {a b : Verdict} → (rest a → rest b → a ≡ b) → First P v rest a → First P v rest b → a ≡ b
  one-verdict h (so p) (so q) = refl
  one-verdict h (so p) (not_so w n r) = absurd (n p)
  one-verdict h (not_so w n r) (so q) = absurd (n q)
  one-verdict h (not_so w n r) (not_so x m s) = h r s

-- the code asks once whether the shadow is touched, the chain twice: what ends below the border starts there too
as-chain : (e d w below touches : Bool) (z : Verdict) → (below ≡ true → touches ≡ true)
    → cond (e && (not d && touches)) (cond (not w && below) W.Shadow W.Refused) z
    ≡ cond ((e && not d) && (not w && below)) W.Shadow (cond ((e && not d) && touches) W.Refused z)
as-chain false d w below touches z h = refl
as-chain true true w below touches z h = refl
as-chain true false w below true z h = refl
as-chain true false w true false z h = absurd (true≢false (sym (h refl)))
as-chain true false true false false z h = refl
as-chain true false false false false z h = refl

starts-below : (start count n : ℕ) → (count ≡ 0 → ⊥) → leb (start + count) n ≡ true → ltb start n ≡ true
starts-below start count n some e = let h : start + count ≤ n = leb-true _ _ e in lt-ltb start n (omega arith)

module _ (rows : List Row) (m : Mbr) (active : Bool) (n : ℕ) (write : Bool) (start count : ℕ) where
  pub ruled : 1 ≤ length rows → Fit rows n → Ruled rows m active n write start count (media_of rows m active n write start count)
  unfolding media_of shadow_of
  ruled long fit =
      link _ _ (dec-lt n (start + count))
      (λ _ _. link _ _ (is_same count 0)
      (λ some _. link _ _ (is-clear active)
      (λ _ _. rw (as-chain m.enable m.done write (leb (start + count) 262144) (ltb start 262144) _ (starts-below start count 262144 some))
      (link _ _ (map (λ h. (h.0, h.1.0, h.1.1)) (λ h. (h.0, (h.1, h.2))) (dec-and _ _ (is-on m) (dec-and _ _ (is-clear write) (dec-le (start + count) 262144))))
      (λ _ _. link _ _ (dec-and _ _ (is-on m) (dec-lt start 262144))
      (λ _ _. link _ _ (is_open_lem rows n long fit write start count)
      (λ _ f. (refl, is-locked rows n long fit write start count f))))))))

  pub one-ruled : {v w : Verdict} → Ruled rows m active n write start count v → Ruled rows m active n write start count w → v ≡ w
  one-ruled = one-verdict (one-verdict (one-verdict (one-verdict (one-verdict (one-verdict (λ a b. a.0 ∙ sym b.0))))))
