-- The decimal digits of a number, stored from the last to the first.
use Prim.Native.Nat.{ℕ, zero, suc, ◌-◌, ◌/◌, ◌%◌, ◌^◌, ◌≤◌, ◌<◌}
use mathlib.Core.Path.{◌≡◌, sym, ◌∙◌}
use mathlib.Core.List.{List, ◌∷◌, ◌++◌}
use native.Mathlib.Omega.{arith}
use native.Mathlib.Nat.{pow-suc}
use lib.ListN.{length, take, drop, set, length-set, length-drop}
use lib.Seq.{take_all, drop-cons, append_snoc, get_or-set_same, drop-set-lt}
use borrow.Author.Tests.{lt-ltb, le-ltb}
use Rattle.line.specs.Hex.{char_of}
use Rattle.line.specs.Number.{dec_of}

-- a store in front of what is there
front : (d : List ℕ) (k x : ℕ) → k < length d → drop k (set d k x) ≡ x ∷ drop (suc k) d
front d k x h =
    let g : k < length (set d k x) = rw length-set h in
    rw (drop-cons (set d k x) k 0, get_or-set_same d k x 0, drop-set-lt (suc k) d k x (omega arith))

-- two digits want two places
pub dec-room : (w j : ℕ) → 10 ≤ w → w < 10 ^ j → 1 < j
dec-room w zero h k = absurd (omega arith)
dec-room w (suc zero) h k = absurd (omega arith)
dec-room w (suc (suc j)) h k = omega arith

pub dec-falls : (w j : ℕ) → 0 < j → w < 10 ^ j → w / 10 < 10 ^ (j - 1)
dec-falls w zero h k = absurd (omega arith)
dec-falls w (suc j) h k =
    let e : suc j - 1 ≡ j = omega arith in
    rw e (omega (arith, pow-suc 10 j))

pub dec-on : (d : List ℕ) (w j : ℕ) → 10 ≤ w → 0 < j → j ≤ length d
    → dec_of j w ++ drop j d ≡ dec_of (j - 1) (w / 10) ++ drop (j - 1) (set d (j - 1) (char_of (w % 10)))
unfolding dec_of
dec-on d w zero h k l = absurd (omega arith)
dec-on d w (suc j) h k l =
    let e : suc j - 1 ≡ j = omega arith in
    rw (e, le-ltb w 10 h, front d j (char_of (w % 10)) (omega arith)) (append_snoc (dec_of j (w / 10)) (char_of (w % 10)) (drop (suc j) d))

dec-last : (d : List ℕ) (w j : ℕ) → w < 10 → 0 < j → j ≤ length d → dec_of j w ++ drop j d ≡ drop (j - 1) (set d (j - 1) (char_of w))
unfolding dec_of
dec-last d w zero h k l = absurd (omega arith)
dec-last d w (suc j) h k l =
    let e : suc j - 1 ≡ j = omega arith in
    rw (e, lt-ltb w 10 h, front d j (char_of w) (omega arith))

-- what stands from the last store on
pub dec-done : (d : List ℕ) (v w j x : ℕ) → w < 10 → 0 < j → j ≤ 20 → length d ≡ 20 → dec_of 20 v ≡ dec_of j w ++ drop j d → x ≡ char_of w
    → dec_of 20 v ≡ take (20 - (j - 1)) (drop (j - 1) (set d (j - 1) x))
dec-done d v w j x h k l n e q =
    let m : length (drop (j - 1) (set d (j - 1) (char_of w))) ≤ 20 - (j - 1) = simp (length-drop, length-set, n) (omega arith) in
    e ∙ dec-last d w j h k (omega arith) ∙ rw q (sym (take_all (20 - (j - 1)) (drop (j - 1) (set d (j - 1) (char_of w))) m))
