-- Bytes put into a buffer, one write behind another, and what a writer answers by the room that there is.
use Prim.Native.Nat.{ℕ, zero, suc, ◌+◌, ◌/◌, ◌≤◌, ◌<◌}
use mathlib.Core.Path.{◌≡◌, refl, sym, ◌∙◌}
use mathlib.Core.List.{List, [], ◌∷◌, ◌++◌, append_assoc}
use mathlib.Core.Bool.{Bool, true, false, cond}
use native.Mathlib.Omega.{arith}
use native.Mathlib.Nat.{zero-add}
use lib.ListN.{length, take, drop, set, length-set, get_or, length-append, length-drop, take-append-drop}
use lib.Seq.{take-suc, set_at, take_at, drop_at, drop-drop, append_snoc, length-take-le, sets, sets-eq, take-length}
use lib.Dec.{leb}
use borrow.Rule.Slice.PartMut.{put_mid}
use Rattle.std.proofs.lemmas.Slice.{put_mid-paste}
use borrow.Author.Tests.{le-leb, lt-leb, leb-true, leb-false}
use Rattle.std.proofs.lemmas.Bool.{cond_both}
use Rattle.std.specs.Prelude.{Result, Ok, Err}
use Rattle.token.specs.declared.PutError.{PutError}
use Rattle.token.specs.declared.PutError.TheVariants as P
use Rattle.token.specs.Bytes.{be_of, over}
use Rattle.token.specs.Write.{put_end, put_all}

-- a property of both arms, each with its test
pub cond-all : {A : Type 0} (P : A → Type 0) (t : Bool) (a b : A) → (t ≡ true → P a) → (t ≡ false → P b) → P (cond t a b)
cond-all P t a b f g = cond_both t a b P f g

-- ---- bytes in a buffer
module _ (d bs : List ℕ) (at : ℕ) (fits : at + length bs ≤ length d) where
  front_length : length (take at d ++ bs) ≡ at + length bs
  front_length = simp (length-append, length-take-le at d (omega arith))

  pub over-length : length (over d at bs) ≡ length d
  unfolding over
  over-length = rw length-append (omega (arith, front_length, length-drop (at + length bs) d))

  -- what stands before them, and what stands from them on
  pub over-take : take at (over d at bs) ≡ take at d
  unfolding over
  over-take = rw append_assoc (take_at (take at d) (bs ++ drop (at + length bs) d) at (length-take-le at d (omega arith)))

  pub over-drop : drop at (over d at bs) ≡ bs ++ drop (at + length bs) d
  unfolding over
  over-drop = rw append_assoc (drop_at (take at d) (bs ++ drop (at + length bs) d) at (length-take-le at d (omega arith)))

  -- one write behind another
  pub over-over : (cs : List ℕ) → over (over d at bs) (at + length bs) cs ≡ over d at (bs ++ cs)
  unfolding over
  over-over cs =
      let rest : List ℕ = drop (at + length bs) d in
      let q : at + length (bs ++ cs) ≡ at + length bs + length cs = simp length-append (omega arith) in
      rw (
        take_at (take at d ++ bs) rest (at + length bs) front_length,
        ← drop-drop (length cs) (at + length bs) (take at d ++ bs ++ rest),
        drop_at (take at d ++ bs) rest (at + length bs) front_length,
        drop-drop (length cs) (at + length bs) d,
        append_assoc (take at d) bs cs,
        q,
      )

-- what two writes left: the second was where the first ended
pub join : (d x y bs cs : List ℕ) (at k : ℕ) → x ≡ over d at bs → y ≡ over x k cs → k ≡ at + length bs → k ≤ length d → y ≡ over d at (bs ++ cs)
join d x y bs cs at k p q e h = q ∙ rw (p, e) (over-over d bs at (omega arith) cs)

-- a write from the front, of n bytes in all
pub whole : (d y bs : List ℕ) (n : ℕ) → y ≡ over d 0 bs → n ≡ length bs → y ≡ bs ++ drop n d
unfolding over
whole d y bs n p e = p ∙ rw (zero-add, e)

-- stores in a row
pub over-sets : (d bs : List ℕ) (at : ℕ) → at + length bs ≤ length d → sets d at bs ≡ over d at bs
unfolding over
over-sets d bs at h = sets-eq bs d at h

pub over-one : (d : List ℕ) (at x : ℕ) → at < length d → set d at x ≡ over d at (x ∷ [])
over-one d at x h = over-sets d (x ∷ []) at (omega arith)

-- a part that was written
pub over-part : (d ys : List ℕ) (at k : ℕ) → length ys ≡ k → put_mid at k d ys ≡ over d at ys
unfolding over
over-part d ys at k e = put_mid-paste at k d ys ys k refl refl (sym e) ∙ rw (← e, take-length)

-- a store, and then others after it
pub over-more : (d bs : List ℕ) (at x : ℕ) → at < length d → over (set d at x) (at + 1) bs ≡ over d at (x ∷ bs)
over-more d bs at x h = rw (over-sets d (x ∷ []) at (omega arith)) (over-over d (x ∷ []) at (omega arith) bs)

-- ---- the digits of a number
pub be-length : (n v : ℕ) → length (be_of n v) ≡ n
unfolding be_of
be-length zero v = refl
be-length (suc n) v = simp (length-append, be-length n (v / 256)) (omega arith)

-- ---- what a writer answers, and what it leaves
pub put-fits : (n at : ℕ) (bs : List ℕ) → at + length bs ≤ n → put_end true n at bs ≡ Ok (at + length bs)
unfolding put_end
put-fits n at bs h = simp (le-leb (at + length bs) n h)

pub put_full : (n at : ℕ) (bs : List ℕ) → n < at + length bs → put_end true n at bs ≡ Err P.Full
unfolding put_end
put_full n at bs h = simp (lt-leb (at + length bs) n h)

pub put-outside : (n at : ℕ) (bs : List ℕ) → put_end false n at bs ≡ Err P.Outside
unfolding put_end
put-outside n at bs = refl

pub all-fits : (d : List ℕ) (at : ℕ) (bs : List ℕ) → at + length bs ≤ length d → put_all true d at bs ≡ over d at bs
unfolding put_all
all-fits d at bs h = simp (le-leb (at + length bs) (length d) h)

pub all-full : (d : List ℕ) (at : ℕ) (bs : List ℕ) → length d < at + length bs → put_all true d at bs ≡ d
unfolding put_all
all-full d at bs h = simp (lt-leb (at + length bs) (length d) h)

pub all-outside : (d : List ℕ) (at : ℕ) (bs : List ℕ) → put_all false d at bs ≡ d
unfolding put_all
all-outside d at bs = refl

pub all-length : (ok : Bool) (d : List ℕ) (at : ℕ) (bs : List ℕ) → length (put_all ok d at bs) ≡ length d
unfolding put_all
all-length false d at bs = refl
all-length true d at bs =
    cond-all (λ (l : List ℕ). length l ≡ length d) (leb (at + length bs) (length d)) (over d at bs) d
    (λ e. over-length d bs at (leb-true (at + length bs) (length d) e)) (λ e. refl)

-- what a writer answers and leaves, by the room that there is
pub ruleset writes = (put-fits, put_full, put-outside, all-fits, all-full, all-outside, be-length, over-one, over-part, over-more, length-take-le, length-drop, length-set)

-- what an answer says
abbrev pub Told : Bool → ℕ → ℕ → List ℕ → Result ℕ PutError → Type 0
Told ok n at bs (Ok q) = (ok ≡ true) × (at + length bs ≤ n) × (q ≡ at + length bs)
Told ok n at bs (Err P.Full) = (ok ≡ true) × (n < at + length bs)
Told ok n at bs (Err P.Outside) = ok ≡ false

pub told : (ok : Bool) (n at : ℕ) (bs : List ℕ) → Told ok n at bs (put_end ok n at bs)
unfolding put_end
told false n at bs = refl
told true n at bs =
    cond-all (Told true n at bs) (leb (at + length bs) n) (Ok (at + length bs)) (Err P.Full)
    (λ e. (refl, leb-true (at + length bs) n e, refl)) (λ e. (refl, leb-false (at + length bs) n e))
