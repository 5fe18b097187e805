use Rattle.std.proofs.Common.{ℕ, suc, ◌≡◌, ◌+◌, ◌-◌, ◌/◌, ◌%◌, ◌<◌, ◌≤◌, List, ◌∷◌, ◌++◌, length, drop, set, sym, ap, ◌∙◌, arith, length-set}
use Rattle.std.proofs.lemmas.List.{drop-set}
use lib.Seq.{append_snoc}
use Rattle.token.specs.Bytes.{be_of}
use Rattle.token.proofs.digits.Goals as goal

-- one digit more, in front of those that are there
be-more : (n w : ℕ) (t : List ℕ) → be_of (suc n) w ++ t ≡ be_of n (w / 256) ++ ((w % 256) ∷ t)
unfolding be_of
be-more n w t = append_snoc (be_of n (w / 256)) (w % 256) t

more : (n v w j : ℕ) (d : List ℕ) → 0 < j → j ≤ length d → be_of n v ≡ be_of j w ++ drop j d
    → be_of n v ≡ be_of (j - 1) (w / 256) ++ drop (j - 1) (set d (j - 1) (w % 256))
more n v w j d h k e =
    let q : j ≡ suc (j - 1) = omega arith in
    let r : j - 1 + 1 ≡ j = omega arith in
    e ∙ ap (λ i. be_of i w ++ drop j d) q ∙ be-more (j - 1) w (drop j d) ∙ rw (drop-set d (j - 1) (w % 256) (omega arith), r)

pub loop-j-preserved : goal.loop-j-preserved
loop-j-preserved c = let l = c.loop-j in
    rw length-set (more _ _ l.v l.j l.buf c.loop-j-test.true (omega arith) l.invariant)

pub returns : goal.returns
unfolding be_of
returns c = let l = c.loop-j in
    let z : l.j ≡ 0 = omega arith in
    rw (← l.auto.buf) (sym (rw z at l.invariant))
