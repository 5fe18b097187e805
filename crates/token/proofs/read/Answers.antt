use Rattle.std.proofs.Common.{ℕ, ◌≡◌, ◌+◌, ◌-◌, List, length, take, drop, sym, ◌∙◌, arith, length-drop, get_or-drop, take_all, add-zero}
use Rattle.token.proofs.Tokens.{medium-cut, long-cut, long-whole}
use Rattle.token.proofs.read.Goals as goal

-- what is left of the input from p on
rest : (s : List ℕ) (p : ℕ) → take (length s - p) (drop p s) ≡ drop p s
rest s p = take_all (length s - p) (drop p s) (rw length-drop (omega arith))

pub returns-in_default : goal.returns-in_default
returns-in_default c = let l = c.loop-i in
    sym (l.invariant ∙ medium-cut _ _ _ _ c.loop-i-test.true (omega (arith, c.in_default.ensures)) (sym c.classify.ensures ∙ c.in-Medium.is))

pub returns-in_default-2 : goal.returns-in_default-2
returns-in_default-2 c = let l = c.loop-i in
    let s = c.args.s.now in
    let few = rw (rest s (l.i + 1), length-drop) at c.in_default-2.len_below in
    sym (l.invariant ∙ long-cut _ _ _ c.loop-i-test.true few (sym c.classify.ensures ∙ c.in-Long.is))

pub returns-in-Long : goal.returns-in-Long
returns-in-Long c = let l = c.loop-i in
    let s = c.args.s.now in
    let many = rw (rest s (l.i + 1), length-drop) at c.in-len3-up.len_at_least in
    c.atom-in-Long.ensures
    ∙ rw (c.from-in-Long.ensures, c.from-in-Long-2.ensures, c.from-in-Long-3.ensures, rest s (l.i + 1))
    (simp (get_or-drop, add-zero) (sym (l.invariant ∙ long-whole _ _ _ (omega arith) (sym c.classify.ensures ∙ c.in-Long.is))))
