-- `judge_set` meets its contract: the first check that fails decides.
use mathlib.Core.Path.{◌≡◌, sym, ◌∙◌}
use lib.Dec.{leb}
use Rattle.model.specs.Uids.{set_method}
use Rattle.model.specs.Access.{allowed_column, last_column}
use Rattle.model.specs.Judge.{need, at_given, judge_set}
use Rattle.judge.proofs.Known.{same_test}
use Rattle.judge.proofs.judge_set.Goals as goal
use Rattle.judge.proofs.judge_set.Goals.{After-given_in, After-given_in-2}

-- each check in the rule's words
known : (c : After-given_in) →
    let t = c.in-Ok.t in
    at_given (λ k. leb k (last_column c.args.o)) t ≡ c.given_in.result
known c = sym (c.given_in.ensures ∙ same_test c.in-Ok.t _ _ c.known_columns-known.ensures)

may_set : (c : After-given_in-2) →
    let a = c.args in
    at_given (allowed_column a.c.session a.o set_method) c.in-Ok.t ≡ c.given_in-2.result
may_set c = sym (c.given_in-2.ensures ∙ same_test c.in-Ok.t _ _ c.requires.columns)

pub returns-then-not-given_in : goal.returns-then-not-given_in
unfolding need judge_set
returns-then-not-given_in c =
    let s = goal.at.returns-then-not-given_in c in
    simp (c.refuse-then-not-given_in.ensures, c.in-Ok.is, known s.After-given_in ∙ c.if-not-given_in.true)

pub returns-then-not-given_in-2 : goal.returns-then-not-given_in-2
unfolding need judge_set
returns-then-not-given_in-2 c =
    let s = goal.at.returns-then-not-given_in-2 c in
    simp (c.refuse-then-not-given_in-2.ensures, c.in-Ok.is, known s.After-given_in ∙ c.if-not-given_in.false, may_set s.After-given_in-2 ∙ c.if-not-given_in-2.true)

pub returns-then-not-values_ok : goal.returns-then-not-values_ok
unfolding need judge_set
returns-then-not-values_ok c =
    let s = goal.at.returns-then-not-values_ok c in
    simp (c.refuse-then-not-values_ok.ensures, c.in-Ok.is, known s.After-given_in ∙ c.if-not-given_in.false, may_set s.After-given_in-2 ∙ c.if-not-given_in-2.false, sym c.values_ok.ensures ∙ c.if-not-values_ok.true)

pub returns : goal.returns
unfolding need judge_set
returns c =
    let s = goal.at.returns c in
    simp (c.change_in.ensures, c.in-Ok.is, known s.After-given_in ∙ c.if-not-given_in.false, may_set s.After-given_in-2 ∙ c.if-not-given_in-2.false, sym c.values_ok.ensures ∙ c.if-not-values_ok.false)
