use Rattle.std.proofs.Common.{◌≡◌, ◌+◌, ◌*◌, drop, arith, sym, ◌∙◌}
use Rattle.line.specs.Number.{value_of}
use Rattle.line.proofs.Values.{value_on, value-end, sized-is, large, refused, taken, same_error}
use Rattle.line.proofs.params.decimal.Goals as goal
use Rattle.line.proofs.params.decimal.Goals.{After-checked_mul}

-- the digit read: what is left makes the same number after it
opened : (c : After-checked_mul) → value_of 0 c.args.w.now ≡ value_of (c.loop-b.v * 10 + c.from-d.result) (drop (c.loop-b.b-index + 1) c.args.w.now)
opened c = c.loop-b.invariant.0 ∙ value_on c.args.w.now c.loop-b.v c.loop-b.b-index (omega arith) ∙ rw (c.from-d.ensures, c.digit.ensures.0)

pub returns-in_err-tens : goal.returns-in_err-tens
returns-in_err-tens c =
    let e = refused _ _ _ c.checked_mul.ensures c.in_err-tens.ensures.value in
    same_error _ _ _ c.from_residual.ensures.1 e.0 ∙ sym (large _ _ _ (opened ((goal.at.returns-in_err-tens c).After-checked_mul)) (omega (arith, e.1)))

pub returns-in_err-v : goal.returns-in_err-v
returns-in_err-v c =
    let e = refused _ _ _ c.checked_add.ensures c.in_err-v.ensures.value in
    let t = taken _ _ _ c.checked_mul.ensures c.in_ok-tens.ensures.value in
    same_error _ _ _ c.from_residual-in_err-v.ensures.1 e.0 ∙ sym (large _ _ _ (opened ((goal.at.returns-in_err-v c).After-checked_mul)) (omega (arith, e.1, t)))

pub loop-b-preserved : goal.loop-b-preserved
loop-b-preserved c =
    let t = taken _ _ _ c.checked_mul.ensures c.in_ok-tens.ensures.value in
    let s = taken _ _ _ c.checked_add.ensures c.in_ok-v.ensures.value in
    (rw (s, t) (opened ((goal.at.loop-b-preserved c).After-checked_mul)), omega arith)

pub returns : goal.returns
returns c = rw (c.loop-b.invariant.0, value-end c.args.w.now c.loop-b.v c.loop-b.b-index (omega arith)) (sym (sized-is c.loop-b.v c.loop-b.invariant.1))
