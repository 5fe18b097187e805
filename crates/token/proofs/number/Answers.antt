use Rattle.std.proofs.Common.{refl, lit<, arith}
use Rattle.std.proofs.lemmas.List.{take_more}
use Rattle.token.specs.Bytes.{be_val}
use Rattle.token.proofs.Laws.{be_val-snoc, room, grows}
use Rattle.token.proofs.number.Goals as goal

pub loop-b-init : goal.loop-b-init
unfolding be_val
loop-b-init c = (refl, lit< tt)

pub overflow_mul-v : goal.overflow_mul-v
overflow_mul-v c = let l = c.loop-b in
    record { fits = omega (arith, room l.b-index 7 l.v (omega arith) l.invariant.1) }

pub loop-b-preserved : goal.loop-b-preserved
loop-b-preserved c = let l = c.loop-b in (
  rw (take_more c.args.bytes.now l.b-index 0 c.loop-b-test.true, be_val-snoc, ← l.invariant.0, c.from.ensures),
  grows l.b-index l.v c.from.result l.invariant.1 (rw c.from.ensures (c.type_inv.bytes l.b-index).fits),
)
