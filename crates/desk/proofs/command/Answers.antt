-- The request is what the line's digits say, and the answer's buffer is as long as the line asks.
use mathlib.Core.Path.{sym}
use native.Mathlib.Omega.{arith}
use lib.Seq.{length-take-le}
use Rattle.line.specs.Write.{bytes_at}
use Rattle.desk.proofs.Lines.{Front, unhexed, resaid, recommand}
use Rattle.desk.proofs.command.Goals as goal
use Rattle.desk.proofs.command.Goals.{After-unhex-n}

-- the bytes that the line's digits say
digits : (c : After-unhex-n) → let a = c.args in Front c.zeros-bytes.result (bytes_at a.l.now a.at a.len) c.unhex-n.new.out c.unhex-n.result c.unhex-n.ensures.answer c.unhex-n.ensures.buffer
digits c = unhexed c.args.l.now _ _ _ _ _ (omega arith) c.zeros-bytes.ensures c.unhex-n.ensures.answer c.unhex-n.ensures.buffer

pub slice_bounds-bytes-end : goal.slice_bounds-bytes-end
slice_bounds-bytes-end c = (digits ((goal.at.slice_bounds-bytes-end c).After-unhex-n)).fits

pub slice_bounds-ask-end : goal.slice_bounds-ask-end
slice_bounds-ask-end c = (digits ((goal.at.slice_bounds-ask-end c).After-unhex-n)).counted

pub slice_bounds-ask-end-2 : goal.slice_bounds-ask-end-2
slice_bounds-ask-end-2 c = sym (length-take-le _ _ (omega (arith, c.zeros-answer.ensures)))

pub returns : goal.returns
returns c = resaid c.ask.ensures (recommand _ _ _ _ _ (length-take-le _ _ (omega (arith, c.zeros-answer.ensures))) (digits ((goal.at.returns c).After-unhex-n)).here)
