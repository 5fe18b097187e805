-- The MSID is what the line's digits say.
use native.Mathlib.Omega.{arith}
use Rattle.line.specs.Write.{bytes_at}
use Rattle.desk.proofs.Lines.{Front, unhexed, resaid, remake}
use Rattle.desk.proofs.new.Goals as goal
use Rattle.desk.proofs.new.Goals.{After-unhex-m}

-- the bytes that the line's digits say
digits : (c : After-unhex-m) → let a = c.args in Front c.zeros-bytes.result (bytes_at a.l.now a.at a.len) c.unhex-m.new.out c.unhex-m.result c.unhex-m.ensures.answer c.unhex-m.ensures.buffer
digits c = unhexed c.args.l.now _ _ _ _ _ (omega arith) c.zeros-bytes.ensures c.unhex-m.ensures.answer c.unhex-m.ensures.buffer

pub slice_bounds-bytes-end : goal.slice_bounds-bytes-end
slice_bounds-bytes-end c = (digits ((goal.at.slice_bounds-bytes-end c).After-unhex-m)).fits

pub slice_bounds-make-end : goal.slice_bounds-make-end
slice_bounds-make-end c = (digits ((goal.at.slice_bounds-make-end c).After-unhex-m)).counted

pub returns : goal.returns
returns c = resaid c.make.ensures (remake _ _ _ _ _ (digits ((goal.at.returns c).After-unhex-m)).here)
