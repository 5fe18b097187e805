-- `put_cell` meets its contract: column 0, and then object by object.
use mathlib.Core.Path.{refl}
use native.Mathlib.Omega.{arith}
use Rattle.tape.specs.Write.{enc_value}
use Rattle.model.specs.declared.Object.TheVariants as O
use Rattle.model.specs.Answer.{cell_past0}
use Rattle.answer.proofs.Written.{said}
use Rattle.answer.proofs.Spelled.{tiny-is, first_cell, later-cell}
use Rattle.answer.proofs.put_cell.Goals as goal
use Rattle.answer.proofs.put_cell.Goals.{then-c, else-c}

pub returns-then-k-eq0 : goal.returns-then-k-eq0
returns-then-k-eq0 c =
    said c.put_uid.ensures (first_cell c.args.c c.args.o c.args.k _ c.if-k-eq0.true c.uid_of.ensures) (omega arith)

pub returns-in-PinMsid : goal.returns-in-PinMsid
unfolding cell_past0 enc_value
returns-in-PinMsid c =
    said c.put_msid.ensures (later-cell c.args.c c.args.o O.PinMsid c.args.k _ c.if-k-eq0.false c.in-PinMsid.is refl) (omega arith)

pub returns-in-SpAdmin : goal.returns-in-SpAdmin
unfolding cell_past0
returns-in-SpAdmin c =
    said c.put_byte.ensures (later-cell c.args.c c.args.o O.SpAdmin c.args.k _ c.if-k-eq0.false c.in-SpAdmin.is (tiny-is 9 (omega arith))) (omega arith)

pub returns-after-c : goal.returns-after-c
unfolding cell_past0
returns-after-c c =
    said c.put_byte-in-SpLocking.ensures (later-cell c.args.c c.args.o O.SpLocking c.args.k _ c.if-k-eq0.false c.in-SpLocking.is
    (elim c.if-c.branch [
      | then-c w ↦ rw (w.put_byte-is, w.if-c.true) (tiny-is 9 (omega arith))
      | else-c w ↦ rw (w.put_byte-is, w.if-c.false) (tiny-is 8 (omega arith))
    ])) (omega arith)

pub returns-in-ThisSp : goal.returns-in-ThisSp
unfolding cell_past0
returns-in-ThisSp c =
    said c.put_byte-in-ThisSp.ensures (later-cell c.args.c c.args.o O.ThisSp c.args.k _ c.if-k-eq0.false c.in-ThisSp.is (tiny-is 0 (omega arith))) (omega arith)

pub returns-in-Nothing : goal.returns-in-Nothing
unfolding cell_past0
returns-in-Nothing c =
    said c.put_byte-in-Nothing.ensures (later-cell c.args.c c.args.o O.Nothing c.args.k _ c.if-k-eq0.false c.in-Nothing.is (tiny-is 0 (omega arith))) (omega arith)
