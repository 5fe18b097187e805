use Prim.Native.Nat.{◌-◌}
use mathlib.Core.Path.{refl, sym, ◌∙◌}
use mathlib.Core.List.{append-nil}
use native.Mathlib.Nat.{le_of_eq}
use native.Mathlib.Omega.{arith}
use lib.ListN.{length-set}
use Rattle.line.specs.Number.{dec_of}
use Rattle.line.proofs.Decimals.{dec-room, dec-falls, dec-on, dec-done}
use Rattle.line.proofs.put_decimal.Goals as goal

pub loop-w-init : goal.loop-w-init
loop-w-init c = (omega arith, omega arith, omega arith, refl, sym (append-nil (dec_of 20 c.args.v)))

pub loop-w-preserved : goal.loop-w-preserved
loop-w-preserved c = let l = c.loop-w in
    let r = dec-room l.w l.j (omega arith) l.invariant.2 in (
      omega arith,
      omega arith,
      dec-falls l.w l.j l.invariant.0 l.invariant.2,
      length-set l.d (l.j - 1) c.letter.result ∙ l.invariant.3,
      rw c.letter.ensures (l.invariant.4 ∙ dec-on l.d l.w l.j (omega arith) l.invariant.0 (omega arith)),
    )

pub slice_bounds-plain-end : goal.slice_bounds-plain-end
slice_bounds-plain-end c = let l = c.loop-w in
    le_of_eq (sym (length-set l.d (l.j - 1) c.letter-2.result ∙ l.invariant.3))

pub returns : goal.returns
returns c = let l = c.loop-w in
    let e = dec-done l.d c.args.v l.w l.j c.letter-2.result (omega arith) l.invariant.0 l.invariant.1 l.invariant.3 l.invariant.4 c.letter-2.ensures in
    record { answer = rw e c.plain.ensures.answer; buffer = rw e c.plain.ensures.buffer }
