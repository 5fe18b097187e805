-- `line::write::meant` meets its contract.
use Rattle.std.proofs.Common.{◌≡◌, ◌/◌, length, arith}
use Rattle.std.proofs.Math.Seq.{paste-zero}
use Rattle.std.proofs.lemmas.Bool.Decides.{nat_tests}
use Rattle.line.specs.Hex.{bytes_of}
use Rattle.line.proofs.Puts.{meant-full, meant-on, meant-done}
use Rattle.line.proofs.write.meant.Goals as goal

pub returns-then-not-has_room : goal.returns-then-not-has_room
returns-then-not-has_room c = let p = meant-full c.args.out.now c.args.at c.args.s.now (grind (arith, nat_tests)) in record { answer = p.answer; buffer = p.buffer }

pub loop-i-init : goal.loop-i-init
loop-i-init c = paste-zero c.args.out.now c.args.at (bytes_of c.args.s.now)

pub loop-i-preserved : goal.loop-i-preserved
loop-i-preserved c = meant-on c.args.out.now c.args.at c.args.s.now c.loop-i.i c.loop-i.out (grind (arith, nat_tests)) c.loop-i.invariant (omega arith) _ c.byte.ensures

pub returns : goal.returns
returns c =
    let e : c.loop-i.i ≡ length c.args.s.now / 2 = omega arith in
    let p = meant-done c.args.out.now c.args.at c.args.s.now c.loop-i.i c.loop-i.out (grind (arith, nat_tests)) c.loop-i.invariant e in
    record { answer = rw (← e) p.answer; buffer = p.buffer }
