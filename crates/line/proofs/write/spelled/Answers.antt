-- `line::write::spelled` meets its contract.
use Rattle.std.proofs.Common.{arith}
use Rattle.std.proofs.lemmas.Bool.Decides.{nat_tests}
use Rattle.line.proofs.Puts.{spelled-full, spelled-start, spelled-on, spelled-done}
use Rattle.line.proofs.write.spelled.Goals as goal

pub returns-then-not-has_room : goal.returns-then-not-has_room
returns-then-not-has_room c = let p = spelled-full c.args.out.now c.args.at c.args.s.now (grind (arith, nat_tests)) in record { answer = p.answer; buffer = p.buffer }

pub loop-b-init : goal.loop-b-init
loop-b-init c = (omega arith, spelled-start c.args.out.now c.args.at c.args.s.now)

pub loop-b-preserved : goal.loop-b-preserved
loop-b-preserved c = let l = c.loop-b in
    spelled-on c.args.out.now c.args.at c.args.s.now l.b-index l.end l.out (grind (arith, nat_tests)) l.invariant.0 l.invariant.1 (omega arith) _ _ _ _ c.letter.ensures c.letter-in-loop-b.ensures c.plain-end.ensures.answer c.plain-end.ensures.buffer

pub returns : goal.returns
returns c = let l = c.loop-b in
    let p = spelled-done c.args.out.now c.args.at c.args.s.now l.b-index l.end l.out (grind (arith, nat_tests)) l.invariant.0 l.invariant.1 (omega arith) in record { answer = p.answer; buffer = p.buffer }
