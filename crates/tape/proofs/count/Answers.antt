use native.Mathlib.Omega.{arith}
use Rattle.tape.proofs.Loaded.{count-first, count-ahead, count_next, count-last}
use Rattle.tape.proofs.count.Goals as goal

pub loop-p-init : goal.loop-p-init
loop-p-init c = count-first c.args.s.now c.args.at c.args.z c.requires

pub overflow_add-m : goal.overflow_add-m
overflow_add-m c = let l = c.loop-p in
    omega (arith, l.invariant.3)

pub loop-p-smaller : goal.loop-p-smaller
loop-p-smaller c = let a = c.args in
    let l = c.loop-p in
    omega (arith, count-ahead a.s.now a.at a.z l.p _ l.m _ (omega arith) l.invariant c.read-t.ensures c.next_of-p.ensures)

pub loop-p-preserved : goal.loop-p-preserved
loop-p-preserved c = let a = c.args in
    let l = c.loop-p in
    count_next a.s.now a.at a.z l.p _ l.m _ (omega arith) l.invariant c.read-t.ensures c.next_of-p.ensures

pub returns : goal.returns
returns c = let l = c.loop-p in
    count-last c.args.s.now c.args.at c.args.z l.p l.m (omega arith) l.invariant
