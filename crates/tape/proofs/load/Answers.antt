use native.Mathlib.Omega.{arith}
use Rattle.tape.proofs.Loaded.{load-first, load-ahead, load-room, load-next, load-last}
use Rattle.tape.proofs.load.Goals as goal

pub loop-p-init : goal.loop-p-init
loop-p-init c = load-first c.args.s.now c.args.at c.args.z c.args.tape.now c.args.i c.requires.0

pub overflow_mul-j : goal.overflow_mul-j
overflow_mul-j c = let l = c.loop-p in
    let h = load-room c.args.s.now c.args.at c.args.z c.args.tape.now c.args.i c.requires.1 l.p l.j l.tape (omega arith) l.invariant in
    omega arith

pub lay-requires : goal.lay-requires
lay-requires c = let l = c.loop-p in
    load-room c.args.s.now c.args.at c.args.z c.args.tape.now c.args.i c.requires.1 l.p l.j l.tape (omega arith) l.invariant

pub overflow_add-j : goal.overflow_add-j
overflow_add-j c = let l = c.loop-p in
    let h = load-room c.args.s.now c.args.at c.args.z c.args.tape.now c.args.i c.requires.1 l.p l.j l.tape (omega arith) l.invariant in
    omega arith

pub loop-p-smaller : goal.loop-p-smaller
loop-p-smaller c = let l = c.loop-p in
    omega (arith, load-ahead c.args.s.now c.args.at c.args.z c.args.tape.now c.args.i l.p _ l.j l.tape _ (omega arith) l.invariant c.read-t.ensures c.next_of-p.ensures)

pub loop-p-preserved : goal.loop-p-preserved
loop-p-preserved c = let l = c.loop-p in
    load-next c.args.s.now c.args.at c.args.z c.args.tape.now c.args.i c.requires.1 l.p _ l.j l.tape _ _ (omega arith) l.invariant c.read-t.ensures c.next_of-p.ensures c.lay.ensures

pub returns : goal.returns
returns c = let l = c.loop-p in
    load-last c.args.s.now c.args.at c.args.z c.args.tape.now c.args.i c.requires.1 l.p l.j l.tape c.requires.0 (omega arith) l.invariant
