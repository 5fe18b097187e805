use native.Mathlib.Omega.{arith}
use Rattle.tape.proofs.Filled.{measure-none, measure-first, measure-full, measure-next, measure-last}
use Rattle.tape.proofs.room.Goals as goal

pub returns-then-n-at : goal.returns-then-n-at
returns-then-n-at c = let a = c.args in
    measure-none a.tape.nodes.now a.tape.bytes.now a.i a.q a.at a.n c.requires (omega arith)

pub loop-j-init : goal.loop-j-init
loop-j-init c = let a = c.args in
    measure-first a.tape.nodes.now a.tape.bytes.now a.i a.q a.at a.n c.requires (omega arith)

pub overflow_sub-n : goal.overflow_sub-n
overflow_sub-n c = let l = c.loop-j in
    omega (arith, l.invariant.2)

pub returns-then-n-p : goal.returns-then-n-p
returns-then-n-p c = let a = c.args in
    let l = c.loop-j in
    measure-full a.tape.nodes.now a.tape.bytes.now a.i a.q a.at a.n c.requires l.j l.p _ (omega arith) l.invariant c.node_len-k.ensures.0 (omega arith)

pub overflow_add-p : goal.overflow_add-p
overflow_add-p c = let l = c.loop-j in
    omega (arith, l.invariant.2)

pub loop-j-preserved : goal.loop-j-preserved
loop-j-preserved c = let a = c.args in
    let l = c.loop-j in
    measure-next a.tape.nodes.now a.tape.bytes.now a.i a.q a.at a.n c.requires l.j l.p _ (omega arith) l.invariant c.node_len-k.ensures.0 (omega arith)

pub returns : goal.returns
returns c = let a = c.args in
    let l = c.loop-j in
    measure-last a.tape.nodes.now a.tape.bytes.now a.i a.q a.at a.n c.requires l.j l.p (omega arith) l.invariant
