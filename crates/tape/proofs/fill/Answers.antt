use native.Mathlib.Omega.{arith}
use Rattle.tape.proofs.Filled.{fill-first, fill-room, fill-next, fill-last}
use Rattle.tape.proofs.fill.Goals as goal

pub loop-j-init : goal.loop-j-init
loop-j-init c = let a = c.args in
    fill-first a.tape.nodes.now a.tape.bytes.now a.i a.q a.at a.out.now c.requires.0 c.requires.1

pub overflow_add-p : goal.overflow_add-p
overflow_add-p c = let a = c.args in
    let l = c.loop-j in
    let h = fill-room a.tape.nodes.now a.tape.bytes.now a.i a.q a.at a.out.now c.requires.0 c.requires.1 l.j l.p _ l.out (omega arith) l.invariant c.node_len-k.ensures.0 in
    omega arith

pub loop-j-preserved : goal.loop-j-preserved
loop-j-preserved c = let a = c.args in
    let l = c.loop-j in
    fill-next a.tape.nodes.now a.tape.bytes.now a.i a.q a.at a.out.now c.requires.0 c.requires.1 l.j l.p _ l.out _ (omega arith) l.invariant c.node_len-k.ensures.0 c.put_node.ensures

pub returns : goal.returns
returns c = let a = c.args in
    let l = c.loop-j in
    fill-last a.tape.nodes.now a.tape.bytes.now a.i a.q a.at a.out.now c.requires.0 c.requires.1 l.j l.p l.out (omega arith) l.invariant
