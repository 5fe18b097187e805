-- `tape::put_node` meets its contract: a case for each kind of node.
use mathlib.Core.Path.{sym, ◌∙◌}
use mathlib.Core.Logic.{inl, inr}
use native.Mathlib.Omega.{arith}
use lib.ListN.{length}
use Rattle.tape.specs.Steps.{enc_token}
use Rattle.tape.proofs.Nodes.{node-part, node-mark}
use Rattle.tape.proofs.Puts.{part-put, mark-put, none-put}
use Rattle.tape.proofs.put_node.Goals as goal

pub returns-in-Int : goal.returns-in-Int
unfolding enc_token
returns-in-Int c = rw (sym c.node.ensures ∙ c.in-Int.is) c.put_int.ensures.buffer

pub overflow_add-start : goal.overflow_add-start
overflow_add-start c = let g = node-part c.args.tape.nodes.now (length c.args.tape.bytes.now) c.args.i _ _ _ (sym c.node.ensures ∙ c.in-Bytes.is) in
    omega (arith, g.1)

pub slice_bounds-put_bytes-end : goal.slice_bounds-put_bytes-end
slice_bounds-put_bytes-end c = let g = node-part c.args.tape.nodes.now (length c.args.tape.bytes.now) c.args.i _ _ _ (sym c.node.ensures ∙ c.in-Bytes.is) in
    omega (arith, g.1)

pub returns-in-Bytes : goal.returns-in-Bytes
unfolding enc_token
returns-in-Bytes c = let e = sym c.node.ensures ∙ c.in-Bytes.is in
    let g = node-part c.args.tape.nodes.now (length c.args.tape.bytes.now) c.args.i _ _ _ e in
    rw e (part-put c.args.tape.bytes.now _ _ g.1 c.args.out.now _ c.args.at g.2 c.put_bytes.ensures.buffer)

pub returns-in-Control : goal.returns-in-Control
unfolding enc_token
returns-in-Control c = let e = sym c.node.ensures ∙ c.in-Control.is in
    let g = node-mark c.args.tape.nodes.now (length c.args.tape.bytes.now) c.args.i _ _ e in
    rw e (mark-put _ c.args.out.now _ c.args.at g.1 g.2 c.put_control.ensures.buffer)

pub returns-in-End : goal.returns-in-End
unfolding enc_token
returns-in-End c =
    elim c.in-End.is [
      | inl e ↦ rw (sym c.node.ensures ∙ e) (none-put c.args.out.now c.args.at)
      | inr e ↦ rw (sym c.node.ensures ∙ e) (none-put c.args.out.now c.args.at)
    ]
