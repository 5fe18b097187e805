-- `tape::node_len` meets its contract: a case for each kind of node.
use mathlib.Core.Path.{sym, ◌∙◌}
use mathlib.Core.Logic.{inl, inr}
use native.Mathlib.Omega.{arith}
use lib.ListN.{length}
use Rattle.tape.specs.Steps.{enc_token}
use Rattle.tape.proofs.Nodes.{node-part}
use Rattle.tape.proofs.Puts.{part_length}
use Rattle.tape.proofs.node_len.Goals as goal

pub overflow_add-result : goal.overflow_add-result
overflow_add-result c = let g = node-part c.args.tape.nodes.now (length c.args.tape.bytes.now) c.args.i _ _ _ (sym c.node.ensures ∙ c.in-Bytes.is) in
    omega (arith, g.2, c.head_len.ensures.2)

pub returns-in-Int : goal.returns-in-Int
unfolding enc_token
returns-in-Int c = (rw (sym c.node.ensures ∙ c.in-Int.is) c.int_len.ensures.0, omega (arith, c.int_len.ensures.2))

pub returns-in-Bytes : goal.returns-in-Bytes
unfolding enc_token
returns-in-Bytes c = let e = sym c.node.ensures ∙ c.in-Bytes.is in
    let g = node-part c.args.tape.nodes.now (length c.args.tape.bytes.now) c.args.i _ _ _ e in
    (rw e (part_length c.args.tape.bytes.now _ _ g.1 c.head_len.result c.head_len.ensures.0), omega (arith, g.2, c.head_len.ensures.2))

pub returns-in-Control : goal.returns-in-Control
unfolding enc_token
returns-in-Control c = (rw (sym c.node.ensures ∙ c.in-Control.is), omega arith)

pub returns-in-End : goal.returns-in-End
unfolding enc_token
returns-in-End c =
    elim c.in-End.is [
      | inl e ↦ (rw (sym c.node.ensures ∙ e), omega arith)
      | inr e ↦ (rw (sym c.node.ensures ∙ e), omega arith)
    ]
