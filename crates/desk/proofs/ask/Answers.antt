-- Below 60 the library's number turns a request away; from 60 on it counts the bytes that are shown.
use native.Mathlib.Omega.{arith}
use Rattle.line.specs.Write.{hex_text}
use Rattle.desk.proofs.Replied.{counted, inside, hex-fits, answers, turns-away}
use Rattle.desk.proofs.ask.Goals as goal

pub say_reply-requires : goal.say_reply-requires
unfolding hex_text
say_reply-requires c = omega arith

pub returns-then-r-lt60 : goal.returns-then-r-lt60
returns-then-r-lt60 c = rw c.in_hand.ensures (turns-away _ _ c.args.answer.now _ _ c.flamepocket_command-r.ensures.answer _ _ _ _ (omega arith) c.flamepocket_command-r.ensures.image c.say_reply.ensures)

pub slice_bounds-say_reply-end-2 : goal.slice_bounds-say_reply-end-2
slice_bounds-say_reply-end-2 c = inside _ _ c.args.answer.now _ _ c.flamepocket_command-r.ensures.answer _ c.flamepocket_command-r.ensures.buffer (omega arith)

pub slice_bounds-say_reply-end-3 : goal.slice_bounds-say_reply-end-3
slice_bounds-say_reply-end-3 c = counted _ _ c.args.answer.now _ _ c.flamepocket_command-r.ensures.answer _ c.flamepocket_command-r.ensures.buffer (omega arith)

pub say_reply-requires-2 : goal.say_reply-requires-2
say_reply-requires-2 c = let h = hex-fits _ _ c.args.answer.now _ _ c.flamepocket_command-r.ensures.answer _ c.flamepocket_command-r.ensures.buffer (omega arith) in omega arith

pub returns : goal.returns
returns c = rw c.in_hand-2.ensures (answers _ _ c.args.answer.now _ _ c.flamepocket_command-r.ensures.answer _ c.flamepocket_command-r.ensures.buffer (omega arith) _ _ _ _ c.flamepocket_command-r.ensures.image c.say_reply-2.ensures)
