-- A line that is not too long is read, and its room is one that there is.
use Rattle.std.proofs.Common.{arith, rules}
use Rattle.desk.proofs.Lines.{roomy}
use Rattle.desk.proofs.Turns.{long-turn, short-turn, unread}
use Rattle.desk.proofs.hear.Goals as goal

pub returns-then-l-gt32768 : goal.returns-then-l-gt32768
returns-then-l-gt32768 c = long-turn _ _ _ _ _ _ (omega arith) c.too_long.ensures

pub answer-requires : goal.answer-requires
answer-requires c = (search rules, roomy _ _ c.in-Ok.ensures)

pub returns-in-Ok : goal.returns-in-Ok
returns-in-Ok c = short-turn _ _ _ _ (omega arith) c.in-Ok.ensures c.answer.ensures

pub returns-in-Err : goal.returns-in-Err
returns-in-Err c = unread _ _ _ _ _ _ _ (omega arith) c.in-Err.ensures c.say_why-count.ensures
