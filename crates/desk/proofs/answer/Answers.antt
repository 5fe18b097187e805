-- Each kind of line by its own function; a question needs a card in hand.
use native.Mathlib.Omega.{arith}
use Rattle.desk.specs.Desk.{answer_to}
use Rattle.desk.proofs.Written.{hex-short}
use Rattle.desk.proofs.Turns.{passes, in-hand, said-in-hand, no-hand}
use borrow.Author.Rules.{rules}
use Rattle.desk.proofs.answer.Goals as goal

pub command-requires : goal.command-requires
command-requires c = (search rules, rw c.in-Command.is at c.requires.1)

pub returns-then-there : goal.returns-then-there
unfolding answer_to
returns-then-there c = rw c.in-Command.is (in-hand _ _ _ c.if-there.true c.command.ensures)

pub returns-then-there-2 : goal.returns-then-there-2
unfolding answer_to
returns-then-there-2 c = rw c.in-Power.is (in-hand _ _ _ c.if-there-2.true c.power.ensures)

pub returns-then-there-3 : goal.returns-then-there-3
unfolding answer_to
returns-then-there-3 c = rw c.in-Reset.is (in-hand _ _ _ c.if-there-3.true c.reset.ensures)

pub returns-then-there-4 : goal.returns-then-there-4
unfolding answer_to
returns-then-there-4 c = rw c.in-Media.is (said-in-hand _ _ _ _ _ _ _ c.if-there-4.true c.media.ensures c.in_hand.ensures)

pub say_hex-requires : goal.say_hex-requires
say_hex-requires c = let h = hex-short c.args.image.now 1188 (omega arith) (omega arith) in omega arith

pub returns-then-there-5 : goal.returns-then-there-5
unfolding answer_to
returns-then-there-5 c = rw c.in-Image.is (said-in-hand _ _ _ _ _ _ _ c.if-there-5.true c.say_hex.ensures c.in_hand-then-there-5.ensures)

pub returns-in-Pass : goal.returns-in-Pass
unfolding answer_to
returns-in-Pass c = rw c.in-Pass.is (passes _ _ _)

pub returns-in-New : goal.returns-in-New
unfolding answer_to
returns-in-New c = rw c.in-New.is c.new.ensures

pub returns-else-there : goal.returns-else-there
unfolding answer_to
returns-else-there c = rw c.in-Command.is (no-hand _ _ _ _ _ _ c.if-there.false c.no_card.ensures)

pub returns-else-there-2 : goal.returns-else-there-2
unfolding answer_to
returns-else-there-2 c = rw c.in-Power.is (no-hand _ _ _ _ _ _ c.if-there-2.false c.no_card-else-there-2.ensures)

pub returns-else-there-3 : goal.returns-else-there-3
unfolding answer_to
returns-else-there-3 c = rw c.in-Reset.is (no-hand _ _ _ _ _ _ c.if-there-3.false c.no_card-else-there-3.ensures)

pub returns-else-there-4 : goal.returns-else-there-4
unfolding answer_to
returns-else-there-4 c = rw c.in-Media.is (no-hand _ _ _ _ _ _ c.if-there-4.false c.no_card-else-there-4.ensures)

pub returns-else-there-5 : goal.returns-else-there-5
unfolding answer_to
returns-else-there-5 c = rw c.in-Image.is (no-hand _ _ _ _ _ _ c.if-there-5.false c.no_card-else-there-5.ensures)

pub returns-in-Load : goal.returns-in-Load
unfolding answer_to
returns-in-Load c = rw c.in-Load.is c.load.ensures
