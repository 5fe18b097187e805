-- A card is in hand where there was one, or where one was made.
use Rattle.desk.proofs.Lines.{makes}
use Rattle.desk.proofs.make.Goals as goal
use Rattle.desk.proofs.make.Goals.{then-there, else-there}

pub returns : goal.returns
returns c = makes _ _ _ _ _ _ _ _ c.flamepocket_factory-r.ensures.answer c.flamepocket_factory-r.ensures.image c.say_number.ensures _ (elim c.if-there.branch [ then-there w ↦ rw (w.result-is, w.if-there.true) | else-there w ↦ rw (w.result-is, w.if-there.false) ])
