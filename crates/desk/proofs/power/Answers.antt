-- A power cycle of the card in hand.
use Rattle.desk.proofs.Lines.{resets}
use Rattle.desk.proofs.power.Goals as goal

pub returns : goal.returns
returns c = rw c.in_hand.ensures (resets _ _ _ _ _ _ _ c.flamepocket_power_cycle-r.ensures.answer c.flamepocket_power_cycle-r.ensures.image c.say_number.ensures)
