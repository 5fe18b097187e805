-- `refused` meets its contract: the record is `no_card`.
use Rattle.record.proofs.refused.Goals as goal

pub returns : goal.returns
returns c = simp c.factory_card-card.ensures
