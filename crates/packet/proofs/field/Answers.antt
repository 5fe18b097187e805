-- `packet::field` meets its contract: each byte is below 256.
use Rattle.packet.proofs.Envelope.{field-small}
use Rattle.packet.proofs.field.Goals as goal

pub overflow_cast-result : goal.overflow_cast-result
overflow_cast-result c = record { fits = rw c.number_at.ensures (field-small _ (λ i. (c.type_inv.s i).fits) _) }
