-- `short_at` reads a number of four bytes: each is below 256, so that it fits.
use Rattle.packet.proofs.Envelope.{field-small}
use Rattle.image.proofs.short_at.Goals as goal

pub overflow_cast-result : goal.overflow_cast-result
overflow_cast-result c = record { fits = rw c.number_at.ensures (field-small _ (λ i. (c.type_inv.s i).fits) _) }
