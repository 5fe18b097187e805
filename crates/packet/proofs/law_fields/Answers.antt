-- The envelope field by field.
use Rattle.packet.proofs.Fields.{said-taken, only-said}
use Rattle.packet.proofs.Bytes.{every_byte}
use Rattle.packet.proofs.law_fields.Goals as goal

pub returns : goal.returns
returns c = record { taken = said-taken; only = only-said; written = every_byte }
