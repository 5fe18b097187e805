-- `put_undo` writes whether a transaction is open, and the tables from before it.
use native.Mathlib.Omega.{arith}
use Rattle.image.proofs.Puts.{behind}
use Rattle.image.specs.Write.{undo_of}
use Rattle.image.proofs.put_undo.Goals as goal

pub returns : goal.returns
unfolding undo_of
returns c = behind _ _ _ _ _ _ _ _ 1 123 c.put-a.ensures c.put_tables.ensures (omega arith)
