-- `named` sees a named value by its name, and by its value where the name is an integer.
use Rattle.item.proofs.Faces.{named-int, named_other}
use Rattle.item.proofs.named.Goals as goal

pub returns-in-Int : goal.returns-in-Int
returns-in-Int c = named-int c.args.s.now _ _ c.read.ensures _ _ _ c.in-Int.is c.read-in-Int.ensures c.flat.ensures

pub returns-in_default : goal.returns-in_default
returns-in_default c = named_other c.args.s.now _ _ c.read.ensures c.in_default.not-Int
