-- Bytes in hex that have room are put whole.
use Rattle.desk.proofs.Written.{text-there}
use borrow.Author.Rules.{rules}
use Rattle.desk.proofs.say_hex.Goals as goal

pub returns : goal.returns
returns c = text-there _ _ _ _ c.put_hex.ensures.answer c.put_hex.ensures.buffer (search rules)
