-- A text that has room is put whole.
use Rattle.desk.proofs.Written.{text-there}
use borrow.Author.Rules.{rules}
use Rattle.desk.proofs.say.Goals as goal

pub returns : goal.returns
returns c = text-there _ _ _ _ c.put_text.ensures.answer c.put_text.ensures.buffer (search rules)
