-- A number, a blank and bytes, one behind another.
use Rattle.desk.proofs.Written.{decimal-short, reply-there}
use borrow.Author.Rules.{rules}
use Rattle.desk.proofs.say_reply.Goals as goal

pub returns : goal.returns
returns c = reply-there _ _ _ _ _ _ _ _ _ c.put_decimal-a.ensures.answer c.put_decimal-a.ensures.buffer c.put_text-b.ensures.answer c.put_text-b.ensures.buffer c.put_hex.ensures.answer c.put_hex.ensures.buffer (decimal-short c.args.number) (search rules)
