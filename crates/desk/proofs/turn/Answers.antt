-- With an image's bytes and room for a text the line is heard; without, nothing is done.
use Rattle.desk.proofs.Turns.{in-room, short-room, no-image}
use Rattle.desk.proofs.turn.Goals as goal

pub returns-in_default : goal.returns-in_default
returns-in_default c = no-image _ _ _ _ (c.in_default.ensures.cases)

pub returns-in_default-first_chunk_mut : goal.returns-in_default-first_chunk_mut
returns-in_default-first_chunk_mut c = rw c.in-Some.ensures.cases.same (short-room _ _ _ _ c.in-Some.ensures.cases.long c.in_default-first_chunk_mut.ensures.cases)

pub returns : goal.returns
returns c = in-room _ _ _ _ c.in-Some.ensures.cases.long c.in-Some-first_chunk_mut.ensures.cases.enough c.in-Some-first_chunk_mut.ensures.cases.same (rw c.in-Some.ensures.cases.same at c.hear.ensures)
