-- `line::lines::verb_of` meets its contract: the longer words want more steps than the others.
use Rattle.std.proofs.Common.{arith}
use Rattle.std.proofs.lemmas.Grind.{common_steps}
use Rattle.line.specs.Line.{verb_of}
use Rattle.line.proofs.lines.verb_of.Goals as goal

pub returns-in-power : goal.returns-in-power
unfolding verb_of
returns-in-power c = grind (arith, common_steps)

pub returns-in-reset : goal.returns-in-reset
unfolding verb_of
returns-in-reset c = grind (arith, common_steps)

pub returns-in-read : goal.returns-in-read
unfolding verb_of
returns-in-read c = grind (arith, common_steps)

pub returns-in-write : goal.returns-in-write
unfolding verb_of
returns-in-write c = grind (arith, common_steps)

pub returns-in-image : goal.returns-in-image
unfolding verb_of
returns-in-image c = grind (arith, common_steps)

pub returns-in-load : goal.returns-in-load
unfolding verb_of
returns-in-load c = grind (arith, common_steps)
