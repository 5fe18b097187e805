-- `feed` ends: each turn of the loop goes past a line feed.
use Rattle.std.proofs.Common.{length}
use Rattle.pocket.proofs.feed.Given as goal

abbrev pub decreases-loop-rest : goal.decreases-loop-rest
decreases-loop-rest g l = length l.rest
