-- The histories at the edges are as stated.
use Rattle.histories.proofs.Edges.{edges}
use Rattle.histories.proofs.law_edges.Goals as goal

pub returns : goal.returns
returns c = edges
