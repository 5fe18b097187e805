-- The media's verdict is the chain's, and the chain has no other.
use Rattle.ranges.proofs.Chain.{ruled, one-ruled}
use Rattle.ranges.proofs.law_media.Goals as goal

pub returns : goal.returns
returns c = record {
  rules = ruled;
  only = λ rows m active n write start count v long fit r. one-ruled rows m active n write start count (ruled rows m active n write start count long fit) r;
}
