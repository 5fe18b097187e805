-- `tape::lay` meets its contract: three words for each kind of token.
use mathlib.Core.Logic.{inl, inr}
use Rattle.tape.specs.Words.{atom_words}
use Rattle.tape.specs.Steps.{token_words}
use Rattle.tape.proofs.lay.Goals as goal

pub returns-in-Int : goal.returns-in-Int
unfolding token_words atom_words
returns-in-Int c = rw c.in-Int.is c.triple.ensures

pub returns-in-Bytes : goal.returns-in-Bytes
unfolding token_words atom_words
returns-in-Bytes c = rw c.in-Bytes.is c.triple-in-Bytes.ensures

pub returns-in-Control : goal.returns-in-Control
unfolding token_words
returns-in-Control c = rw (c.in-Control.is, ← c.from.ensures) c.triple-in-Control.ensures

pub returns-in-End : goal.returns-in-End
unfolding token_words
returns-in-End c = elim c.in-End.is [ inl e ↦ rw e c.triple-in-End.ensures | inr e ↦ rw e c.triple-in-End.ensures ]
