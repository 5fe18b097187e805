-- The access table says what document 01 says in words.
use Rattle.model.proofs.Accessed.{access-as-said}
use Rattle.model.proofs.law_access.Goals as goal

pub returns : goal.returns
returns c = access-as-said
