-- `token::law_inside` states `Inside`, which `token-lies` shows.
use Rattle.token.proofs.Ahead.{token-lies}
use Rattle.token.proofs.law_inside.Goals as goal

pub returns : goal.returns
returns c = token-lies
