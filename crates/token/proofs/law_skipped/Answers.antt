-- `token::law_skipped` states `Skipped`, which `token-skips` shows.
use Rattle.token.proofs.Moved.{token-skips}
use Rattle.token.proofs.law_skipped.Goals as goal

pub returns : goal.returns
returns c = token-skips
