-- `token::read` meets its contract. The loop's invariant: the token at i is the token at the start.
use Rattle.std.proofs.Common.{◌≡◌}
use Rattle.token.specs.Token.{token_at}
use Rattle.token.proofs.read.Given as goal

abbrev pub invariant-loop-i : goal.invariant-loop-i
invariant-loop-i l = token_at l.s l.at ≡ token_at l.s l.i
