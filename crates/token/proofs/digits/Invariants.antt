-- `token::digits` meets its contract: the digits from j on are there, and those that are left are the lowest j of v.
use Rattle.std.proofs.Common.{◌≡◌, ◌++◌, length, drop}
use Rattle.token.specs.Bytes.{be_of}
use Rattle.token.proofs.digits.Given as goal

abbrev pub invariant-loop-j : goal.invariant-loop-j
invariant-loop-j l = be_of (length l.buf) l.fn.v ≡ be_of l.j l.v ++ drop l.j l.buf
