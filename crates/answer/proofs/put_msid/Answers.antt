-- `put_msid` meets its contract: 32 bytes behind a head of two.
use mathlib.Core.Path.{◌≡◌}
use native.Mathlib.Omega.{arith}
use lib.ListN.{length}
use borrow.Author.Tests.{lt-ltb}
use borrow.Author.Rules.{rules}
use Rattle.token.specs.Write.{enc_bytes, max_bytes}
use Rattle.tape.specs.Write.{enc_atom}
use Rattle.answer.proofs.Written.{put}
use Rattle.answer.proofs.Spelled.{msid-short}
use Rattle.answer.proofs.put_msid.Goals as goal

pub returns : goal.returns
unfolding enc_atom
returns c =
    let put-bytes = c.put_bytes in
    let bs = c.args.c.msid in
    let many : length bs ≡ 32 = search rules in
    put _ 34 _ _ _ _ (enc_bytes bs) _ (lt-ltb (length bs) max_bytes (omega arith)) put-bytes.ensures.answer put-bytes.ensures.buffer c.unwrap_or.ensures (msid-short bs many) (omega arith)
