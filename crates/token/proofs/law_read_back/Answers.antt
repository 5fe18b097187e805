-- `token::law_read_back` holds: what is written is read back as the same token, whatever stands around it.
use Prim.Native.Nat.{◌+◌}
use mathlib.Core.List.{[], ◌∷◌}
use lib.ListN.{length}
use Rattle.token.specs.Write.{enc_int, head_of, enc_bytes}
use Rattle.token.proofs.Round.{here, read_int, read-bytes, bytes-there, read-control}
use Rattle.token.proofs.law_read_back.Goals as goal

pub returns : goal.returns
returns c = record {
  int = λ a b v h. rw (here a (enc_int v) b) (read_int v (length a) b h);
  bytes = λ a b bs h. (length a + length (head_of (length bs)), rw (here a (enc_bytes bs) b) (read-bytes bs (length a) b), bytes-there a b bs);
  control = λ a b k h. rw (here a (k ∷ []) b) (read-control k (length a) b h);
}
