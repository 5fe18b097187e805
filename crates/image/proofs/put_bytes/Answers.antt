-- `put_bytes` copies them to their place.
use mathlib.Core.Path.{refl, ◌∙◌}
use native.Mathlib.Omega.{arith}
use lib.ListN.{length}
use lib.Seq.{take-length}
use Rattle.std.proofs.lemmas.Slice.{put_mid-paste}
use Rattle.token.specs.Bytes.{over}
use Rattle.image.proofs.put_bytes.Goals as goal

pub returns : goal.returns
unfolding over
returns c =
    let bs = c.args.src.now in
    (refl, put_mid-paste _ _ _ _ bs (length bs) c.copy_from_slice.ensures.after (omega arith) refl ∙ rw take-length refl, refl)
