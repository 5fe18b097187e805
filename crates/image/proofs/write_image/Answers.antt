-- `write_image` fills a buffer of the one length.
use native.Mathlib.Omega.{arith}
use lib.ListN.{length}
use Rattle.image.proofs.Puts.{behind, filled}
use borrow.Author.Tests.{eq-eqb}
use Rattle.image.specs.Write.{image_of}
use Rattle.image.proofs.write_image.Goals as goal

pub returns-clause-buffer : goal.returns-clause-buffer
unfolding image_of
returns-clause-buffer c =
    let full = eq-eqb (length c.args.out.now) 1188 (omega arith) in
    let all = behind _ _ _ _ _ _ _ _ 330 858 c.put_cells-a.ensures c.put_vault.ensures (omega arith) in
    rw full (filled _ _ _ 1188 _ all (omega arith))
