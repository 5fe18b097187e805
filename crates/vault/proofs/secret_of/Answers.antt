-- The bytes, and what is left of the zeros after them.
use Prim.Native.Nat.{◌-◌}
use mathlib.Core.Path.{◌≡◌}
use mathlib.Core.List.{◌++◌}
use lib.ListN.{length, drop, replicate}
use Rattle.std.proofs.lemmas.List.{drop-replicate}
use Rattle.model.specs.Record.{pin_bytes}
use Rattle.vault.proofs.secret_of.Goals as goal

pub returns : goal.returns
returns c =
    let p = c.args.p.now in
    let stored : c.copy_from_slice.new.self ≡ p = cc in
    let zeros : drop (length p) (replicate pin_bytes 0) ≡ replicate (pin_bytes - length p) 0 = drop-replicate (length p) pin_bytes 0 in
    λ i. record { bytes = stored i ++ zeros i; len = length p }
