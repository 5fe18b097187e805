-- `token::number` meets its contract. The loop's invariant: v is what the bytes so far make, and has as many.
use Rattle.std.proofs.Common.{◌≡◌, ◌<◌, ◌^◌, take}
use Rattle.token.specs.Bytes.{be_val}
use Rattle.token.proofs.number.Given as goal

abbrev pub invariant-loop-b : goal.invariant-loop-b
invariant-loop-b l = (l.v ≡ be_val 0 (take l.b-index l.bytes)) × (l.v < 256 ^ l.b-index)
