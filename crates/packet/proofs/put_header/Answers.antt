-- `packet::put_header` meets its contract: zeros, and six fields over them, make the header.
use Rattle.std.proofs.Common.{◌≡◌, length, take, arith}
use lib.Seq.{length-take-le}
use Rattle.token.proofs.Writes.{over-part}
use Rattle.packet.proofs.Writes.{fields}
use Rattle.packet.proofs.put_header.Goals as goal

pub returns : goal.returns
returns c =
    let d = c.args.out.now in
    let room : length (take 56 d) ≡ 56 = length-take-le 56 d (omega arith) in
    let all : length c.fill.new.self ≡ 56 = omega (arith, room) in
    rw (
      c.put_number-6.ensures,
      c.put_number-5.ensures,
      c.put_number-4.ensures,
      c.put_number-3.ensures,
      c.put_number-2.ensures,
      c.put_number.ensures,
      over-part d c.fill.new.self 0 56 all,
      c.fill.ensures.after (λ y e. e),
      room,
    )
    (fields _ _ _ _ _ c.pad.ensures.0)
