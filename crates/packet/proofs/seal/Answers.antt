-- `packet::seal` meets its contract.
use Rattle.std.proofs.Common.{◌≡◌, ◌+◌, ◌-◌, length, take, drop, arith, ◌∙◌, length-drop}
use lib.Seq.{length-take-le}
use Rattle.token.proofs.Writes.{over-part}
use Rattle.packet.proofs.Writes.{seal-done}
use Rattle.packet.proofs.seal.Goals as goal

pub returns-clause-buffer : goal.returns-clause-buffer
returns-clause-buffer c =
    let a = c.args in
    let p = c.pad-p.result in
    let h = c.put_header.new.out in
    let many : 56 + a.n + p - (56 + a.n) ≡ p = omega arith in
    let room : length (take p (drop (56 + a.n) h)) ≡ p = length-take-le p (drop (56 + a.n) h) (rw length-drop (omega arith)) in
    let all : length c.fill.new.self ≡ p = c.fill.ensures.len ∙ rw (many, room) in
    seal-done a.out.now a.tsn.0 a.hsn.0 a.n p _ c.pad-p.ensures.0 (omega arith, omega arith) (omega arith)
    (rw (many, over-part h c.fill.new.self (56 + a.n) p all, c.fill.ensures.after (λ y e. e), many, room, c.put_header.ensures))
