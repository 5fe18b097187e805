-- The payload is written, then its envelope.
use mathlib.Core.Path.{◌≡◌, sym, ◌∙◌}
use Prim.Native.Nat.{◌≤◌}
use lib.ListN.{length}
use Rattle.card.proofs.Sealed.{written, framed-broke, framed-else}
use borrow.Author.Rules.{rules}
use Rattle.card.proofs.write_answer.Goals as goal
use Rattle.card.proofs.write_answer.Goals.{Start}

printed : (c : Start) → length c.args.c.msid ≡ 32
printed c = search rules

room : (c : Start) → 2048 ≤ length c.args.answer.now
room c = search rules

pub returns-then-is_broke : goal.returns-then-is_broke
returns-then-is_broke c =
    let f = c.frame in
    let w = c.answer-n in
    let a = c.args in
    let all = framed-broke a.c a.packet.tsn a.packet.hsn a.d _ _ _ (sym c.is_broke.ensures ∙ c.if-is_broke.true)
    (written a.c a.d _ 0 0 _ _ _ _ (printed ((goal.at.returns-then-is_broke c).Start)) (room ((goal.at.returns-then-is_broke c).Start)) w.ensures.count w.ensures.buffer f.ensures.count f.ensures.buffer) in record { count = all.0; buffer = all.1 }

pub returns : goal.returns
returns c =
    let f = c.frame-2 in
    let w = c.answer-n in
    let a = c.args in
    let all = framed-else a.c a.packet.tsn a.packet.hsn a.d _ _ _ (sym c.is_broke.ensures ∙ c.if-is_broke.false)
    (written a.c a.d _ a.packet.tsn.0 a.packet.hsn.0 _ _ _ _ (printed ((goal.at.returns c).Start)) (room ((goal.at.returns c).Start)) w.ensures.count w.ensures.buffer f.ensures.count f.ensures.buffer) in record { count = all.0; buffer = all.1 }
