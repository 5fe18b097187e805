-- A sound image has just the bytes that are in hand, so it fills them.
use mathlib.Core.Path.{◌≡◌, sym, ◌∙◌, ap}
use native.Mathlib.Omega.{arith}
use Rattle.flamepocket.specs.Library.{sound_of}
use Rattle.line.specs.Write.{bytes_at}
use Rattle.desk.proofs.Lines.{Front, unhexed, filled, sound-length, loads, stays}
use Rattle.desk.proofs.load.Goals as goal
use Rattle.desk.proofs.load.Goals.{After-unhex-m}

-- the bytes that the line's digits say
digits : (c : After-unhex-m) → let a = c.args in Front c.zeros-bytes.result (bytes_at a.l.now a.at a.len) c.unhex-m.new.out c.unhex-m.result c.unhex-m.ensures.answer c.unhex-m.ensures.buffer
digits c = unhexed c.args.l.now _ _ _ _ _ (omega arith) c.zeros-bytes.ensures c.unhex-m.ensures.answer c.unhex-m.ensures.buffer

pub slice_bounds-bytes-end : goal.slice_bounds-bytes-end
slice_bounds-bytes-end c = (digits ((goal.at.slice_bounds-bytes-end c).After-unhex-m)).fits

pub slice_bounds-flamepocket_sound-end : goal.slice_bounds-flamepocket_sound-end
slice_bounds-flamepocket_sound-end c = (digits ((goal.at.slice_bounds-flamepocket_sound-end c).After-unhex-m)).counted

pub returns-then-flamepocket_sound-ne0 : goal.returns-then-flamepocket_sound-ne0
returns-then-flamepocket_sound-ne0 c = let u = digits ((goal.at.returns-then-flamepocket_sound-ne0 c).After-unhex-m) in
    stays _ _ _ _ _ _ (λ z. c.if-flamepocket_sound-ne0.true (c.flamepocket_sound.ensures ∙ ap sound_of u.here ∙ z)) c.say-count.ensures

pub returns : goal.returns
returns c = let u = digits ((goal.at.returns c).After-unhex-m) in
    let w : c.flamepocket_sound.result ≡ 0 = omega arith in
    let z = sym (ap sound_of u.here) ∙ sym c.flamepocket_sound.ensures ∙ w in
    let n = sound-length _ z in
    rw c.in_hand.ensures (loads _ _ _ _ _ _ _ z (filled c.args.image.now _ _ _ c.unhex.ensures.answer c.unhex.ensures.buffer (omega (arith, n))) c.say.ensures)
