-- A question in either direction.
use Rattle.std.proofs.Common.{◌≡◌, Bool, true, false, refl}
use mir.Val.{bool_byte}
use Rattle.desk.specs.Desk.{direction}
use Rattle.desk.proofs.Written.{retext}
use Rattle.desk.proofs.media.Goals as goal

-- the byte of a direction
byte_is : (w : Bool) → bool_byte w ≡ direction w
byte_is true = refl
byte_is false = refl

pub returns : goal.returns
returns c = retext c.say_verdict.ensures (rw (c.flamepocket_media-r.ensures, c.from.ensures, byte_is c.args.write))
