-- A value seen flat by its first token.
use Rattle.std.specs.Prelude.{cond, eqb}
use Rattle.token.specs.declared.Token.{Token}
use Rattle.token.specs.declared.Token.TheVariants as K
use Rattle.item.specs.declared.Slot.{Slot}
use Rattle.item.specs.declared.Slot.TheVariants as S

unfoldable pub face_of : Token → Slot
face_of (K.Int v q) = S.Int v
face_of (K.Bytes p n q) = S.Bytes p n
face_of (K.Control c q) = cond (eqb c 0xf0) (S.List q) S.Named
face_of K.End = S.Absent
face_of K.Broken = S.Absent
