-- The text is the one for a long line, and none for a remark.
use mathlib.Core.Path.{refl, sym, ◌∙◌}
use Rattle.token.specs.Bytes.{over}
use Rattle.desk.specs.Texts.{too_long}
use Rattle.desk.specs.Desk.{long_text}
use Rattle.desk.proofs.too_long.Goals as goal

pub returns-then-is_remark : goal.returns-then-is_remark
unfolding long_text over
returns-then-is_remark c = (refl, rw (sym c.is_remark.ensures ∙ c.if-is_remark.true) (record { count = refl; out = refl }))

pub returns : goal.returns
unfolding long_text too_long
returns c =
    (refl, rw (sym c.is_remark.ensures ∙ c.if-is_remark.false) c.say-count.ensures)
