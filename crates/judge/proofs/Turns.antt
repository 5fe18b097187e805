-- The checks of an authority end as the outcome that was asked for says.
use mathlib.Core.Path.{◌≡◌, refl}
use mathlib.Core.Bool.{Bool, true, false, cond}
use Rattle.item.specs.declared.Slot.{Slot}
use Rattle.model.specs.declared.Cells.{Cells}
use Rattle.model.specs.declared.Who.{Who}
use Rattle.model.specs.declared.Who.TheVariants as W
use Rattle.model.specs.declared.Decision.{Decision}
use Rattle.model.specs.declared.Judged.{Judged}
use Rattle.model.specs.declared.Judged.TheVariants.{Settled}
use Rattle.model.specs.Judge.{need, Ends, judge_who}
use Rattle.judge.specs.declared.Asked.{Asked}
use Rattle.judge.specs.declared.Asked.TheVariants as A
use Rattle.judge.specs.Asked.{asked_of, turned}

-- one check, that goes on to what `a` stands for or ends as `z` does
asked_need : (e : Ends) (b : Bool) (d : Decision) (j : Judged) (a z : Asked) → j ≡ turned e a → Settled d ≡ turned e z → need b d j ≡ turned e (cond b a z)
unfolding need
asked_need e true d j a z p q = p
asked_need e false d j a z p q = q

pub who_asked : (c : Cells) (e : Ends) (w : Who) (x : Slot) → judge_who c e w x ≡ turned e (asked_of c w x)
unfolding judge_who asked_of turned
who_asked c e W.Unknown x = refl
who_asked c e W.Anybody x = refl
who_asked c e W.Class x = refl
who_asked c e (W.Row r) x = asked_need e _ _ _ _ A.Barred (asked_need e _ _ _ _ A.Full refl refl) refl
