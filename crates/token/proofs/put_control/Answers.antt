-- `token::put_control` meets its contract: a code whose first byte's reading is another token is outside the limits.
use Rattle.std.proofs.Common.{◌∙◌, refl}
use Rattle.token.specs.Write.{put_end, put_all}
use Rattle.token.proofs.Round.{not-control}
use Rattle.token.proofs.put_control.Goals as goal

pub returns-in_default : goal.returns-in_default
unfolding put_end put_all
returns-in_default c = rw (not-control c.args.code (λ e. c.in_default.not-Control (c.classify.ensures ∙ e))) record { answer = refl; buffer = refl }
