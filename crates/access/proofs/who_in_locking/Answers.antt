-- `who_in_locking` meets its contract: the names of both SPs, the users', and the rows.
use borrow.Author.Tests.{ne_eqb}
use Rattle.model.specs.declared.Who.TheVariants as W
use Rattle.model.specs.Uids as U
use Rattle.access.proofs.Nth.{row-none, row-some}
use Rattle.access.proofs.who_in_locking.Goals as goal

pub returns-in-Some : goal.returns-in-Some
unfolding U.who_in
returns-in-Some c = simp (c.from.ensures, ne_eqb _ _ c.if-uid-eq-ANYBODY.false, ne_eqb _ _ c.if-uid-eq-CLASS_ADMINS.false, ne_eqb _ _ c.if-uid-eq-CLASS_USERS.false, row-some U.admin_base U.user_base c.args.uid _ c.in-Some.ensures (λ k. W.Row k))

pub returns-in-None : goal.returns-in-None
unfolding U.who_in
returns-in-None c = simp (ne_eqb _ _ c.if-uid-eq-ANYBODY.false, ne_eqb _ _ c.if-uid-eq-CLASS_ADMINS.false, ne_eqb _ _ c.if-uid-eq-CLASS_USERS.false, row-none U.admin_base U.user_base c.args.uid c.in-None.ensures (λ k. W.Row k))
