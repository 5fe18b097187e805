-- The checks of an authority, once for a session start and for an Authenticate, and how each goes on.
use Rattle.std.specs.Prelude.{ℕ, Bool, cond, List, leb, ltb, eqb}
use Rattle.ranges.specs.Decides.{imp}
use Rattle.packet.specs.declared.Hsn.{Hsn}
use Rattle.item.specs.declared.Slot.{Slot}
use Rattle.params.specs.Columns.{free}
use Rattle.model.specs.declared.Cells.{Cells}
use Rattle.model.specs.declared.Who.{Who}
use Rattle.model.specs.declared.Who.TheVariants as W
use Rattle.model.specs.declared.Status.TheVariants as E
use Rattle.model.specs.declared.Decision.TheVariants as D
use Rattle.model.specs.declared.Judged.{Judged}
use Rattle.model.specs.declared.Judged.TheVariants.{Settled, Compare}
use Rattle.model.specs.Record.{try_limit, pin_bytes, tries_at, enabled_at}
use Rattle.model.specs.Judge.{need, place_of, count_of, Ends, judge_who, known, signer}
use Rattle.judge.specs.declared.Asked.{Asked}
use Rattle.judge.specs.declared.Asked.TheVariants as A

unfoldable pub asked_of : Cells → Who → Slot → Asked
asked_of c W.Unknown x = A.Barred
asked_of c W.Anybody x = A.Anybody
asked_of c W.Class x = A.Barred
asked_of c (W.Row r) x =
    cond (enabled_at c.tables r) (cond (ltb (tries_at c r) try_limit) (A.Compare r (place_of x) (count_of x)) A.Full) A.Barred

-- the end that each outcome has
unfoldable pub turned : Ends → Asked → Judged
turned e A.Barred = Settled e.barred
turned e A.Full = Settled e.full
turned e A.Anybody = Settled (e.right W.Anybody)
turned e (A.Compare r p n) = Compare r p n (e.right (W.Row r)) (e.wrong r)

abbrev pub start_ends : Bool → Hsn → Ends
start_ends locking hsn = record {
  barred = D.NotStarted E.NotAuthorized;
  full = D.NotStarted E.LockedOut;
  wrong = λ r. D.Missed r;
  right = λ w. D.Started locking hsn w;
}

abbrev pub proof_ends : Ends
proof_ends = record { barred = D.Denied; full = D.Refuse E.LockedOut; wrong = λ r. D.Mistaken r; right = λ w. D.Proved w }

-- a start on an SP that can be opened
unfoldable pub start_on : Cells → List ℕ → Bool → Hsn → ℕ → Slot → Slot → Judged
start_on c s locking hsn write challenge authority =
    need (eqb write 1) (D.NotStarted E.InvalidParameter)
    (need (imp (free authority) (free challenge)) (D.NotStarted E.InvalidParameter)
    (need (known (signer s locking authority)) (D.NotStarted E.InvalidParameter)
    (need (leb (count_of challenge) pin_bytes) (D.NotStarted E.InvalidParameter)
    (judge_who c (start_ends locking hsn) (signer s locking authority) challenge))))
