-- A session is opened by a StartSession, to its SP and for its host.
use Prim.Native.Nat.{ℕ}
use mathlib.Core.Path.{◌≡◌, refl, sym, subst}
use mathlib.Core.Bool.{true, false}
use mathlib.Core.List.{List}
use Rattle.model.specs.Types.{Session, Card, Change, Decision}
use Rattle.model.specs.declared.Change.TheVariants as C
use Rattle.model.specs.declared.Decision.TheVariants as D
use Rattle.model.specs.Record as R
use Rattle.model.specs.Apply as A
use Rattle.model.specs.Step as Z
use Rattle.model.specs.Step.{Event, packet, powered, was_reset, asked, next}
use Rattle.model.specs.Seen.{Taken, nothing, took, taken}
use Rattle.model.specs.Packets.{OnZeros, Opens, ComesFrom}
use Rattle.model.proofs.Cases.{never}
use Rattle.model.proofs.Moves.{rests, moves}
use Rattle.model.proofs.Came.{comes}
use Rattle.model.proofs.Heard.{power-ind, reset-ind}

module _ (k : Card) (e : Event) (none : k.cells.session.live ≡ false) where
  -- what is to be shown of the session after the event
  abbrev Opened : Session → Type 0
  Opened x = x.live ≡ true → OnZeros k.cells.session e (Opens k.cells.tables.active x.locking x.hsn)

  still : Opened k.cells.session
  still = never none

  none_left : Opened R.no_session
  none_left = never refl

  by-change : (x : Change) → Opened (A.change k.cells x).session
  unfolding A.change
  by-change C.Nothing = still
  by-change (C.PutPin r p n) = still
  by-change (C.PutEnabled r on) = still
  by-change (C.PutRange i x) = still
  by-change (C.PutMbr x) = still
  by-change (C.PutResettable on) = still
  by-change C.Activate = still
  by-change C.RevertLocking = still
  by-change C.RevertAdmin = none_left
  by-change C.RevertSp = none_left

  by-decision : (s : List ℕ) (d : Decision) → ComesFrom k e s d → Opened (A.apply k.cells d).session
  unfolding A.apply
  by-decision s (D.Refuse c) f = still
  by-decision s (D.NotStarted c) f = still
  by-decision s (D.Missed r) f = still
  by-decision s (D.Started locking hsn w) f = λ _. f
  by-decision s D.Denied f = still
  by-decision s (D.Mistaken r) f = still
  by-decision s (D.Proved w) f = still
  by-decision s (D.Told o first last) f = still
  by-decision s (D.Done x) f = by-change x
  by-decision s D.Began f = still
  by-decision s D.BeganAlready f = still
  by-decision s D.Committed f = still
  by-decision s D.Abandoned f = still
  by-decision s D.NoneOpen f = still
  by-decision s D.Ended f = none_left
  by-decision s D.Broke f = none_left

-- the record j stands after the event
abbrev After : (k : Card) (e : Event) (none : k.cells.session.live ≡ false) → Card → Type 0
After k e none j = Opened k e none j.cells.session

by-taken : (k : Card) (room : ℕ) (p : List ℕ) (none : k.cells.session.live ≡ false) (t : Taken) → taken k (packet room p) ≡ t
    → After k (packet room p) none (next k (packet room p))
by-taken k room p none nothing q = subst (After k (packet room p) none) (sym (rests k room p q)) (still k (packet room p) none)
by-taken k room p none (took s d) q =
    subst (After k (packet room p) none) (sym (moves k (packet room p) s d q)) (by-decision k (packet room p) none s d (comes k (packet room p) s d q))

pub opened : (k : Card) (e : Event) (none : k.cells.session.live ≡ false) → After k e none (next k e)
unfolding next
opened k (packet room p) none = by-taken k room p none (taken k (packet room p)) refl
opened k powered none = power-ind (λ (x : Z.Reply). After k powered none x.card) k (λ _. still k powered none) (none_left k powered none)
opened k was_reset none = reset-ind (λ (x : Z.Reply). After k was_reset none x.card) k (λ _. still k was_reset none) (none_left k was_reset none)
opened k (asked write start count) none = still k (asked write start count) none
