-- The signs of PINs: what was compared with what, and how that was answered.
use Prim.Native.Nat.{ℕ}
use mathlib.Core.Path.{◌≡◌, refl, sym, ◌∙◌, ap}
use mathlib.Core.Bool.{Bool, cond}
use mathlib.Core.List.{List}
use mathlib.Core.Logic.{◌≢◌}
use lib.Dec.{eqb}
use Rattle.ranges.specs.Decides.{Decides}
use Rattle.ranges.proofs.Decide.{is_true, is_false}
use Rattle.model.specs.Types.{Card, Change, Decision}
use Rattle.model.specs.declared.Change.TheVariants as C
use Rattle.model.specs.declared.Decision.TheVariants as D
use Rattle.model.specs.declared.Judged.TheVariants.{Settled, Compare}
use Rattle.model.specs.Vault as Y
use Rattle.model.specs.Step as Z
use Rattle.model.specs.Step.{Event, packet, powered, was_reset, asked}
use Rattle.model.specs.Seen as E
use Rattle.model.specs.Signs as S
use Rattle.model.specs.Signs.{Unasked, SignsOfPins}
use Rattle.model.proofs.Faults.{same-decides}
use Rattle.model.proofs.Cases.{whichever}

-- ---- where a PIN is compared
abbrev Verdict : Card → ℕ → List ℕ → E.Answered → Type 0
Verdict k r p a = (b : Bool) × (a ≡ E.said b) × Decides b (S.pin k r ≡ p)

verdict-of : (k : Card) (x : Z.Heard) (r : ℕ) (p : List ℕ) → S.query_in x ≡ S.row r p → Verdict k r p (E.of_heard k x)
unfolding S.query_in S.query_of E.of_heard E.of_judged
verdict-of k (Z.turned n) r p e = absurd cc
verdict-of k (Z.judged tsn hsn s (Settled d)) r p e = absurd cc
verdict-of k (Z.judged tsn hsn s (Compare q at n equal differs)) r p e =
    let u : q ≡ r = cc in
    let v : Y.part s at n ≡ p = cc in
    (Y.matches k.vault q (Y.part s at n), refl, rw (sym u, sym v) (same-decides (S.pin k q) (Y.part s at n)))

verdict : (k : Card) (e : Event) (r : ℕ) (p : List ℕ) → S.query k e ≡ S.row r p → Verdict k r p (E.answered k e)
unfolding S.query E.answered
verdict k (packet room s) r p e = verdict-of k (Z.heard k room s) r p e
verdict k powered r p e = absurd cc
verdict k was_reset r p e = absurd cc
verdict k (asked write start count) r p e = absurd cc

signed : (k : Card) (e : Event) (r : ℕ) (p : List ℕ) → S.query k e ≡ S.row r p → S.sign k e ≡ S.compared k.cells.session.live r (E.answered k e)
unfolding S.query S.sign S.packet_sign
signed k (packet room s) r p e = rw e refl
signed k powered r p e = absurd cc
signed k was_reset r p e = absurd cc
signed k (asked write start count) r p e = absurd cc

right : (k : Card) (e : Event) (r : ℕ) → S.query k e ≡ S.row r (S.pin k r) → S.sign k e ≡ cond k.cells.session.live (S.proves r) (S.enters r)
unfolding S.compared
right k e r q =
    let (b, a, d) = verdict k e r (S.pin k r) q in
    signed k e r _ q ∙ ap (S.compared k.cells.session.live r) (a ∙ ap E.said (is_true b d refl))

wrong : (k : Card) (e : Event) (r : ℕ) (b : List ℕ) → S.query k e ≡ S.row r b → S.pin k r ≢ b → S.sign k e ≡ S.misses r
unfolding S.compared
wrong k e r p q n =
    let (b, a, d) = verdict k e r p q in
    signed k e r p q ∙ ap (S.compared k.cells.session.live r) (a ∙ ap E.said (is_false b d n))

-- ---- where none is
of-change : (s : List ℕ) (x : Change) → Unasked (S.changed s x)
unfolding S.changed
of-change s C.Nothing = tt
of-change s (C.PutPin r p n) = tt
of-change s (C.PutEnabled r on) = tt
of-change s (C.PutRange i e) = tt
of-change s (C.PutMbr e) = tt
of-change s (C.PutResettable on) = tt
of-change s C.Activate = tt
of-change s C.RevertLocking = tt
of-change s C.RevertAdmin = tt
of-change s C.RevertSp = tt

of-decision : (s : List ℕ) (d : Decision) → Unasked (S.decided_sign s d)
unfolding S.decided_sign
of-decision s (D.Refuse k) = tt
of-decision s (D.NotStarted k) = tt
of-decision s (D.Missed r) = tt
of-decision s (D.Started locking hsn w) = tt
of-decision s D.Denied = tt
of-decision s (D.Mistaken r) = tt
of-decision s (D.Proved w) = tt
of-decision s (D.Told o first last) = tt
of-decision s (D.Done x) = of-change s x
of-decision s D.Began = tt
of-decision s D.BeganAlready = tt
of-decision s D.Committed = tt
of-decision s D.Abandoned = tt
of-decision s D.NoneOpen = tt
of-decision s D.Ended = tt
of-decision s D.Broke = tt

of-taken : (t : E.Taken) → Unasked (S.taken_sign t)
unfolding S.taken_sign
of-taken E.nothing = tt
of-taken (E.took s d) = of-decision s d

not-compared : (k : Card) (e : Event) → S.query k e ≡ S.none → Unasked (S.sign k e)
unfolding S.sign S.packet_sign
not-compared k (packet room s) e = rw e (of-taken (E.taken k (packet room s)))
not-compared k powered e = tt
not-compared k was_reset e = whichever Unasked (eqb (Z.reset k).number 0) S.ends S.idles tt tt
not-compared k (asked write start count) e = tt

pub signs-of-pins : SignsOfPins
signs-of-pins = record { right = right; wrong = wrong; unasked = not-compared }
