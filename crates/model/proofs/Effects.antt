-- Each call does to the record what is said of its end.
use Prim.Native.Nat.{ℕ, ◌+◌, ◌-◌}
use mathlib.Core.Path.{◌≡◌, sym, ◌∙◌, ap, subst, refl}
use mathlib.Core.Bool.{true}
use mathlib.Core.List.{List}
use lib.ListN.{take}
use Rattle.payload.specs.declared.Payload.TheVariants as P
use Rattle.value.specs.Read.{values_at}
use Rattle.model.specs.Types.{Card, Object, Who, Decision, Judged}
use Rattle.model.specs.declared.Who.TheVariants as W
use Rattle.model.specs.Uids as U
use Rattle.model.specs.Vault.{decided, obey}
use Rattle.model.specs.Answer.{told}
use Rattle.model.specs.Step.{judged, judge_session, reply_to, heard, after, command}
use Rattle.model.specs.Laws.{SoundRecord}
use Rattle.model.specs.Calls.{OnManager, OnObject}
use Rattle.model.specs.Sent.{Comes, InSession}
use Rattle.model.specs.Effects as F
use Rattle.model.specs.Effects.{opening_effects, effects, EffectsAsSaid}
use Rattle.model.proofs.Legal as L
use Rattle.model.proofs.Sent as M
use Rattle.model.proofs.Ordered.{decision}
use Rattle.model.proofs.Called as Q
use Rattle.model.proofs.Carried as R
use Rattle.model.proofs.Statuses as S
use Rattle.model.proofs.Effected as X
use Rattle.model.proofs.Telling as T
use Rattle.model.specs.Apply.{apply}

-- the record after what is heard
moved : (k : Card) (room : ℕ) (s r : List ℕ) (tsn hsn : ℕ) (j : Judged) → heard k room s ≡ judged (record { 0 = tsn }) (record { 0 = hsn }) r j
    → (command k room s).card ≡ after k r (decided k.vault r j)
unfolding reply_to
moved k room s r tsn hsn j e = ap (λ h. (reply_to k h).card) e

-- what holds after a decision, where that decision was taken
module _ (j k : Card) (s : List ℕ) (d : Decision) (e : k ≡ after j s d) where
  by : (C : Card → Type 0) (x : Decision) → d ≡ x → C (after j s x) → C k
  by C x p h = subst C (sym (e ∙ ap (after j s) p)) h

  opens : SoundRecord j → R.Opens (Q.started j.cells d) (opening_effects j k)
  unfolding apply obey
  opens sound = record {
    plain = λ p. by (λ x. x ≡ j) _ p refl;
    refused = λ st p. by (λ x. x ≡ j) _ p.1 refl;
    wrong = λ w p. subst (λ (x : Who). F.Missed j x k) (sym p.1) (by (F.Missed j (W.Row p.0)) _ p.4 (X.missed j s sound p.0 p.2 p.3));
    started = λ locking hsn w p. by (F.Started j locking hsn w) _ p.1 (X.by-started j s sound locking hsn w p.0);
  }

  module _ (u tsn hsn : ℕ) (bytes : List ℕ) (b : bytes ≡ S.says j.cells tsn hsn d) where
    abbrev here : Object
    here = U.object_in j.cells.session.locking u

    leads : SoundRecord j → j.cells.session.live ≡ true → R.Leads (decision j.cells s here d) (effects j s u here k bytes tsn hsn)
    unfolding apply obey
    leads sound live = record {
      refused = λ st p. by (λ x. x ≡ j) _ p.1 refl;
      got = λ first last p. (
        by (λ x. x ≡ j) _ p.1 refl,
        (
          told j.cells here (last + 1 - first) first,
          T.tells j u first last p.0,
          b ∙ ap (S.says j.cells tsn hsn) p.1 ∙ S.tells j.cells tsn hsn here first last,
        ),
      );
      put = λ t p.
          by (F.SetTo j s t here) _ p.1
          (X.by_set j s sound t _ here (L.object-placed j.cells.session.locking u) p.0);
      denied = λ p. by (λ x. x ≡ j) _ p refl;
      wrong = λ w p. subst (λ (x : Who). F.Missed j x k) (sym p.1) (by (F.Missed j (W.Row p.0)) _ p.4 (X.missed j s sound p.0 p.2 p.3));
      proved = λ w p. by (F.Proved j w) _ p.1 (X.by-proved j s sound w live p.0);
      activated = λ p. by (F.Activated j) _ p (X.by-activate j s sound);
      reverted = λ p. by (F.Reverted j here) _ p (X.by-revert j s sound here);
      reverted_sp = λ p. by (F.LockingRestored j F.closed) _ p (X.by-revert-sp j s sound);
    }

on-manager : (k : Card) (room : ℕ) (s : List ℕ) (start len object method params : ℕ) → Comes k room s 0 0 start len (P.Call object method params)
    → OnManager (opening_effects k (command k room s).card) k (take (start + len) s) object method (values_at (take (start + len) s) 15 params)
on-manager k room s start len object method params h =
    let r = take (start + len) s in
    R.manager (opens k _ r _ (moved k room s r 0 0 _ (M.on-manager k room s start len object method params h)) (M.soundly h))
    (Q.on-manager k r (M.soundly h) object method (values_at r 15 params))

in-session : (k : Card) (room : ℕ) (s : List ℕ) (tsn hsn start len object method params : ℕ)
    → Comes k room s tsn hsn start len (P.Call object method params) → InSession k tsn hsn
    → OnObject (effects k (take (start + len) s) object (U.object_in k.cells.session.locking object) (command k room s).card (command k room s).bytes tsn hsn)
    k (take (start + len) s) (U.object_in k.cells.session.locking object) method (values_at (take (start + len) s) 15 params)
unfolding judge_session
in-session k room s tsn hsn start len object method params h i =
    let r = take (start + len) s in
    let e = M.in-session k room s tsn hsn start len (P.Call object method params) h i in
    R.object (leads k _ r _ (moved k room s r tsn hsn _ e) object tsn hsn _ (S.answered k room s r tsn hsn _ e) (M.soundly h) i.live)
    (Q.on-object k r (M.soundly h) object method (values_at r 15 params))

pub effects-as-said : EffectsAsSaid
effects-as-said = record { manager = on-manager; session = in-session }
