-- Where a PIN is compared, for which row and on what cells, and that nothing else rests on a PIN: the methods walked once.
use Rattle.std.proofs.lemmas.Bool.{and_parts}
use Rattle.std.specs.Prelude.{Option, Some, None, Result, Ok, Err}
use Prim.Native.Nat.{ℕ, ◌<◌}
use mathlib.Core.Path.{◌≡◌, refl, ap}
use mathlib.Core.Bool.{Bool, true, false, ◌||◌, cond}
use mathlib.Core.List.{List}
use mathlib.Core.Logic.{◌≢◌}
use borrow.Author.Tests.{ltb-true, eqb-true, eqb-false, not-true}
use lib.Dec.{leb, eqb}
use Rattle.ranges.specs.Decides.{imp}
use Rattle.value.specs.Value.{Values}
use Rattle.value.specs.Read.{Out}
use Rattle.item.specs.declared.Slot.{Slot}
use Rattle.params.specs.declared.Columns.{Columns}
use Rattle.params.specs.declared.Offence.{Offence}
use Rattle.params.specs.declared.Block.{Block}
use Rattle.params.specs.declared.Start.{Start}
use Rattle.params.specs.declared.Proof.{Proof}
use Rattle.params.specs.Names.{given}
use Rattle.params.specs.Params.{no_columns, set_of, start_of, proof_of}
use Rattle.model.specs.Types.{Tsn, Hsn, Cells, Object, Who, Change, Decision, Judged}
use Rattle.model.specs.declared.Who.TheVariants as W
use Rattle.model.specs.declared.Change.TheVariants as C
use Rattle.model.specs.declared.Decision.TheVariants as D
use Rattle.model.specs.declared.Judged.TheVariants.{Settled, Compare}
use Rattle.model.specs.Record as R
use Rattle.model.specs.Uids as U
use Rattle.model.specs.Access.{in_table}
use Rattle.model.specs.Judge as J
use Rattle.model.specs.Vault.{part}
use Rattle.model.specs.Step as Z
use Rattle.model.proofs.Legal as L
use Rattle.model.proofs.Cases.{cond_ind, whichever}
use Rattle.model.proofs.Legal.{KnownWho, need-ind}

-- nobody whose PIN is kept
abbrev Unasked : Who → Type 0
Unasked W.Unknown = Unit {0}
Unasked W.Anybody = Unit {0}
Unasked W.Class = Unit {0}
Unasked (W.Row r) = ⊥

-- a decision that rests on no PIN
abbrev pub Plain : Decision → Type 0
Plain (D.Refuse k) = Unit {0}
Plain (D.NotStarted k) = Unit {0}
Plain (D.Missed r) = ⊥
Plain (D.Started locking hsn w) = Unasked w
Plain D.Denied = Unit {0}
Plain (D.Mistaken r) = ⊥
Plain (D.Proved w) = Unasked w
Plain (D.Told o first last) = Unit {0}
Plain (D.Done x) = Unit {0}
Plain D.Began = Unit {0}
Plain D.BeganAlready = Unit {0}
Plain D.Committed = Unit {0}
Plain D.Abandoned = Unit {0}
Plain D.NoneOpen = Unit {0}
Plain D.Ended = Unit {0}
Plain D.Broke = Unit {0}

-- a decision that any call may come to
abbrev pub Free : Decision → Type 0
Free (D.Refuse k) = Unit {0}
Free (D.NotStarted k) = Unit {0}
Free (D.Missed r) = Unit {0}
Free (D.Started locking hsn w) = ⊥
Free D.Denied = Unit {0}
Free (D.Mistaken r) = Unit {0}
Free (D.Proved w) = Unit {0}
Free (D.Told o first last) = Unit {0}
Free (D.Done x) = ⊥
Free D.Began = ⊥
Free D.BeganAlready = ⊥
Free D.Committed = ⊥
Free D.Abandoned = ⊥
Free D.NoneOpen = ⊥
Free D.Ended = ⊥
Free D.Broke = ⊥

-- a row whose PIN may be compared
pub record Ready (c : Cells) (r : ℕ) : Type 0 where
  pub there : r < R.pin_count
  pub enabled : R.enabled_at c.tables r ≡ true
  pub few : R.tries_at c r < R.try_limit

-- F says of a row, a place and a count how they come to be compared, and H what a decision comes from
pub data Asks (c : Cells) (F : ℕ → ℕ → ℕ → Type 0) (H : Decision → Type 0) : Judged → Type 0 where
  plain : {d : Decision} → Plain d → H d → Asks c F H (Settled d)
  starts : {r p n : ℕ} {locking : Bool} {hsn : Hsn} → c.session.live ≡ false → Ready c r → F r p n
      → H (D.Started locking hsn (W.Row r)) → H (D.Missed r) → Asks c F H (Compare r p n (D.Started locking hsn (W.Row r)) (D.Missed r))
  proves : {r p n : ℕ} → c.session.live ≡ true → Ready c r → F r p n
      → H (D.Proved (W.Row r)) → H (D.Mistaken r) → Asks c F H (Compare r p n (D.Proved (W.Row r)) (D.Mistaken r))

-- G says it of a row and the bytes
pub data AsksHeard (c : Cells) (G : ℕ → List ℕ → Type 0) (H : List ℕ → Decision → Type 0) : Z.Heard → Type 0 where
  away : {n : ℕ} → AsksHeard c G H (Z.turned n)
  taken : {tsn : Tsn} {hsn : Hsn} {s : List ℕ} {j : Judged} → Asks c (λ r p n. G r (part s p n)) (H s) j → AsksHeard c G H (Z.judged tsn hsn s j)

-- a StartSession as far as its SP
pub record Begun (c : Cells) (a : Option Start) (hsn : Hsn) (sp : ℕ) (x who : Slot) : Type 0 where
  pub asked : a ≡ Some (record { hsn = hsn; sp = sp; write = 1; challenge = x; authority = who })
  pub known : (eqb sp U.admin_sp || eqb sp U.locking_sp) ≡ true
  pub on : imp (eqb sp U.locking_sp) c.tables.active ≡ true

-- a method that is none of the others
pub record Last (m : ℕ) : Type 0 where
  pub get : m ≢ U.get_method
  pub set : m ≢ U.set_method
  pub authenticate : m ≢ U.authenticate_method
  pub activate : m ≢ U.activate_method
  pub revert : m ≢ U.revert_method

module _ (c : Cells) where
  module _ (F : ℕ → ℕ → ℕ → Type 0) (H : Decision → Type 0) (free : (d : Decision) → Free d → H d) where
    judge-who : {locking : Bool} (e : J.Ends) {w : Who} (x : Slot) → KnownWho locking w → Asks c F H (Settled e.barred) → Asks c F H (Settled e.full)
        → Asks c F H (Settled (e.right W.Anybody))
        → ((r : ℕ) → w ≡ W.Row r → Ready c r → Asks c F H (Compare r (J.place_of x) (J.count_of x) (e.right (W.Row r)) (e.wrong r)))
        → Asks c F H (J.judge_who c e w x)
    unfolding J.judge_who
    judge-who e x L.unknown b f g h = b
    judge-who e x L.anybody b f g h = g
    judge-who e x L.class b f g h = b
    judge-who e x (L.row {r = r} k) b f g h =
        need-ind (Asks c F H) _ _ _ b λ on. need-ind (Asks c F H) _ _ _ f λ t.
        h r refl (record { there = k.there; enabled = on; few = ltb-true _ _ t })

    -- ---- on 0, 0
    judge-start : (s : List ℕ) (a : Option Start) → c.session.live ≡ false
        → ((hsn : Hsn) (sp : ℕ) (x who : Slot) → Begun c a hsn sp x who
        → ((w : Who) → H (D.Started (eqb sp U.locking_sp) hsn w))
        × ((r : ℕ) → leb (J.count_of x) R.pin_bytes ≡ true → J.signer s (eqb sp U.locking_sp) who ≡ W.Row r → F r (J.place_of x) (J.count_of x)))
        → Asks c F H (J.judge_start c s a)
    unfolding J.judge_start
    judge-start s None none f = plain tt (free _ tt)
    judge-start s (Some a) none f =
        let hsn = a.hsn in
        let sp = a.sp in
        let x = a.challenge in
        let who = a.authority in
        need-ind (Asks c F H) _ _ _ (plain tt (free _ tt)) λ known. need-ind (Asks c F H) _ _ _ (plain tt (free _ tt)) λ on.
        need-ind (Asks c F H) _ _ _ (plain tt (free _ tt)) λ one.
        let g = f hsn sp x who (record { asked = ap (λ (y : ℕ). Some (record { hsn = hsn; sp = sp; write = y; challenge = x; authority = who })) (eqb-true a.write 1 one); known = known; on = on }) in
        need-ind (Asks c F H) _ _ _ (plain tt (free _ tt)) λ _. need-ind (Asks c F H) _ _ _ (plain tt (free _ tt)) λ _.
        need-ind (Asks c F H) _ _ _ (plain tt (free _ tt)) λ short.
        judge-who _ x (L.signer-known s (eqb sp U.locking_sp) who) (plain tt (free _ tt)) (plain tt (free _ tt)) (plain tt (g.0 W.Anybody))
        (λ r e ready. starts none ready (g.1 r short e) (g.0 (W.Row r)) (free _ tt))

    pub judge-manager : (s : List ℕ) (object method : ℕ) (vs : Out Values)
        → (object ≡ U.manager_uid → method ≡ U.start_session → c.session.live ≡ false
        → (hsn : Hsn) (sp : ℕ) (x who : Slot) → Begun c (given None (start_of s) vs) hsn sp x who
        → ((w : Who) → H (D.Started (eqb sp U.locking_sp) hsn w))
        × ((r : ℕ) → leb (J.count_of x) R.pin_bytes ≡ true → J.signer s (eqb sp U.locking_sp) who ≡ W.Row r → F r (J.place_of x) (J.count_of x)))
        → Asks c F H (J.judge_manager c s object method vs)
    unfolding J.judge_manager
    judge-manager s object method vs f =
        need-ind (Asks c F H) _ _ _ (plain tt (free _ tt)) λ e. need-ind (Asks c F H) _ _ _ (plain tt (free _ tt)) λ none.
        let is = and_parts (eqb object U.manager_uid) (eqb method U.start_session) e in
        judge-start s _ (not-true _ none) (f (eqb-true _ _ is.0) (eqb-true _ _ is.1) (not-true _ none))

    -- ---- in the session
    judge-proof : (s : List ℕ) (a : Option Proof) → c.session.live ≡ true
        → ((who : ℕ) (x : Slot) (r : ℕ) → a ≡ Some (record { authority = who; proof = x }) → leb (J.count_of x) R.pin_bytes ≡ true → U.who_in c.session.locking who ≡ W.Row r
        → F r (J.place_of x) (J.count_of x))
        → Asks c F H (J.judge_proof c s a)
    unfolding J.judge_proof
    judge-proof s None live f = plain tt (free _ tt)
    judge-proof s (Some a) live f =
        let who = a.authority in
        let x = a.proof in
        need-ind (Asks c F H) _ _ _ (plain tt (free _ tt)) λ _. need-ind (Asks c F H) _ _ _ (plain tt (free _ tt)) λ short.
        judge-who _ x (L.who-known c.session.locking who) (plain tt (free _ tt)) (plain tt (free _ tt)) (plain tt (free _ tt))
        (λ r e ready. proves live ready (f who x r refl short e) (free _ tt) (free _ tt))

    judge-get : (o : Object) (a : Option Block) → Asks c F H (J.judge_get o a)
    unfolding J.judge_get
    judge-get o None = plain tt (free _ tt)
    judge-get o (Some b) = need-ind (Asks c F H) _ _ _ (plain tt (free _ tt)) λ _. need-ind (Asks c F H) _ _ _ (plain tt (free _ tt)) λ _. plain tt (free _ tt)

    judge-set : (s : List ℕ) (o : Object) (x : Result Columns Offence) → ((t : Columns) → x ≡ Ok t → H (D.Done (J.change_in s t o)))
        → Asks c F H (J.judge_set c s o x)
    unfolding J.judge_set
    judge-set s o (Err e) h = plain tt (free _ tt)
    judge-set s o (Ok t) h =
        need-ind (Asks c F H) _ _ _ (plain tt (free _ tt)) λ _. need-ind (Asks c F H) _ _ _ (plain tt (free _ tt)) λ _.
        need-ind (Asks c F H) _ _ _ (plain tt (free _ tt)) λ _. plain tt (h t refl)

    judge-bare : (o : Object) (m : ℕ) (bare : Bool) (x : Change) → H (D.Done x) → Asks c F H (J.judge_bare c o m bare x)
    unfolding J.judge_bare
    judge-bare o m bare x h =
        need-ind (Asks c F H) _ _ _ (plain tt (free _ tt)) λ _. need-ind (Asks c F H) _ _ _ (plain tt (free _ tt)) λ _. need-ind (Asks c F H) _ _ _ (plain tt (free _ tt)) λ _. plain tt h

    -- m is the method, of those that o has; what follows is said of each
    pub judge-method : (s : List ℕ) (o : Object) (m : ℕ) (vs : Out Values) → c.session.live ≡ true
        → (in_table c.session o m ≡ true → m ≡ U.authenticate_method → (who : ℕ) (x : Slot) (r : ℕ) → given None (proof_of s) vs ≡ Some (record { authority = who; proof = x })
        → leb (J.count_of x) R.pin_bytes ≡ true → U.who_in c.session.locking who ≡ W.Row r → F r (J.place_of x) (J.count_of x))
        → (m ≡ U.set_method → (t : Columns) → given no_columns set_of vs ≡ Ok t → H (D.Done (J.change_in s t o)))
        → (m ≡ U.activate_method → H (D.Done (J.activate_on c.tables)))
        → (m ≡ U.revert_method → H (D.Done (J.revert_of o)))
        → (in_table c.session o m ≡ true → Last m → H (D.Done C.RevertSp))
        → Asks c F H (J.judge_method c s o m vs)
    unfolding J.judge_method
    judge-method s o m vs live f put activate revert else =
        need-ind (Asks c F H) _ _ _ (plain tt (free _ tt)) λ there.
        cond_ind (Asks c F H) (eqb m U.get_method) _ _ (λ _. judge-get o _) λ n1.
        cond_ind (Asks c F H) (eqb m U.set_method) _ _ (λ e. judge-set s o _ (put (eqb-true _ _ e))) λ n2.
        cond_ind (Asks c F H) (eqb m U.authenticate_method) _ _ (λ e. judge-proof s _ live (f there (eqb-true _ _ e))) λ n3.
        cond_ind (Asks c F H) (eqb m U.activate_method) _ _ (λ e. judge-bare o m _ _ (activate (eqb-true _ _ e))) λ n4.
        cond_ind (Asks c F H) (eqb m U.revert_method) _ _ (λ e. judge-bare o m _ _ (revert (eqb-true _ _ e))) λ n5.
        judge-bare o m _ _
        (else there
        (record {
          get = eqb-false m U.get_method n1;
          set = eqb-false m U.set_method n2;
          authenticate = eqb-false m U.authenticate_method n3;
          activate = eqb-false m U.activate_method n4;
          revert = eqb-false m U.revert_method n5;
        }))

  pub plainly : {F : ℕ → ℕ → ℕ → Type 0} {H : Decision → Type 0} (b : Bool) (x y : Decision) → Plain x → Plain y → H x → H y
      → Asks c F H (Settled (cond b x y))
  plainly {F} {H} b x y p q f g = whichever (λ d. Asks c F H (Settled d)) b x y (plain p f) (plain q g)
