-- The walk: whatever is decided of a packet is legal where it is decided.
use Rattle.std.proofs.lemmas.Bool.{and_parts}
use Rattle.std.specs.Prelude.{Option, Some, None, Result, Ok, Err}
use Prim.Native.Nat.{ℕ, ◌<◌}
use mathlib.Core.Path.{◌≡◌, refl}
use mathlib.Core.Bool.{Bool, true, false, ◌&&◌}
use mathlib.Core.List.{List}
use borrow.Author.Tests.{ltb-true, leb-true, not-true}
use native.Mathlib.Omega.{arith}
use lib.Dec.{eqb}
use Rattle.payload.specs.declared.Payload.{Payload}
use Rattle.payload.specs.declared.Payload.TheVariants as P
use Rattle.value.specs.Value.{Values}
use Rattle.value.specs.Read.{Out}
use Rattle.item.specs.declared.Slot.{Slot}
use Rattle.item.specs.declared.Slot.TheVariants as S
use Rattle.params.specs.declared.Columns.{Columns}
use Rattle.params.specs.declared.Offence.{Offence}
use Rattle.params.specs.declared.Block.{Block}
use Rattle.params.specs.declared.Start.{Start}
use Rattle.params.specs.declared.Proof.{Proof}
use Rattle.params.specs.Columns.{column_at}
use Rattle.model.specs.Types.{Cells, Card, Object, Who, Change}
use Rattle.model.specs.declared.Who.TheVariants as W
use Rattle.model.specs.Record as R
use Rattle.model.specs.Uids as U
use Rattle.model.specs.Judge as J
use Rattle.model.specs.Step as Z
use Rattle.model.proofs.Legal as L
use Rattle.model.proofs.Cases.{cond_ind, whichever}
use Rattle.model.proofs.Legal.{KnownWho, LegalChange, Legal, Fair, surely, either, FairHeard, away, taken, Placed, need-ind}
use Rattle.ranges.proofs.Decide.{dec-imp}
use Rattle.model.proofs.Soundness.{dec-on}
use Rattle.model.proofs.Heard.{manager-ind, packet-ind, heard-ind}

-- ---- PINs
judge-who : (c : Cells) {locking : Bool} (e : J.Ends) {w : Who} (x : Slot) → KnownWho locking w → Legal c e.barred → Legal c e.full
    → ((r : ℕ) → (r < R.pin_count) × (R.tries_at c r < R.try_limit) → Legal c (e.wrong r))
    → ((v : Who) → KnownWho locking v → Legal c (e.right v)) → Fair c (J.judge_who c e w x)
unfolding J.judge_who
judge-who c e x L.unknown b f g h = surely b
judge-who c e x L.anybody b f g h = surely (h W.Anybody L.anybody)
judge-who c e x L.class b f g h = surely b
judge-who c e x (L.row {r = r} k) b f g h =
    need-ind (Fair c) _ _ _ (surely b) λ _. need-ind (Fair c) _ _ _ (surely f) λ t.
    either (h (W.Row r) (L.row k)) (g r (k.there, ltb-true _ _ t))

-- ---- on 0, 0
judge-start : (c : Cells) (s : List ℕ) (a : Option Start) → c.session.live ≡ false → Fair c (J.judge_start c s a)
unfolding J.judge_start
judge-start c s None none = surely tt
judge-start c s (Some t) none =
    let sp = t.sp in
    let challenge = t.challenge in
    let authority = t.authority in
    need-ind (Fair c) _ _ _ (surely tt) λ _. need-ind (Fair c) _ _ _ (surely tt) λ on. need-ind (Fair c) _ _ _ (surely tt) λ _.
    need-ind (Fair c) _ _ _ (surely tt) λ _. need-ind (Fair c) _ _ _ (surely tt) λ _. need-ind (Fair c) _ _ _ (surely tt) λ _.
    judge-who c _ challenge (L.signer-known s (eqb sp U.locking_sp) authority) tt tt (λ r h. h)
    (λ v k. (none, (dec-imp (eqb sp U.locking_sp) _ (dec-on _) (dec-on _)).holds on, k))

judge-manager : (c : Cells) (s : List ℕ) (object method : ℕ) (vs : Out Values) → Fair c (J.judge_manager c s object method vs)
unfolding J.judge_manager
judge-manager c s object method vs =
    need-ind (Fair c) _ _ _ (surely tt) λ _. need-ind (Fair c) _ _ _ (surely tt) λ none. judge-start c s _ (not-true _ none)

-- ---- what a Set changes
pin-legal : (c : Cells) (r : ℕ) (x : Slot) → r < R.pin_count → J.is_pin x ≡ true → LegalChange c (J.pin_change r x)
unfolding J.is_pin J.pin_change
pin-legal c r S.Absent m e = tt
pin-legal c r (S.Int v) m e = tt
pin-legal c r (S.Bytes p n) m e = (m, leb-true _ _ e)
pin-legal c r (S.List p) m e = tt
pin-legal c r S.Named m e = tt

flag-legal : (c : Cells) (f : Bool → Change) (x : Option Bool) → ((on : Bool) → LegalChange c (f on)) → LegalChange c (J.flag_change f x)
unfolding J.flag_change
flag-legal c f None h = tt
flag-legal c f (Some on) h = h on

range-legal : (a b d e f g h i : Bool) → (a && (b && (d && (e && (f && (g && (h && i))))))) ≡ true → i ≡ true
range-legal a b d e f g h i t =
    (and_parts h i (and_parts g _ (and_parts f _ (and_parts e _ (and_parts d _ (and_parts b _ (and_parts a _ t).1).1).1).1).1).1).1

change-legal : (c : Cells) (s : List ℕ) (t : Columns) {locking : Bool} {o : Object} → Placed locking o → J.values_ok c s t o ≡ true
    → LegalChange c (J.change_in s t o)
unfolding J.values_ok J.change_in
change-legal c s t L.pin_sid e = pin-legal c 0 (column_at t 3) (omega arith) e
change-legal c s t L.pin_msid e = tt
change-legal c s t L.tper_info e = flag-legal c _ _ (λ on. tt)
change-legal c s t L.sp_admin e = tt
change-legal c s t L.sp_locking e = tt
change-legal c s t L.this_sp e = tt
change-legal c s t (L.authority l m) e = flag-legal c _ _ (λ on. (l, m))
change-legal c s t (L.pin {r = r} l m) e = pin-legal c r (column_at t 3) m e
change-legal c s t (L.range _) e =
    range-legal (J.is_number (column_at t 3)) (J.is_number (column_at t 4)) (J.is_flag (column_at t 5)) (J.is_flag (column_at t 6)) (J.is_flag (column_at t 7))
    (J.is_flag (column_at t 8)) (J.is_resets s (column_at t 9)) _ e
change-legal c s t L.mbr_control e = tt
change-legal c s t L.nothing e = tt

-- ---- in the session
module _ (c : Cells) (live : c.session.live ≡ true) where
  judge-proof : (s : List ℕ) (a : Option Proof) → Fair c (J.judge_proof c s a)
  unfolding J.judge_proof
  judge-proof s None = surely tt
  judge-proof s (Some p) =
      let authority = p.authority in
      let proof = p.proof in
      need-ind (Fair c) _ _ _ (surely tt) λ _. need-ind (Fair c) _ _ _ (surely tt) λ _.
      judge-who c _ proof (L.who-known c.session.locking authority) tt tt (λ r h. h) (λ v k. (live, k))

  judge-get : (o : Object) (a : Option Block) → Fair c (J.judge_get o a)
  unfolding J.judge_get
  judge-get o None = surely tt
  judge-get o (Some b) = need-ind (Fair c) _ _ _ (surely tt) λ _. need-ind (Fair c) _ _ _ (surely tt) λ _. surely tt

  judge-set : (s : List ℕ) {o : Object} (x : Result Columns Offence) → Placed c.session.locking o → Fair c (J.judge_set c s o x)
  unfolding J.judge_set
  judge-set s (Err f) p = surely tt
  judge-set s (Ok t) p =
      need-ind (Fair c) _ _ _ (surely tt) λ _. need-ind (Fair c) _ _ _ (surely tt) λ _.
      need-ind (Fair c) _ _ _ (surely tt) λ e. surely (live, change-legal c s t p e)

  judge-bare : (o : Object) (m : ℕ) (bare : Bool) (x : Change) → (c.undo.live ≡ false → LegalChange c x) → Fair c (J.judge_bare c o m bare x)
  unfolding J.judge_bare
  judge-bare o m bare x h =
      need-ind (Fair c) _ _ _ (surely tt) λ _. need-ind (Fair c) _ _ _ (surely tt) λ _.
      need-ind (Fair c) _ _ _ (surely tt) λ none. surely (live, h (not-true _ none))

  revert-legal : {locking : Bool} {o : Object} → Placed locking o → c.session.locking ≡ locking → c.undo.live ≡ false → LegalChange c (J.revert_of o)
  unfolding J.revert_of
  revert-legal L.pin_sid e none = tt
  revert-legal L.pin_msid e none = tt
  revert-legal L.tper_info e none = tt
  revert-legal L.sp_admin e none = (none, e)
  revert-legal L.sp_locking e none = (none, e)
  revert-legal L.this_sp e none = tt
  revert-legal (L.authority l m) e none = tt
  revert-legal (L.pin l m) e none = tt
  revert-legal (L.range _) e none = tt
  revert-legal L.mbr_control e none = tt
  revert-legal L.nothing e none = tt

  activate-legal : c.undo.live ≡ false → LegalChange c (J.activate_on c.tables)
  unfolding J.activate_on
  activate-legal none = whichever (LegalChange c) c.tables.active _ _ tt none

  judge-method : (s : List ℕ) {o : Object} (m : ℕ) (vs : Out Values) → Placed c.session.locking o → Fair c (J.judge_method c s o m vs)
  unfolding J.judge_method
  judge-method s {o} m vs p =
      need-ind (Fair c) _ _ _ (surely tt) λ _.
      cond_ind (Fair c) (eqb m U.get_method) _ _ (λ _. judge-get o _) λ _.
      cond_ind (Fair c) (eqb m U.set_method) _ _ (λ _. judge-set s _ p) λ _.
      cond_ind (Fair c) (eqb m U.authenticate_method) _ _ (λ _. judge-proof s _) λ _.
      cond_ind (Fair c) (eqb m U.activate_method) _ _ (λ _. judge-bare o m _ _ activate-legal) λ _.
      cond_ind (Fair c) (eqb m U.revert_method) _ _ (λ _. judge-bare o m _ _ (revert-legal p refl)) (λ _. judge-bare o m _ _ (λ none. none))

  judge-session : (s : List ℕ) (p : Payload) → Fair c (Z.judge_session c s p)
  unfolding Z.judge_session
  judge-session s (P.Call object method params) = judge-method s _ _ (L.object-placed c.session.locking object)
  judge-session s P.EndSession = surely live
  judge-session s P.Begin = surely (cond_ind (Legal c) c.undo.live _ _ (λ _. tt) (λ e. (live, e)))
  judge-session s P.Commit = surely (cond_ind (Legal c) c.undo.live _ _ (λ e. e) (λ _. tt))
  judge-session s P.Abandon = surely (cond_ind (Legal c) c.undo.live _ _ (λ e. e) (λ _. tt))
  judge-session s P.Broken = surely live

-- ---- a packet
pub heard-fair : (k : Card) (room : ℕ) (s : List ℕ) → FairHeard k.cells (Z.heard k room s)
heard-fair k room s =
    let F = FairHeard k.cells in
    heard-ind F (λ _ _. away) k room s λ _ _ _.
    packet-ind F (λ _ _. away) k.cells s _
    (λ p _ _. manager-ind F (λ _ _. away) k.cells p.tsn p.hsn _ _ (λ object method params _. taken (judge-manager k.cells _ object method _)))
    (λ p _ e. taken (judge-session k.cells (and_parts k.cells.session.live _ e).0 _ _))
