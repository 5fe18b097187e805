-- A StartSession and an Authenticate for a row that is enabled and has a try left have its PIN compared.
use Rattle.std.proofs.lemmas.Bool.{and_parts, and_from}
use Rattle.std.specs.Prelude.{Some, None}
use Prim.Native.Nat.{ℕ, ◌+◌, ◌≤◌, ◌<◌}
use mathlib.Core.Path.{◌≡◌, refl, sym, ◌∙◌, ap, subst}
use mathlib.Core.Bool.{Bool, true, false, not, ◌||◌, true≢false}
use mathlib.Core.List.{List}
use mathlib.Core.Logic.{◌≢◌, ◌⊎◌, inl, inr}
use native.Mathlib.Omega.{arith}
use borrow.Author.Tests.{lt-ltb, eq-eqb, eqb-true, not-false}
use lib.ListN.{take}
use lib.Dec.{leb, eqb}
use Rattle.ranges.specs.Decides.{imp}
use Rattle.ranges.proofs.Decide.{is_true, is_false, dec-imp}
use Rattle.token.specs.Bytes.{within}
use Rattle.packet.specs.Envelope.{opened_of}
use Rattle.payload.specs.Payload.{payload_at}
use Rattle.value.specs.Value.{Values}
use Rattle.value.specs.Read.{Out}
use Rattle.item.specs.declared.Slot.{Slot}
use Rattle.item.specs.declared.Slot.TheVariants as S
use Rattle.params.specs.Names.{given, uid_of}
use Rattle.params.specs.Columns.{free}
use Rattle.params.specs.Params.{start_of, proof_of}
use Rattle.model.specs.Types.{Tsn, Hsn, Cells, Card, Decision, Judged}
use Rattle.model.specs.declared.Object.TheVariants as O
use Rattle.model.specs.declared.Who.TheVariants as W
use Rattle.model.specs.declared.Decision.TheVariants as D
use Rattle.model.specs.declared.Judged.TheVariants.{Compare}
use Rattle.model.specs.Record as R
use Rattle.model.specs.Uids as U
use Rattle.model.specs.Judge as J
use Rattle.model.specs.Sound.{sound}
use Rattle.model.specs.Step as Z
use Rattle.model.specs.Step.{packet}
use Rattle.model.specs.Wants.{bytes_in, Over32}
use Rattle.model.specs.Packets.{Challenges, Authenticates, Compares}
use Rattle.model.specs.Signs as G
use Rattle.model.specs.Proved.{Ready}
use Rattle.model.proofs.Cases.{cond_ind}
use Rattle.model.proofs.Soundness.{sound-decides, dec-on}
use Rattle.model.proofs.Accessed.{access-as-said}
use Rattle.model.proofs.Faults.{not_short, bytes-in}
use Rattle.model.proofs.Heard.{heard-ind}

-- ---- the parameters
short-enough : (x : Slot) → (Over32 x → ⊥) → leb (J.count_of x) R.pin_bytes ≡ true
short-enough x h = not-false _ (is_false _ (not_short x) h)

none_named : {A : Type 0} (locking : Bool) (r : ℕ) → U.who_in locking 0 ≡ W.Row r → A
unfolding U.who_in within
none_named true r e = absurd cc
none_named false r e = absurd cc

passes : (b : Bool) (d : Decision) (j : Judged) → b ≡ true → J.need b d j ≡ j
unfolding J.need
passes b d j e = rw e refl

module _ (c : Cells) (r : ℕ) (enabled : R.enabled_at c.tables r ≡ true) (few : R.tries_at c r < R.try_limit) where
  judge-who : (e : J.Ends) (x : Slot) → J.judge_who c e (W.Row r) x ≡ Compare r (J.place_of x) (J.count_of x) (e.right (W.Row r)) (e.wrong r)
  unfolding J.judge_who J.need
  judge-who e x = rw (enabled, lt-ltb _ _ few) refl

  judge-start : (s : List ℕ) (host : Hsn) (sp : ℕ) (x who : Slot) → (eqb sp U.admin_sp || eqb sp U.locking_sp) ≡ true
      → imp (eqb sp U.locking_sp) c.tables.active ≡ true → (Over32 x → ⊥) → U.who_in (eqb sp U.locking_sp) (uid_of s who) ≡ W.Row r
      → J.judge_start c s (Some (record { hsn = host; sp = sp; write = 1; challenge = x; authority = who })) ≡ Compare r (J.place_of x) (J.count_of x) (D.Started (eqb sp U.locking_sp) host (W.Row r)) (D.Missed r)
  unfolding J.judge_start J.need J.signer J.known free uid_of
  judge-start s host sp x S.Absent known on short names = none_named _ r names
  judge-start s host sp x (S.Int v) known on short names = none_named _ r names
  judge-start s host sp x (S.Bytes p n) known on short names = rw (known, on, short-enough x short, names) (judge-who _ x)
  judge-start s host sp x (S.List p) known on short names = none_named _ r names
  judge-start s host sp x S.Named known on short names = none_named _ r names

  judge-proof : (s : List ℕ) (who : ℕ) (x : Slot) → (Over32 x → ⊥) → U.who_in c.session.locking who ≡ W.Row r
      → J.judge_proof c s (Some (record { authority = who; proof = x })) ≡ Compare r (J.place_of x) (J.count_of x) (D.Proved (W.Row r)) (D.Mistaken r)
  unfolding J.judge_proof J.need J.known
  judge-proof s who x short names = rw (names, short-enough x short) (judge-who _ x)

  judge-manager : (s : List ℕ) (vs : Out Values) (host : Hsn) (sp : ℕ) (x who : Slot) → c.session.live ≡ false
      → given None (start_of s) vs ≡ Some (record { hsn = host; sp = sp; write = 1; challenge = x; authority = who }) → (eqb sp U.admin_sp || eqb sp U.locking_sp) ≡ true
      → imp (eqb sp U.locking_sp) c.tables.active ≡ true → (Over32 x → ⊥) → U.who_in (eqb sp U.locking_sp) (uid_of s who) ≡ W.Row r
      → J.judge_manager c s U.manager_uid U.start_session vs
      ≡ Compare r (J.place_of x) (J.count_of x) (D.Started (eqb sp U.locking_sp) host (W.Row r)) (D.Missed r)
  unfolding J.judge_manager J.need
  judge-manager s vs host sp x who none asks known on short names =
      passes (not c.session.live) _ _ (ap not none) ∙ ap (J.judge_start c s) asks ∙ judge-start s host sp x who known on short names

  judge-method : (s : List ℕ) (object : ℕ) (vs : Out Values) (who : ℕ) (x : Slot) → U.object_in c.session.locking object ≡ O.ThisSp
      → given None (proof_of s) vs ≡ Some (record { authority = who; proof = x }) → (Over32 x → ⊥) → U.who_in c.session.locking who ≡ W.Row r
      → J.judge_method c s (U.object_in c.session.locking object) U.authenticate_method vs
      ≡ Compare r (J.place_of x) (J.count_of x) (D.Proved (W.Row r)) (D.Mistaken r)
  unfolding J.judge_method J.need
  judge-method s object vs who x this asks short names =
      rw (is_true _ (access-as-said.pairs c.session object U.authenticate_method) (rw this (inl refl)), asks) (judge-proof s who x short names)

-- ---- a packet
sp-is : (locking : Bool) (sp : ℕ) → ((locking ≡ false) × (sp ≡ U.admin_sp)) ⊎ ((locking ≡ true) × (sp ≡ U.locking_sp))
    → (eqb sp U.locking_sp ≡ locking) × ((eqb sp U.admin_sp || eqb sp U.locking_sp) ≡ true)
sp-is locking sp (inl h) = rw h.1 (sym h.0, refl)
sp-is locking sp (inr h) = rw h.1 (sym h.0, refl)

module _ (k : Card) (r : ℕ) (b : List ℕ) (ready : Ready k r) where
  -- what is heard, where it is answered
  abbrev Compared : Z.Heard → Type 0
  Compared h = (Z.reply_to k h).number ≡ 0 → G.query_in h ≡ G.row r b

  turned-away : (n : ℕ) → n ≢ 0 → Compared (Z.turned n)
  unfolding Z.reply_to
  turned-away n h e = absurd (h e)

  asked_of : (tsn : Tsn) (hsn : Hsn) (s : List ℕ) (j : Judged) (x : Slot) (equal differs : Decision)
      → j ≡ Compare r (J.place_of x) (J.count_of x) equal differs → b ≡ bytes_in s x → Compared (Z.judged tsn hsn s j)
  unfolding G.query_in G.query_of
  asked_of tsn hsn s j x equal differs e f n = rw (e, f) (ap (G.row r) (bytes-in s x))

  on-manager : (tsn : Tsn) (hsn : Hsn) (s : List ℕ) (p : ℕ) → k.cells.session.live ≡ false → Challenges k.cells.tables.active r b s p
      → Compared (Z.hear_manager k.cells tsn hsn s (payload_at s p))
  unfolding Z.hear_manager
  on-manager tsn hsn s p none x =
      let sp = sp-is x.locking x.start.sp x.start.names in
      rw x.start.call
      (asked_of tsn hsn s _ x.challenge _ _
      (judge-manager k.cells r ready.0 ready.1 s _ x.host x.start.sp x.challenge x.authority none x.start.asks sp.1
      (is_true _ (dec-imp (eqb x.start.sp U.locking_sp) _ (dec-on _) (dec-on _)) (λ e. x.start.on (sym sp.0 ∙ e))) x.short
      (ap (λ l. U.who_in l (uid_of s x.authority)) sp.0 ∙ x.names))
      x.bytes)

  in-session : (tsn : Tsn) (hsn : Hsn) (s : List ℕ) (p : ℕ) → Authenticates k.cells.session.locking r b s p
      → Compared (Z.judged tsn hsn s (Z.judge_session k.cells s (payload_at s p)))
  unfolding Z.judge_session U.method_of within
  in-session tsn hsn s p x =
      rw x.call
      (asked_of tsn hsn s _ x.proof _ _
      (judge-method k.cells r ready.0 ready.1 s x.object _ x.authority x.proof x.this_sp x.asks x.short x.names) x.bytes)

  -- the session's own numbers are not 0, 0
  not-manager : sound k ≡ true → k.cells.session.live ≡ true → Z.is_manager k.cells.session.tsn k.cells.session.hsn ≡ true → ⊥
  not-manager h live e =
      let z : k.cells.session.tsn.0 ≡ 0 = eqb-true _ _ (and_parts (eqb k.cells.session.tsn.0 0) _ e).0 in
      let l : 1 ≤ k.cells.session.tsn.0 = ((sound-decides k).holds h).session.tsn live in
      omega arith

  its_own : k.cells.session.live ≡ true → Z.is_session k.cells.session k.cells.session.tsn k.cells.session.hsn ≡ true
  its_own live = and_from _ _ live (and_from _ _ (eq-eqb k.cells.session.tsn.0 _ refl) (eq-eqb k.cells.session.hsn.0 _ refl))

  on-packet : (s : List ℕ) → sound k ≡ true
      → ((start count : ℕ) → opened_of s ≡ Some (record { tsn = record { 0 = 0 }; hsn = record { 0 = 0 }; start = start; len = count }) → k.cells.session.live ≡ false
      → Challenges k.cells.tables.active r b (take (start + count) s) start → Compared (Z.hear_packet k.cells s (opened_of s)))
      × ((start count : ℕ) → opened_of s ≡ Some (record { tsn = k.cells.session.tsn; hsn = k.cells.session.hsn; start = start; len = count }) → k.cells.session.live ≡ true
      → Authenticates k.cells.session.locking r b (take (start + count) s) start → Compared (Z.hear_packet k.cells s (opened_of s)))
  unfolding Z.hear_packet
  on-packet s h = (
    λ start count e none x. rw e (on-manager _ _ (take (start + count) s) start none x),
    λ start count e live x.
        let t = take (start + count) s in
        let own = k.cells.session in
        rw e
        (cond_ind Compared (Z.is_manager own.tsn own.hsn) _ _ (λ m. absurd (not-manager h live m)) λ _.
        cond_ind Compared (Z.is_session own own.tsn own.hsn) _ _ (λ _. in-session _ _ t start x) (λ m. absurd (true≢false (sym (its_own live) ∙ m)))),
  )

  by-packet : (room : ℕ) (s : List ℕ) → Compares k (packet room s) r b → Compared (Z.heard k room s)
  by-packet room s (inl (none, x)) =
      let e : s ≡ x.request = cc x.event in
      heard-ind Compared turned-away k room s
      (λ h _ _. (on-packet s h).0 x.start x.count (ap opened_of e ∙ x.envelope) none
      (subst (λ (t : List ℕ). Challenges k.cells.tables.active r b (take (x.start + x.count) t) x.start) (sym e) x.payload))
  by-packet room s (inr (live, x)) =
      let e : s ≡ x.request = cc x.event in
      heard-ind Compared turned-away k room s
      (λ h _ _. (on-packet s h).1 x.start x.count (ap opened_of e ∙ x.envelope) live
      (subst (λ (t : List ℕ). Authenticates k.cells.session.locking r b (take (x.start + x.count) t) x.start) (sym e) x.payload))

pub compares : (k : Card) (room : ℕ) (s : List ℕ) (r : ℕ) (b : List ℕ)
    → (Z.command k room s).number ≡ 0 → Compares k (packet room s) r b → Ready k r → G.query k (packet room s) ≡ G.row r b
unfolding G.query
compares k room s r b n x ready = by-packet k r b ready room s x n
