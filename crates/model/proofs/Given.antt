-- By which packet a PIN is compared, and what a decision comes from.
use Rattle.std.proofs.lemmas.Bool.{and_parts}
use Rattle.std.specs.Prelude.{Option, Some, None}
use Prim.Native.Nat.{ℕ, ◌+◌}
use mathlib.Core.Path.{◌≡◌, refl, sym, ◌∙◌, ap, ap₂}
use mathlib.Core.Bool.{true, false}
use mathlib.Core.List.{List}
use mathlib.Core.Logic.{◌≢◌, inl, inr}
use native.Mathlib.Omega.{arith}
use borrow.Author.Tests.{eqb-true}
use lib.Dec.{eqb}
use Rattle.packet.specs.declared.Packet.{Packet}
use Rattle.packet.specs.Envelope.{opened_of}
use Rattle.payload.specs.declared.Payload.{Payload}
use Rattle.payload.specs.declared.Payload.TheVariants as P
use Rattle.payload.specs.Payload.{payload_at}
use Rattle.model.specs.Types.{Tsn, Hsn, Card, Object, Decision, Judged}
use Rattle.model.specs.declared.Object.TheVariants as O
use Rattle.model.specs.declared.Decision.TheVariants as D
use Rattle.model.specs.Uids as U
use Rattle.model.specs.Access.{in_table}
use Rattle.model.specs.Judge as J
use Rattle.model.specs.Vault.{part}
use Rattle.model.specs.Step as Z
use Rattle.model.specs.Step.{Event, packet}
use Rattle.model.specs.Packets.{OnZeros, OnSession, Compares, CallsMethod, Reverts, ComesFrom, Changes}
use Rattle.model.proofs.Cases.{cond_ind, whichever}
use Rattle.model.proofs.Accessed.{access-as-said}
use Rattle.model.proofs.Asked.{Free, Asks, plain, AsksHeard, away, taken, Last, judge-manager, judge-method, plainly}
use Rattle.model.proofs.Figures.{method-is}
use Rattle.model.proofs.Faults.{bytes-in}
use Rattle.model.proofs.Meant.{is-short, signer-names, has-this, last-method, set-changes, revert-changes, start-of}
use Rattle.model.proofs.Heard.{manager-ind, heard-ind}

-- ---- a payload: s is the request, and it starts at p
module _ (k : Card) (e : Event) where
  abbrev heard-as : Z.Heard → Type 0
  heard-as = AsksHeard k.cells (Compares k e) (ComesFrom k e)

  free : (s : List ℕ) (d : Decision) → Free d → ComesFrom k e s d
  free s (D.Refuse c) f = tt
  free s (D.NotStarted c) f = tt
  free s (D.Missed r) f = tt
  free s (D.Started locking hsn w) f = absurd f
  free s D.Denied f = tt
  free s (D.Mistaken r) f = tt
  free s (D.Proved w) f = tt
  free s (D.Told o first last) f = tt
  free s (D.Done x) f = absurd f
  free s D.Began f = absurd f
  free s D.BeganAlready f = absurd f
  free s D.Committed f = absurd f
  free s D.Abandoned f = absurd f
  free s D.NoneOpen f = absurd f
  free s D.Ended f = absurd f
  free s D.Broke f = absurd f

  hear-manager : (tsn : Tsn) (hsn : Hsn) (s : List ℕ) (p : ℕ) (x : Payload) → payload_at s p ≡ x
      → ((F : List ℕ → ℕ → Type 0) → k.cells.session.live ≡ false → F s p → OnZeros k.cells.session e F)
      → heard-as (Z.hear_manager k.cells tsn hsn s x)
  hear-manager tsn hsn s p x q came =
      manager-ind heard-as (λ _ _. away) k.cells tsn hsn s x λ object method params h.
      taken
      (judge-manager k.cells _ _ (free s) s object method _ λ eo em none host sp x who b.
      let start = start-of k s p params host sp x who (q ∙ h ∙ ap₂ (λ o m. P.Call o m params) eo em) b in (
        λ w. came _ none (record { challenge = x; authority = who; start = start }),
        λ r short names.
            inl
            (came _ none
            (record {
              locking = eqb sp U.locking_sp;
              host = host;
              challenge = x;
              authority = who;
              start = start;
              names = signer-names s (eqb sp U.locking_sp) who r names;
              short = is-short x short;
              bytes = bytes-in s x;
            })),
      ))

  module _ (live : k.cells.session.live ≡ true) (s : List ℕ) (p : ℕ) (came : (F : List ℕ → ℕ → Type 0) → F s p → OnSession k.cells.session e F) where
    abbrev judged-as : Judged → Type 0
    judged-as = Asks k.cells (λ r p n. Compares k e r (part s p n)) (ComesFrom k e s)

    module _ (object method params : ℕ) (q : payload_at s p ≡ P.Call object method params) where
      -- the call, with its method by number
      is_call : (m : ℕ) → m ≢ 0 → U.method_of method ≡ m → payload_at s p ≡ P.Call object (U.method_base + m) params
      is_call m n h = q ∙ ap (λ x. P.Call object x params) (method-is method m n h)

      calls : (m : ℕ) → m ≢ 0 → U.method_of method ≡ m → OnSession k.cells.session e (CallsMethod (U.method_base + m))
      calls m n h = came _ (record { object = object; params = params; call = is_call m n h })

      reverts : (o : Object) → U.object_in k.cells.session.locking object ≡ o → U.method_of method ≡ U.revert_method
          → OnSession k.cells.session e (Reverts k.cells.session.locking o)
      reverts o names h = came _ (record { object = object; params = params; call = is_call _ (λ z. omega arith) h; names = names })

      left : in_table k.cells.session (U.object_in k.cells.session.locking object) (U.method_of method) ≡ true → Last (U.method_of method)
          → U.method_of method ≡ U.revert_sp_method
      left there l =
          last-method k.cells.session (U.object_in k.cells.session.locking object) (U.method_of method) l
          ((access-as-said.pairs k.cells.session object (U.method_of method)).holds there)

      this : in_table k.cells.session (U.object_in k.cells.session.locking object) (U.method_of method) ≡ true
          → U.method_of method ≡ U.authenticate_method → U.object_in k.cells.session.locking object ≡ O.ThisSp
      this there e =
          has-this k.cells.session (U.object_in k.cells.session.locking object) (U.method_of method) e
          ((access-as-said.pairs k.cells.session object (U.method_of method)).holds there)

      judge-call : judged-as (Z.judge_session k.cells s (P.Call object method params))
      unfolding Z.judge_session J.activate_on
      judge-call =
          judge-method k.cells _ _ (free s) s _ _ _ live
          (λ there em who x r asks short names.
          inr
          (came _
          (record {
            object = object;
            params = params;
            authority = who;
            proof = x;
            call = is_call _ (λ z. omega arith) em;
            this_sp = this there em;
            asks = asks;
            names = names;
            short = is-short x short;
            bytes = bytes-in s x;
          })))
          (λ em t asks.
          set-changes k e s _ _ λ r at n names column.
          came _
          (record {
            object = object;
            params = params;
            call = is_call _ (λ z. omega arith) em;
            names = names;
            at = at;
            count = n;
            columns = t;
            asks = asks;
            column = column;
            bytes = refl;
          }))
          (λ em. whichever (Changes k e s) k.cells.tables.active _ _ tt (calls _ (λ z. omega arith) em))
          (λ em. revert-changes k e s _ (λ h. reverts O.SpAdmin h em) (λ h. reverts O.SpLocking h em))
          (λ there l. calls _ (λ z. omega arith) (left there l))

    judge-session : (x : Payload) → payload_at s p ≡ x → judged-as (Z.judge_session k.cells s x)
    unfolding Z.judge_session
    judge-session (P.Call object method params) q = judge-call object method params q
    judge-session P.EndSession q = plain tt (came _ q)
    judge-session P.Begin q = plainly k.cells k.cells.undo.live _ _ tt tt (came _ q) (came _ q)
    judge-session P.Commit q = plainly k.cells k.cells.undo.live _ _ tt tt (came _ q) (inl (came _ q))
    judge-session P.Abandon q = plainly k.cells k.cells.undo.live _ _ tt tt (came _ q) (inr (came _ q))
    judge-session P.Broken q = plain tt (came _ q)

-- ---- a packet
hear-packet : (k : Card) (room : ℕ) (s : List ℕ) (o : Option Packet) → opened_of s ≡ o → heard-as k (packet room s) (Z.hear_packet k.cells s o)
unfolding Z.hear_packet
hear-packet k room s (Some p) q =
    let tsn = p.tsn in
    let hsn = p.hsn in
    let start = p.start in
    let len = p.len in
    let e = packet room s in
    let x = k.cells.session in
    cond_ind (heard-as k e) (Z.is_manager tsn hsn) _ _
    (λ m.
    let zero = and_parts (eqb tsn.0 0) (eqb hsn.0 0) m in
    hear-manager k e tsn hsn _ start _ refl λ F none f. (
      none,
      record {
        room = room;
        request = s;
        start = start;
        count = len;
        event = refl;
        payload = f;
        envelope = q ∙ numbers tsn _ hsn _ start len (eqb-true _ _ zero.0) (eqb-true _ _ zero.1);
      },
    )) λ _.
    cond_ind (heard-as k e) (Z.is_session x tsn hsn) _ _
    (λ m.
    let live = and_parts x.live _ m in
    let same = and_parts (eqb x.tsn.0 tsn.0) (eqb x.hsn.0 hsn.0) live.1 in
    taken
    (judge-session k e live.0 _ start
    (λ F f. (
      live.0,
      record {
        room = room;
        request = s;
        start = start;
        count = len;
        event = refl;
        payload = f;
        envelope = q ∙ numbers tsn _ hsn _ start len (sym (eqb-true _ _ same.0)) (sym (eqb-true _ _ same.1));
      },
    ))
    _ refl)) (λ _. away)
  where
    packed : Tsn → Hsn → ℕ → ℕ → Option Packet
    packed tsn hsn start len = Some (record { tsn = tsn; hsn = hsn; start = start; len = len })

    numbers : (a b : Tsn) (c d : Hsn) (p n : ℕ) → a.0 ≡ b.0 → c.0 ≡ d.0 → packed a c p n ≡ packed b d p n
    numbers a b c d p n e f = ap₂ (λ (u v : ℕ). packed (record { 0 = u }) (record { 0 = v }) p n) e f
hear-packet k room s None q = away

pub heard-asks : (k : Card) (room : ℕ) (s : List ℕ) → AsksHeard k.cells (Compares k (packet room s)) (ComesFrom k (packet room s)) (Z.heard k room s)
heard-asks k room s = heard-ind (heard-as k (packet room s)) (λ _ _. away) k room s (λ _ _ _. hear-packet k room s _ refl)
