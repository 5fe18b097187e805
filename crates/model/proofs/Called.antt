-- What is decided of a call, on 0, 0 and in the session: the first fault that applies, or none.
use Rattle.std.specs.Prelude.{Option, Some, None}
use Prim.Native.Nat.{ℕ, ◌+◌, ◌≤◌, ◌<◌}
use mathlib.Core.Path.{◌≡◌, refl, sym, subst}
use mathlib.Core.Bool.{Bool, true, false, not, ◌&&◌}
use mathlib.Core.List.{List, [], ◌∷◌}
use mathlib.Core.Logic.{inl, inr, ⊎_elim}
use native.Mathlib.Omega.{arith}
use lib.Dec.{leb, eqb}
use Rattle.token.specs.Bytes.{within}
use Rattle.ranges.specs.Decides.{Decides}
use Rattle.ranges.proofs.Decide.{dec-not, dec-and}
use Rattle.value.specs.Value.{Values}
use Rattle.value.specs.Read.{Out}
use Rattle.item.specs.declared.Slot.{Slot}
use Rattle.params.specs.declared.Start.{Start}
use Rattle.params.specs.declared.Proof.{Proof}
use Rattle.params.specs.Names.{given}
use Rattle.params.specs.Columns.{free}
use Rattle.params.specs.Params.{no_columns, get_of, set_of, start_of, proof_of}
use Rattle.model.specs.Types.{Hsn, Session, Cells, Card, Object, Who, Status, Decision, Judged}
use Rattle.model.specs.declared.Object.TheVariants as O
use Rattle.model.specs.declared.Who.TheVariants as W
use Rattle.model.specs.declared.Status.TheVariants as E
use Rattle.model.specs.declared.Decision.TheVariants as D
use Rattle.model.specs.Record as R
use Rattle.model.specs.Uids as U
use Rattle.model.specs.Access.{in_table, allowed}
use Rattle.model.specs.Judge as J
use Rattle.model.specs.Vault.{decided}
use Rattle.model.specs.Answer.{status_number}
use Rattle.model.specs.Laws.{SoundRecord}
use Rattle.model.specs.Words.{OneOf, Sid, Admins, Has}
use Rattle.model.specs.Wants as N
use Rattle.model.specs.Wants.{Ruled}
use Rattle.model.specs.Calls as K
use Rattle.model.specs.Calls.{Opening, OnManager, OnObject}
use Rattle.model.proofs.Figures.{method-is}
use Rattle.model.proofs.Legal as L
use Rattle.model.proofs.Legal.{Placed}
use Rattle.model.proofs.Soundness.{dec-eq, dec-on, dec-off}
use Rattle.model.proofs.Accessed.{any, access-as-said}
use Rattle.model.proofs.Faults as F
use Rattle.model.proofs.Faults.{look}
use Rattle.model.proofs.Ordered.{Refused, Rowed, decision, unauthorised, invalid, locked_out, idle, of, got, put, bare, compared}

-- an authority that a UID names has its row
rowed : {b : Bool} {w : Who} → L.KnownWho b w → Rowed w
rowed L.unknown r e = absurd cc
rowed L.anybody r e = absurd cc
rowed L.class r e = absurd cc
rowed (L.row {r = q} k) r e = let f : q ≡ r = cc in omega (arith, k.there)

-- ---- what was decided on 0, 0
abbrev pub NotStarted : Decision → ℕ → Type 0
NotStarted d st = (x : Status) × (d ≡ D.NotStarted x) × (status_number x ≡ st)

abbrev pub started : Cells → Decision → Opening
started c d = record {
  plain = d ≡ D.Refuse E.NotAuthorized;
  refused = NotStarted d;
  wrong = λ w. (r : ℕ) × (w ≡ W.Row r) × (r < 13) × (R.tries_at c r < 5) × (d ≡ D.Missed r);
  started = λ locking hsn w. Rowed w × (d ≡ D.Started locking hsn w);
}

-- a start refused shows its status
not-started : (x : Status) → NotStarted (D.NotStarted x) (status_number x)
not-started x = (x, refl, refl)

-- how the checks of a StartSession end
abbrev ends : Bool → Hsn → J.Ends
ends locking hsn = record {
  barred = D.NotStarted E.NotAuthorized;
  full = D.NotStarted E.LockedOut;
  wrong = λ r. D.Missed r;
  right = λ w. D.Started locking hsn w;
}

module _ (k : Card) (s : List ℕ) (sound : SoundRecord k) where
  -- ---- StartSession
  abbrev Begun : Option Start → Decision → Type 0
  Begun x d = let e = started k.cells d in Ruled (N.start_faults k s x) e.refused (e.refused 0x01) (e.wrong (K.signer s x)) (K.started_by e s x)

  signed : (locking : Bool) (x : Slot) → Rowed (N.signs s locking x)
  signed locking x = rowed (subst (L.KnownWho locking) (F.signs-same s locking x) (L.signer-known s locking x))

  starts : (x : Option Start) → Begun x (of k s (J.need (not k.cells.session.live) (D.NotStarted E.NoSessions) (J.judge_start k.cells s x)))
  unfolding J.judge_start decided status_number
  starts None =
      look (λ j. Begun None (of k s j)) _ _ _ (F.not-not _ (dec-on k.cells.session.live)) (λ f. idle (inl (f, not-started E.NoSessions))) λ h.
      idle (inr (h, inl (tt, not-started E.InvalidParameter)))
  starts (Some t) =
      let hsn = t.hsn in
      let sp = t.sp in
      let write = t.write in
      let challenge = t.challenge in
      let authority = t.authority in
      let locking = eqb sp U.locking_sp in
      let G : Judged → Type 0 = λ j. Begun (Some t) (of k s j) in
      let bad = not-started E.InvalidParameter in
      look G _ _ _ (F.not-not _ (dec-on k.cells.session.live)) (λ f. idle (inl (f, not-started E.NoSessions))) λ h.
      look G _ _ _ (F.not-or (eqb sp U.admin_sp) (eqb sp U.locking_sp) (F.not-eq sp U.admin_sp) (F.not-eq sp U.locking_sp)) (λ f. idle (inr (h, inl (inl f, bad)))) λ a.
      look G _ _ _ (F.not-imp locking k.cells.tables.active (dec-eq sp U.locking_sp) (dec-off k.cells.tables.active))
      (λ f. idle (inr (h, inl (inr (inl f), bad)))) λ b.
      look G _ _ _ (F.not-eq write 1) (λ f. idle (inr (h, inl (inr (inr (inl f)), bad)))) λ c.
      look G _ _ _ (F.not-imp (free authority) (free challenge) (F.free-decides authority) (dec-not _ (F.free-decides challenge)))
      (λ f. idle (inr (h, inl (inr (inr (inr (inl f))), bad)))) λ d.
      subst (λ (w : Who). G (J.need (J.known w) (D.NotStarted E.InvalidParameter) (J.need (leb (J.count_of challenge) 32) (D.NotStarted E.InvalidParameter)
      (J.judge_who k.cells (ends locking hsn) w challenge)))) (sym (F.signs-same s locking authority))
      (look G _ _ _ (F.not_known (N.signs s locking authority)) (λ f. idle (inr (h, inl (inr (inr (inr (inr (inl f)))), bad)))) λ u.
      look G _ _ _ (F.not_short challenge) (λ f. idle (inr (h, inl (inr (inr (inr (inr (inr f)))), bad)))) λ v.
      idle (inr (
        h,
        inr (
          ⊎_elim a (⊎_elim b (⊎_elim c (⊎_elim d (⊎_elim u v)))),
          compared k s (ends locking hsn) challenge (λ d. NotStarted d 0x01) (λ d. NotStarted d 0x0c) (λ d. NotStarted d 0x3f) (λ d. NotStarted d 0x12)
              (λ d. Rowed (N.signs s locking authority) × (d ≡ D.Started locking hsn (N.signs s locking authority)))
              (λ d. (r : ℕ) × (N.signs s locking authority ≡ W.Row r) × (r < 13) × (R.tries_at k.cells r < 5) × (d ≡ D.Missed r))
              sound (N.signs s locking authority) u (not-started E.NotAuthorized) (not-started E.LockedOut)
              (λ r e l. (r, e, signed locking authority r e, l, refl)) (signed locking authority, refl),
        ),
      )))

  -- ---- a call on 0, 0
  pub on-manager : (object method : ℕ) (vs : Out Values)
      → OnManager (started k.cells (of k s (J.judge_manager k.cells s object method vs))) k s object method vs
  unfolding J.judge_manager J.need decided
  on-manager object method vs = record {
    other = λ n.
        look (λ j. of k s j ≡ D.Refuse E.NotAuthorized) (eqb object 0xff && eqb method 0xff02) _ _
        (dec-not _ (dec-and _ _ (dec-eq object 0xff) (dec-eq method 0xff02))) (λ _. refl) (λ p. absurd (p n));
    start = λ e f. rw e (rw f (starts (given None (start_of s) vs)));
  }

  module _ (o : Object) where
    -- ---- Authenticate
    abbrev Proved : Option Proof → Decision → Type 0
    Proved x d =
        let e = decision k.cells s o d in
        let w = K.prover k.cells.session.locking x in
        Ruled (N.proof_faults k s o x) e.refused e.denied (e.wrong w) (e.proved w)

    proves : (x : Option Proof) → Decides (in_table k.cells.session o 0x1c) (Has k.cells.session o 0x1c)
        → Proved x (of k s (J.need (in_table k.cells.session o 0x1c) (D.Refuse E.NotAuthorized) (J.judge_proof k.cells s x)))
    unfolding J.judge_proof decided
    proves None pair =
        look (λ j. Proved None (of k s j)) _ _ _ (dec-not _ pair) (λ n. inl (n, unauthorised)) λ h.
        inr (h, idle (inl (tt, invalid)))
    proves (Some p) pair =
        let authority = p.authority in
        let proof = p.proof in
        let w = U.who_in k.cells.session.locking authority in
        let named : Rowed w = rowed (L.who-known k.cells.session.locking authority) in
        let G : Judged → Type 0 = λ j. Proved (Some p) (of k s j) in
        look G _ _ _ (dec-not _ pair) (λ n. inl (n, unauthorised)) λ h.
        look G _ _ _ (F.not_known w) (λ f. inr (h, idle (inl (inl f, invalid)))) λ u.
        look G _ _ _ (F.not_short proof) (λ f. inr (h, idle (inl (inr f, invalid)))) λ v.
        inr (
          h,
          idle (inr (
            ⊎_elim u v,
            compared k s _ proof (λ d. d ≡ D.Denied) (λ d. Refused d 0x0c) (λ d. Refused d 0x3f) (λ d. Refused d 0x12) (λ d. Rowed w × (d ≡ D.Proved w))
                (λ d. (r : ℕ) × (w ≡ W.Row r) × (r < 13) × (R.tries_at k.cells r < 5) × (d ≡ D.Mistaken r))
                sound w u refl locked_out (λ r e l. (r, e, named r e, l, refl)) (named, refl),
          )),
        )

-- ---- methods by their UIDs

-- where a method stands in the table: Get, Set and Authenticate at many an object, the others at one or two
data Place (x : Session) (m : ℕ) : Object → Type 0 where
  common : {o : Object} → OneOf m (0x16 ∷ 0x17 ∷ 0x1c ∷ []) → Place x m o
  activate : m ≡ 0x203 → x.locking ≡ false → Place x m O.SpLocking
  revert-admin : m ≡ 0x202 → x.locking ≡ false → Place x m O.SpAdmin
  revert_locking : m ≡ 0x202 → x.locking ≡ false → Place x m O.SpLocking
  revert_sp : m ≡ 0x11 → x.locking ≡ true → Place x m O.ThisSp

get-or-set : {x : Session} {m : ℕ} {o : Object} → OneOf m (0x16 ∷ 0x17 ∷ []) → Place x m o
get-or-set = ⊎_elim (λ e. common (inl e)) (⊎_elim (λ e. common (inr (inl e))) absurd)

place : (x : Session) (m : ℕ) (b : Bool) (o : Object) → x.locking ≡ b → Placed b o → Has x o m → Place x m o
place x m b o e L.pin_sid h = get-or-set h
place x m b o e L.pin_msid h = common (inl h)
place x m b o e L.tper_info h = get-or-set h
place x m b o e L.sp_admin h = ⊎_elim (λ f. common (inl f)) (⊎_elim (λ f. revert-admin f e) absurd) h
place x m b o e L.sp_locking h = ⊎_elim (λ f. common (inl f)) (⊎_elim (λ f. revert_locking f e) (⊎_elim (λ f. activate f e) absurd)) h
place x m b o e L.this_sp h = ⊎_elim (λ f. common (inr (inr (inl f)))) (λ p. revert_sp p.1 p.0) h
place x m b o e (L.authority l g) h = ⊎_elim (λ f. common (inl f)) (λ p. common (inr (inl p.1))) h
place x m b o e (L.pin l g) h = get-or-set h
place x m b o e (L.range _) h = get-or-set h
place x m b o e L.mbr_control h = get-or-set h
place x m b o e L.nothing h = absurd h

-- the methods of the table
abbrev six : List ℕ
six = 0x16 ∷ 0x17 ∷ 0x1c ∷ 0x11 ∷ 0x202 ∷ 0x203 ∷ []

one-of-six : (x : Session) (m : ℕ) (o : Object) → Place x m o → OneOf m six
one-of-six x m o (common h) = ⊎_elim inl (⊎_elim (λ e. inr (inl e)) (⊎_elim (λ e. inr (inr (inl e))) absurd)) h
one-of-six x m o (activate e f) = inr (inr (inr (inr (inr (inl e)))))
one-of-six x m o (revert-admin e f) = inr (inr (inr (inr (inl e))))
one-of-six x m o (revert_locking e f) = inr (inr (inr (inr (inl e))))
one-of-six x m o (revert_sp e f) = inr (inr (inr (inl e)))

positive : (m : ℕ) → OneOf m six → 1 ≤ m
positive m =
    ⊎_elim (λ (e : m ≡ 0x16). omega arith) (⊎_elim (λ (e : m ≡ 0x17). omega arith) (⊎_elim (λ (e : m ≡ 0x1c). omega arith)
    (⊎_elim (λ (e : m ≡ 0x11). omega arith) (⊎_elim (λ (e : m ≡ 0x202). omega arith) (⊎_elim (λ (e : m ≡ 0x203). omega arith) absurd)))))

-- ---- who may, of the methods without columns
neither : {A : Type 0} (m : ℕ) → (any m (0x16 ∷ 0x17 ∷ 0x1c ∷ [])).0 ≡ false → OneOf m (0x16 ∷ 0x17 ∷ 0x1c ∷ []) → A
neither m e h = absurd ((any m (0x16 ∷ 0x17 ∷ 0x1c ∷ [])).1.fails e h)

module _ (x : Session) where
  may-activate : (o : Object) → Place x 0x203 o → Decides (allowed x o 0x203) (Sid x)
  may-activate o (common h) = neither 0x203 refl h
  may-activate o (activate e f) = access-as-said.activates x f
  may-activate o (revert-admin e f) = absurd (omega (arith, e))
  may-activate o (revert_locking e f) = absurd (omega (arith, e))
  may-activate o (revert_sp e f) = absurd (omega (arith, e))

  may-revert : (o : Object) → Place x 0x202 o → Decides (allowed x o 0x202) (Sid x)
  may-revert o (common h) = neither 0x202 refl h
  may-revert o (activate e f) = absurd (omega (arith, e))
  may-revert o (revert-admin e f) = (access-as-said.reverts x f).0
  may-revert o (revert_locking e f) = (access-as-said.reverts x f).1
  may-revert o (revert_sp e f) = absurd (omega (arith, e))

  may-revert-sp : (o : Object) → Place x 0x11 o → Decides (allowed x o 0x11) (Admins x)
  may-revert-sp o (common h) = neither 0x11 refl h
  may-revert-sp o (activate e f) = absurd (omega (arith, e))
  may-revert-sp o (revert-admin e f) = absurd (omega (arith, e))
  may-revert-sp o (revert_locking e f) = absurd (omega (arith, e))
  may-revert-sp o (revert_sp e f) = access-as-said.revert_sps x f

-- ---- a call in the session
range-there : (b : Bool) (u i : ℕ) → U.object_in b u ≡ O.Range i → i < 5
range-there b u i e = low (subst (Placed b) e (L.object-placed b u))
  where
    low : {c : Bool} {k : ℕ} → Placed c (O.Range k) → k < 5
    low (L.range l) = l

module _ (k : Card) (s : List ℕ) (sound : SoundRecord k) (object : ℕ) where
  abbrev here : Object
  here = U.object_in k.cells.session.locking object

  placed : (m : ℕ) → Has k.cells.session here m → Place k.cells.session m here
  placed m h = place k.cells.session m k.cells.session.locking here refl (L.object-placed k.cells.session.locking object) h

  stranger : (method : ℕ) (vs : Out Values) → ((m : ℕ) → OneOf m six → method ≡ 0x600000000 + m → ⊥)
      → Refused (of k s (J.judge_method k.cells s here (U.method_of method) vs)) 0x01
  unfolding J.judge_method decided
  stranger method vs n =
      look (λ j. Refused (of k s j) 0x01) _ _ _ (dec-not _ (access-as-said.pairs k.cells.session object (U.method_of method))) (λ _. unauthorised)
      (λ h. absurd (h (λ p.
      let q = one-of-six _ _ _ (placed (U.method_of method) p) in
      n (U.method_of method) q (method-is method (U.method_of method) (λ z. omega (arith, positive _ q, z)) refl))))

  pub on-object : (method : ℕ) (vs : Out Values)
      → OnObject (decision k.cells s here (of k s (J.judge_method k.cells s here (U.method_of method) vs))) k s here method vs
  unfolding J.judge_method U.method_of within
  on-object method vs =
      let pair = access-as-said.pairs k.cells.session object in
      record {
        get = λ e. rw e (got k s here (given None get_of vs) (pair 0x16));
        set = λ e. rw e (put k s here (given no_columns set_of vs) (pair 0x17) (access-as-said.sets k.cells.session object)
            (λ i f. let l : i < 5 = range-there _ object i f in omega (arith, sound.tables.rows)));
        authenticate = λ e. rw e (proves k s sound here (given None (proof_of s) vs) (pair 0x1c));
        activate = λ e. rw e (bare k s here 0x203 vs _ _ (pair 0x203) (λ h. may-activate _ here (placed 0x203 h)));
        revert = λ e. rw e (bare k s here 0x202 vs _ _ (pair 0x202) (λ h. may-revert _ here (placed 0x202 h)));
        revert_sp = λ e. rw e (bare k s here 0x11 vs _ _ (pair 0x11) (λ h. may-revert-sp _ here (placed 0x11 h)));
        other = stranger method vs;
      }
