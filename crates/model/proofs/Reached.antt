-- Every record that a run reaches is sound: each legal decision and each reset keeps it so.
use Prim.Native.Nat.{ℕ, ◌+◌, ◌≤◌, ◌<◌}
use mathlib.Core.Path.{◌≡◌, refl, sym, ◌∙◌, ap, subst}
use mathlib.Core.Bool.{Bool, true, false, cond, true≢false}
use mathlib.Core.List.{List, [], ◌∷◌}
use mathlib.Core.Logic.{⊎_elim}
use native.Mathlib.Omega.{arith}
use lib.ListN.{set, length-set}
use borrow.Author.Tests.{le-leb, lt-ltb}
use lib.Dec.{ltb}
use Rattle.ranges.proofs.Decide.{is_true, le-or-lt}
use Rattle.ranges.proofs.Shares.{shares-total, share-range}
use Rattle.model.specs.Types.{Tsn, Hsn, Tables, PinRow, Session, Cells, Secret, Card, Who, Change, Decision}
use Rattle.model.specs.declared.Change.TheVariants as C
use Rattle.model.specs.declared.Decision.TheVariants as D
use Rattle.model.specs.Record as R
use Rattle.model.specs.Vault as Y
use Rattle.model.specs.Apply as A
use Rattle.model.specs.Step as Z
use Rattle.model.specs.Step.{Heard, Event, packet, powered, was_reset, asked, after, next, run}
use Rattle.model.specs.Laws.{SoundTables, SoundSession, SoundSecrets, SoundRecord, Made, AlwaysSound, ApartAndShared, RangesApart}
use Rattle.model.proofs.Soundness.{Tries, sound-decides}
use Rattle.model.proofs.Legal as L
use Rattle.model.proofs.Cases.{cond_ind, never, whichever}
use Rattle.model.proofs.Legal.{KnownWho, LegalChange, Legal, FairHeard, away, taken, fair-decided}
use Rattle.model.proofs.Walked.{heard-fair}
use Rattle.model.proofs.Parts
use Rattle.model.proofs.Moves.{cleared-tries}
use Rattle.model.proofs.Heard.{power-ind, reset-ind}

-- ---- the record with one part put anew
abbrev celled : Card → Cells → Card
celled k c = record { cells = c; vault = k.vault }

module _ (k : Card) (h : SoundRecord k) where
  -- the rollback copies stay
  steady : (t : Tables) (l : List PinRow) (s : Session) (x : Tsn) (v : List Secret) → SoundTables k.cells.n t → Tries l → SoundSession t s → 1 ≤ x.0
      → SoundSecrets v → (k.cells.undo.live ≡ true → (s.live ≡ true) × SoundSession k.cells.undo.was s)
      → SoundRecord (record { cells = R.with_next (R.with_session (R.with_pins (R.with_tables k.cells t) l) s) x; vault = Y.with_live k.vault v })
  steady t l s x v tables tries session next live undone = record {
    size = h.size;
    msid = h.msid;
    tables = tables;
    pins = tries.0;
    tries = tries.1;
    next = next;
    session = session;
    live = live;
    kept = h.kept;
    transaction = λ e. (undone e).0;
    was = λ e. ((h.was e).0, (undone e).1);
    blank = h.blank;
  }

  as-was : k.cells.undo.live ≡ true → (k.cells.session.live ≡ true) × SoundSession k.cells.undo.was k.cells.session
  as-was e = (h.transaction e, (h.was e).1)

  with-pins : (l : List PinRow) → Tries l → SoundRecord (celled k (R.with_pins k.cells l))
  with-pins l g = steady _ l _ _ _ h.tables g h.session h.next h.live as-was

  with-next : (x : Tsn) → 1 ≤ x.0 → SoundRecord (celled k (R.with_next k.cells x))
  with-next x g = steady _ _ _ x _ h.tables (h.pins, h.tries) h.session g h.live as-was

  with-tables : (t : Tables) → SoundTables k.cells.n t → SoundSession t k.cells.session → SoundRecord (celled k (R.with_tables k.cells t))
  with-tables t g f = steady t _ _ _ _ g (h.pins, h.tries) f h.next h.live as-was

  with-session : (s : Session) → SoundSession k.cells.tables s
      → (k.cells.undo.live ≡ true → (s.live ≡ true) × SoundSession k.cells.undo.was s) → SoundRecord (celled k (R.with_session k.cells s))
  with-session s g f = steady _ _ s _ _ h.tables (h.pins, h.tries) g h.next h.live f

  with-live : (v : List Secret) → SoundSecrets v → SoundRecord (record { cells = k.cells; vault = Y.with_live k.vault v })
  with-live v g = steady _ _ _ _ v h.tables (h.pins, h.tries) h.session h.next g as-was

  -- a restore, where no transaction is open
  restored : (t : Tables) (l : List PinRow) (s : Session) (v : List Secret) → k.cells.undo.live ≡ false → SoundTables k.cells.n t → Tries l → SoundSession t s
      → SoundSecrets v → SoundRecord (record { cells = R.with_session (R.with_pins (R.with_tables k.cells t) l) s; vault = Y.with_live k.vault v })
  restored t l s v none g p f x = steady t l s _ v g p f h.next x (λ e. never none e)

  -- no transaction, these tables, this session and these PINs
  settled_at : (t : Tables) (s : Session) (l : List Secret) → SoundTables k.cells.n t → SoundSession t s → SoundSecrets l
      → SoundRecord (record { cells = R.with_session (A.closed k.cells t) s; vault = record { live = l; kept = R.no_secrets } })
  settled_at t s l g f v = record {
    size = h.size;
    msid = h.msid;
    tables = g;
    pins = h.pins;
    tries = h.tries;
    next = h.next;
    session = f;
    live = v;
    kept = Parts.no-secrets;
    transaction = λ e. absurd (true≢false (sym e));
    was = λ e. absurd (true≢false (sym e));
    blank = λ _. (refl, refl);
  }

  begun : k.cells.session.live ≡ true
      → SoundRecord (record { cells = R.with_undo k.cells (record { live = true; was = k.cells.tables }); vault = record { live = k.vault.live; kept = k.vault.live } })
  begun l = record {
    size = h.size;
    msid = h.msid;
    tables = h.tables;
    pins = h.pins;
    tries = h.tries;
    next = h.next;
    session = h.session;
    live = h.live;
    kept = h.live;
    transaction = λ _. l;
    was = λ _. (h.tables, h.session);
    blank = λ e. absurd (true≢false e);
  }

  with-tries : (r n : ℕ) → n ≤ 5 → SoundRecord (celled k (R.with_tries k.cells r n))
  with-tries r n l =
      with-pins _ (length-set k.cells.pins r (record { tries = n }) ∙ h.pins, Parts.stored (λ _ x. x.tries ≤ 5) k.cells.pins _ r _ l h.tries)

  -- the tables that stand where a transaction is given up, and the session shut on sound ones
  stand : SoundTables k.cells.n (A.settled_tables k.cells)
  stand = cond_ind (SoundTables k.cells.n) k.cells.undo.live _ _ (λ l. (h.was l).0) (λ _. h.tables)

  shut : (t : Tables) → SoundTables k.cells.n t
      → SoundRecord (record { cells = R.with_session (A.closed k.cells t) R.no_session; vault = Y.given_up k.cells.undo.live k.vault })
  shut t g =
      cond_ind (λ v. SoundRecord (record { cells = R.with_session (A.closed k.cells t) R.no_session; vault = v })) k.cells.undo.live _ _
      (λ _. settled_at t R.no_session _ g (Parts.no-session t) h.kept)
      (λ _. settled_at t R.no_session _ g (Parts.no-session t) h.live)

  pub reset-sound : SoundRecord (Z.reset_to k (A.tper_reset k.cells))
  reset-sound = shut _ (Parts.relocked-sound _ _ stand)

-- ---- Tries that are 0
no-tries : Tries R.no_tries
no-tries = (refl, λ r. rw (Parts.no-tries r) (omega arith))

locking-tries : (k : Card) → SoundRecord k → Tries (A.locking_tries k.cells.pins)
locking-tries k h = (refl, Parts.stored (λ _ x. x.tries ≤ 5) R.no_tries _ 0 _ (h.tries 0) no-tries.1)

pub power-sound : (k : Card) → SoundRecord k → SoundRecord (Z.reset_to k (A.power_cycle k.cells))
power-sound k h = with-next _ (with-pins _ (reset-sound k h) R.no_tries no-tries) _ (omega arith)

sid-kept : (k : Card) → SoundRecord k → SoundSecrets (set R.no_secrets 0 (R.secret_at k.vault.live 0))
sid-kept k h = Parts.put-secret R.no_secrets 0 _ (h.live.each 0 (omega arith)) Parts.no-secrets

-- ---- each change
by-change : (k : Card) (s : List ℕ) (x : Change) → LegalChange k.cells x → SoundRecord k → SoundRecord (after k s (D.Done x))
unfolding A.apply A.change Y.obey Y.obey_change
by-change k s C.Nothing f h = h
by-change k s (C.PutPin r p n) f h =
    rw (le-leb _ _ f.1)
    (with-live (celled k (R.with_tries k.cells r 0)) (with-tries k h r 0 (omega arith)) _
    (Parts.put-secret k.vault.live r _ (Parts.secret-of (Y.part s p n) (Parts.part_of s p n f.1)) h.live))
by-change k s (C.PutEnabled r on) f h = with-tables k h _ (Parts.put-enabled _ _ h.tables r on f.0) (Parts.re-tabled _ _ _ (λ _ a. a) h.session)
by-change k s (C.PutRange i e) f h = with-tables k h _ (Parts.put-range _ _ h.tables i e f) (Parts.re-tabled _ _ _ (λ _ a. a) h.session)
by-change k s (C.PutMbr e) f h = with-tables k h _ (Parts.put-mbr _ _ h.tables _) (Parts.re-tabled _ _ _ (λ _ a. a) h.session)
by-change k s (C.PutResettable on) f h = with-tables k h _ (Parts.put-resettable _ _ h.tables on) (Parts.re-tabled _ _ _ (λ _ a. a) h.session)
by-change k s C.Activate f h =
    with-live (celled k (R.with_tables k.cells (R.with_active k.cells.tables true)))
    (with-tables k h _ (Parts.put-active _ _ h.tables true) (Parts.re-tabled _ _ _ (λ _ _. refl) h.session)) _
    (Parts.put-secret k.vault.live 1 _ (h.live.each 0 (omega arith)) h.live)
by-change k s C.RevertLocking f h =
    restored k h _ _ k.cells.session _ f.0 (Parts.restored-sound _ k.cells.tables) (locking-tries k h)
    (Parts.re-tabled _ _ _ (λ a _. never f.1 a) h.session) (sid-kept k h)
by-change k s C.RevertAdmin f h =
    restored k h _ _ R.no_session _ f.0 (Parts.restored-sound _ R.factory_tables) no-tries (Parts.no-session _)
    (Parts.put-secret R.no_secrets 0 _ (Parts.msid-secret k.cells.msid h.msid) Parts.no-secrets)
by-change k s C.RevertSp f h =
    restored k h _ _ R.no_session _ f (Parts.restored-sound _ k.cells.tables) (locking-tries k h) (Parts.no-session _) (sid-kept k h)

-- ---- each decision
started : (k : Card) → SoundRecord k → (locking : Bool) (hsn : Hsn) {w : Who} → k.cells.session.live ≡ false
    → (locking ≡ true → k.cells.tables.active ≡ true) → KnownWho locking w
    → SoundRecord (celled k (R.with_next (R.with_session k.cells (A.started_session k.cells locking hsn w)) (A.next_tsn k.cells.next)))
started k h locking hsn none on w =
    with-next _
    (with-session k h _ (Parts.proved-session _ _ refl w (Parts.fresh-session _ locking k.cells.next hsn h.next on)) (λ l. never none (h.transaction l)))
    _ (whichever (λ y. 1 ≤ y) (ltb k.cells.next.0 0xffffffff) _ _ (omega arith) (omega arith))

by-start : (k : Card) → SoundRecord k → (locking : Bool) (hsn : Hsn) {w : Who} → k.cells.session.live ≡ false
    → (locking ≡ true → k.cells.tables.active ≡ true) → KnownWho locking w → SoundRecord (celled k (A.apply k.cells (D.Started locking hsn w)))
unfolding A.apply A.cleared
by-start k h locking hsn none on L.unknown = started k h locking hsn none on L.unknown
by-start k h locking hsn none on L.anybody = started k h locking hsn none on L.anybody
by-start k h locking hsn none on L.class = started k h locking hsn none on L.class
by-start k h locking hsn none on (L.row {r = r} x) = started _ (with-tries k h r 0 (omega arith)) locking hsn none on (L.row x)

proved : (k : Card) → SoundRecord k → {w : Who} → k.cells.session.live ≡ true → KnownWho k.cells.session.locking w
    → SoundRecord (celled k (R.with_session k.cells (A.proved_session k.cells.session w)))
proved k h l w =
    with-session k h _ (Parts.proved-session _ _ l w h.session) (λ u. (l, Parts.proved-session _ _ l w (h.was u).1))

by-proof : (k : Card) → SoundRecord k → {w : Who} → k.cells.session.live ≡ true → KnownWho k.cells.session.locking w
    → SoundRecord (celled k (A.apply k.cells (D.Proved w)))
unfolding A.apply A.cleared
by-proof k h l L.unknown = proved k h l L.unknown
by-proof k h l L.anybody = proved k h l L.anybody
by-proof k h l L.class = proved k h l L.class
by-proof k h l (L.row {r = r} x) = proved _ (with-tries k h r 0 (omega arith)) l (L.row x)

counted : (t : ℕ) → t < R.try_limit → cond (ltb t R.try_limit) (t + 1) t ≤ 5
counted t l = rw (lt-ltb _ _ l) (omega arith)

by-decision : (k : Card) (s : List ℕ) (d : Decision) → Legal k.cells d → SoundRecord k → SoundRecord (after k s d)
unfolding A.apply Y.obey
by-decision k s (D.Refuse e) f h = h
by-decision k s (D.NotStarted e) f h = h
by-decision k s (D.Missed r) f h = with-tries k h r _ (counted _ f.1)
by-decision k s (D.Started locking hsn w) f h = by-start k h locking hsn f.0 f.1 f.2
by-decision k s D.Denied f h = h
by-decision k s (D.Mistaken r) f h = with-tries k h r _ (counted _ f.1)
by-decision k s (D.Proved w) f h = by-proof k h f.0 f.1
by-decision k s (D.Told o first last) f h = h
by-decision k s (D.Done x) f h = by-change k s x f.1 h
by-decision k s D.Began f h = begun k h f.0
by-decision k s D.BeganAlready f h = h
by-decision k s D.Committed f h = settled_at k h _ _ _ h.tables h.session h.live
by-decision k s D.Abandoned f h = settled_at k h _ _ _ (h.was f).0 (h.was f).1 h.kept
by-decision k s D.NoneOpen f h = h
by-decision k s D.Ended f h = shut k h _ (stand k h)
by-decision k s D.Broke f h = shut k h _ (stand k h)

-- ---- each event, and a run of them
by-reply : (k : Card) {x : Heard} → FairHeard k.cells x → SoundRecord k → SoundRecord (Z.reply_to k x).card
unfolding Z.reply_to
by-reply k away h = h
by-reply k (taken {s = s} f) h = by-decision k s _ (fair-decided k.cells k.vault s f) h

pub next-sound : (k : Card) (e : Event) → SoundRecord k → SoundRecord (next k e)
unfolding next
next-sound k (packet room s) h = by-reply k (heard-fair k room s) h
next-sound k powered h = power-ind (λ (r : Z.Reply). SoundRecord r.card) k (λ _. h) (power-sound k h)
next-sound k was_reset h = reset-ind (λ (r : Z.Reply). SoundRecord r.card) k (λ _. h) (reset-sound k h)
next-sound k (asked write start count) h = h

pub run_sound : (k : Card) (es : List Event) → SoundRecord k → SoundRecord (run k es)
unfolding run
run_sound k [] h = h
run_sound k (e ∷ es) h = run_sound (next k e) es (next-sound k e h)

pub factory-sound : (n : ℕ) (msid : List ℕ) → Made n msid → SoundRecord (R.factory_card n msid)
factory-sound n msid m = record {
  size = (omega (arith, m.0), omega (arith, m.1));
  msid = m.2;
  tables = Parts.restored-sound _ R.factory_tables;
  pins = refl;
  tries = no-tries.1;
  next = omega arith;
  session = Parts.no-session R.factory_tables;
  live = Parts.put-secret R.no_secrets 0 _ (Parts.msid-secret msid m.2) Parts.no-secrets;
  kept = Parts.no-secrets;
  transaction = λ e. never refl e;
  was = λ e. never refl e;
  blank = λ _. (refl, refl);
}

pub always-sound : AlwaysSound
always-sound = record {
  factory = λ n msid m. is_true _ (sound-decides _) (factory-sound n msid m);
  step = λ k e h. is_true _ (sound-decides _) (next-sound k e ((sound-decides k).holds h));
  always = λ n msid es m. is_true _ (sound-decides _) (run_sound _ es (factory-sound n msid m));
}

-- ---- the record's size and its MSID stay
abbrev made : Cells → ℕ × List ℕ
made c = (c.n, c.msid)

change-made : (c : Cells) (x : Change) → made (A.change c x) ≡ made c
unfolding A.change
change-made c C.Nothing = refl
change-made c (C.PutPin r p n) = refl
change-made c (C.PutEnabled r on) = refl
change-made c (C.PutRange i e) = refl
change-made c (C.PutMbr e) = refl
change-made c (C.PutResettable on) = refl
change-made c C.Activate = refl
change-made c C.RevertLocking = refl
change-made c C.RevertAdmin = refl
change-made c C.RevertSp = refl

apply-made : (c : Cells) (d : Decision) → made (A.apply c d) ≡ made c
unfolding A.apply
apply-made c (D.Refuse e) = refl
apply-made c (D.NotStarted e) = refl
apply-made c (D.Missed r) = refl
apply-made c (D.Started locking hsn w) = ap made (cleared-tries c w)
apply-made c D.Denied = refl
apply-made c (D.Mistaken r) = refl
apply-made c (D.Proved w) = ap made (cleared-tries c w)
apply-made c (D.Told o first last) = refl
apply-made c (D.Done x) = change-made c x
apply-made c D.Began = refl
apply-made c D.BeganAlready = refl
apply-made c D.Committed = refl
apply-made c D.Abandoned = refl
apply-made c D.NoneOpen = refl
apply-made c D.Ended = refl
apply-made c D.Broke = refl

reply-made : (k : Card) (x : Heard) → made (Z.reply_to k x).card.cells ≡ made k.cells
unfolding Z.reply_to
reply-made k (Z.turned n) = refl
reply-made k (Z.judged tsn hsn s j) = apply-made k.cells (Y.decided k.vault s j)

pub next-made : (k : Card) (e : Event) → made (next k e).cells ≡ made k.cells
unfolding next
next-made k (packet room s) = reply-made k (Z.heard k room s)
next-made k powered = power-ind (λ (r : Z.Reply). made r.card.cells ≡ made k.cells) k (λ _. refl) refl
next-made k was_reset = reset-ind (λ (r : Z.Reply). made r.card.cells ≡ made k.cells) k (λ _. refl) refl
next-made k (asked write start count) = refl

run-made : (k : Card) (es : List Event) → made (run k es).cells ≡ made k.cells
unfolding run
run-made k [] = refl
run-made k (e ∷ es) = run-made (next k e) es ∙ next-made k e

-- ---- ranges
apart-and-shared : (n : ℕ) (t : Tables) → SoundTables n t → ApartAndShared t.rows n
apart-and-shared n t h = record {
  ends = h.fit.ends;
  apart = λ i j s oi li oj lj ne x y.
      ⊎_elim
      (λ le. h.fit.apart j i oi (omega (arith, ne)) lj s y x)
      (λ lt. h.fit.apart i j oj lt li s x y)
      (le-or-lt i j);
  each = share-range t.rows n h.fit;
  shares = shares-total t.rows (omega (arith, h.rows)) n;
}

pub ranges_apart : RangesApart
ranges_apart n msid es m =
    let k = run (R.factory_card n msid) es in
    let h = run_sound _ es (factory-sound n msid m) in
    let size = ap (λ x. x.0) (run-made (R.factory_card n msid) es) in
    let sized : (t : Tables) → SoundTables k.cells.n t → ApartAndShared t.rows n
    = λ t f. apart-and-shared n t (subst (λ (x : ℕ). SoundTables x t) size f) in
    (size, sized _ h.tables, λ o. sized _ (h.was o).0)
