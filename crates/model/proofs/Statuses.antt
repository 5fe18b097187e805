-- The answer to each packet carries the status of the first fault that applies.
use Prim.Native.Nat.{ℕ, ◌+◌, ◌-◌}
use mathlib.Core.Path.{◌≡◌, refl, sym, ◌∙◌, ap, ap₂}
use mathlib.Core.Bool.{Bool, true, false, cond, true≢false}
use mathlib.Core.List.{List, [], ◌∷◌, ◌++◌, append_assoc}
use mathlib.Core.Logic.{inl, inr}
use lib.ListN.{take}
use Rattle.token.specs.Bytes.{be_of}
use Rattle.token.specs.Write.{enc_int, head_of, enc_bytes}
use Rattle.value.specs.Plain.{list}
use Rattle.tape.specs.Write.{enc_atom, enc_value, enc_values}
use Rattle.packet.specs.Envelope.{packet_of}
use Rattle.payload.specs.declared.Payload.{Payload}
use Rattle.payload.specs.declared.Payload.TheVariants as P
use Rattle.value.specs.Read.{values_at}
use Rattle.model.specs.Types.{Hsn, Cells, Card, Object, Who, Status, Change, Decision, Judged}
use Rattle.model.specs.declared.Status.TheVariants as E
use Rattle.model.specs.declared.Decision.TheVariants as D
use Rattle.model.specs.Uids as U
use Rattle.model.specs.Vault.{decided}
use Rattle.model.specs.Answer.{status_number, answer, told}
use Rattle.model.specs.Step.{judged, judge_session, broke, framed, reply_to, heard, command}
use Rattle.model.specs.Wants.{When}
use Rattle.model.specs.Calls.{OnManager, OnObject}
use Rattle.model.specs.Sent.{Comes, InSession}
use Rattle.model.specs.Statuses.{closing, refusal, managed, pair, opening, ways, Replies, StatusesAsSaid}
use Rattle.model.proofs.Figures.{objects-named, authorities-known}
use Rattle.model.proofs.Sent as M
use Rattle.model.proofs.Coming.{every}
use Rattle.model.proofs.Called as Q
use Rattle.model.proofs.Ordered.{decision}
use Rattle.model.proofs.Carried as R

-- ---- the answer to each decision
joined : (a b : ℕ) → (enc_int a ++ (enc_int b ++ (0xf1 ∷ []))) ++ closing 0x00 ≡ enc_int a ++ (enc_int b ++ (0xf1 ∷ closing 0x00))
joined a b = simp append_assoc

module _ (c : Cells) (tsn hsn : ℕ) where
  abbrev pub says : Decision → List ℕ
  says d = framed c (record { 0 = tsn }) (record { 0 = hsn }) d

  refused : (x : Status) → says (D.Refuse x) ≡ packet_of tsn hsn (refusal (status_number x))
  unfolding broke answer status_number enc_value enc_values enc_atom enc_int
  refused E.Success = refl
  refused E.NotAuthorized = refl
  refused E.NoSessions = refl
  refused E.InvalidParameter = refl
  refused E.LockedOut = refl
  refused E.Fail = refl

  not-started : (x : Status) → says (D.NotStarted x) ≡ packet_of tsn hsn (managed 0x03 (refusal (status_number x)))
  unfolding broke answer status_number enc_value enc_values enc_atom enc_int enc_bytes head_of be_of
  not-started E.Success = refl
  not-started E.NotAuthorized = refl
  not-started E.NoSessions = refl
  not-started E.InvalidParameter = refl
  not-started E.LockedOut = refl
  not-started E.Fail = refl

  missed : (r : ℕ) → says (D.Missed r) ≡ packet_of tsn hsn (managed 0x03 (refusal 0x01))
  unfolding broke answer status_number enc_value enc_values enc_atom enc_int enc_bytes head_of be_of
  missed r = refl

  started : (locking : Bool) (h : Hsn) (w : Who) → says (D.Started locking h w) ≡ packet_of tsn hsn (managed 0x03 (pair h.0 c.next.0))
  unfolding broke answer status_number enc_value enc_values enc_atom enc_int enc_bytes head_of be_of
  started locking h w = ap (λ l. packet_of tsn hsn (managed 0x03 (0xf0 ∷ l))) (joined h.0 c.next.0)

  denied : says D.Denied ≡ packet_of tsn hsn (0xf0 ∷ 0x00 ∷ 0xf1 ∷ closing 0x00)
  unfolding broke answer status_number enc_value enc_values enc_atom enc_int
  denied = refl

  mistaken : (r : ℕ) → says (D.Mistaken r) ≡ packet_of tsn hsn (0xf0 ∷ 0x00 ∷ 0xf1 ∷ closing 0x00)
  unfolding broke answer status_number enc_value enc_values enc_atom enc_int
  mistaken r = refl

  proved : (w : Who) → says (D.Proved w) ≡ packet_of tsn hsn (0xf0 ∷ 0x01 ∷ 0xf1 ∷ closing 0x00)
  unfolding broke answer status_number enc_value enc_values enc_atom enc_int
  proved w = refl

  pub tells : (o : Object) (first last : ℕ)
      → says (D.Told o first last) ≡ packet_of tsn hsn (0xf0 ∷ (enc_value (list (told c o (last + 1 - first) first)) ++ (0xf1 ∷ closing 0x00)))
  unfolding broke answer status_number enc_value enc_values enc_atom enc_int
  tells o first last = ap (λ l. packet_of tsn hsn (0xf0 ∷ l)) (append_assoc (enc_value (list (told c o (last + 1 - first) first))) (0xf1 ∷ []) (closing 0x00))

  done : (x : Change) → says (D.Done x) ≡ packet_of tsn hsn (refusal 0x00)
  unfolding broke answer status_number enc_value enc_values enc_atom enc_int
  done x = refl

  broken : says D.Broke ≡ packet_of 0 0 (managed 0x06 (pair c.session.hsn.0 c.session.tsn.0))
  unfolding broke answer status_number enc_value enc_values enc_atom enc_int enc_bytes head_of be_of
  broken = ap (λ l. packet_of 0 0 (managed 0x06 (0xf0 ∷ l))) (joined c.session.hsn.0 c.session.tsn.0)

-- ---- the answer to what is heard
pub answered : (k : Card) (room : ℕ) (s r : List ℕ) (tsn hsn : ℕ) (j : Judged) → heard k room s ≡ judged (record { 0 = tsn }) (record { 0 = hsn }) r j
    → (command k room s).bytes ≡ says k.cells tsn hsn (decided k.vault r j)
unfolding reply_to
answered k room s r tsn hsn j e = ap (λ h. (reply_to k h).bytes) e

opens : (k : Card) (bytes : List ℕ) (d : Decision) → bytes ≡ says k.cells 0 0 d → R.Opens (Q.started k.cells d) (opening k bytes)
unfolding status_number
opens k bytes d b =
    let c = k.cells in
    record {
      plain = λ p. b ∙ ap (says c 0 0) p ∙ refused c 0 0 E.NotAuthorized;
      refused = λ st p. b ∙ ap (says c 0 0) p.1 ∙ not-started c 0 0 p.0 ∙ ap (λ n. packet_of 0 0 (managed 0x03 (refusal n))) p.2;
      wrong = λ w p. b ∙ ap (says c 0 0) p.4 ∙ missed c 0 0 p.0;
      started = λ locking hsn w p. b ∙ ap (says c 0 0) p.1 ∙ started c 0 0 locking hsn w;
    }

leads : (c : Cells) (s : List ℕ) (o : Object) (tsn hsn : ℕ) (bytes : List ℕ) (d : Decision) → bytes ≡ says c tsn hsn d → R.Leads (decision c s o d) (ways bytes tsn hsn)
leads c s o tsn hsn bytes d b =
    let f = says c tsn hsn in
    record {
      refused = λ st p. b ∙ ap f p.1 ∙ refused c tsn hsn p.0 ∙ ap (λ n. packet_of tsn hsn (refusal n)) p.2;
      got = λ first last p. (enc_value (list (told c o (last + 1 - first) first)), b ∙ ap f p.1 ∙ tells c tsn hsn o first last);
      put = λ t p. b ∙ ap f p.1 ∙ done c tsn hsn _;
      denied = λ p. b ∙ ap f p ∙ denied c tsn hsn;
      wrong = λ w p. b ∙ ap f p.4 ∙ mistaken c tsn hsn p.0;
      proved = λ w p. b ∙ ap f p.1 ∙ proved c tsn hsn w;
      activated = λ p. b ∙ ap f p ∙ done c tsn hsn _;
      reverted = λ p. b ∙ ap f p ∙ done c tsn hsn _;
      reverted_sp = λ p. b ∙ ap f p ∙ done c tsn hsn _;
    }

-- ---- FA, FB and FC
module _ (c : Cells) where
  -- the answer to d carries the payload l, on the request's numbers
  abbrev Says : Decision → List ℕ → Type 0
  Says d l = (tsn hsn : ℕ) → says c tsn hsn d ≡ packet_of tsn hsn l

  ended : Says D.Ended (0xfa ∷ [])
  unfolding broke answer
  ended tsn hsn = refl

  choice : (b : Bool) (x y : Decision) (l m : List ℕ) → Says x l → Says y m → When (b ≡ true) (Says (cond b x y) l) (Says (cond b x y) m)
  choice true x y l m p q = inl (refl, p)
  choice false x y l m p q = inr (λ e. true≢false (sym e), q)

-- ---- the law
on-manager : (k : Card) (room : ℕ) (s : List ℕ) (start len object method params : ℕ) → Comes k room s 0 0 start len (P.Call object method params)
    → OnManager (opening k (command k room s).bytes) k (take (start + len) s) object method (values_at (take (start + len) s) 15 params)
on-manager k room s start len object method params h =
    let r = take (start + len) s in
    R.manager (opens k _ _ (answered k room s r 0 0 _ (M.on-manager k room s start len object method params h)))
    (Q.on-manager k r (M.soundly h) object method (values_at r 15 params))

module _ (k : Card) (room : ℕ) (s : List ℕ) (tsn hsn start len : ℕ) where
  -- what a payload of the session is answered
  heard-in : (p : Payload) → Comes k room s tsn hsn start len p → InSession k tsn hsn
      → (command k room s).bytes ≡ says k.cells tsn hsn (decided k.vault (take (start + len) s) (judge_session k.cells (take (start + len) s) p))
  heard-in p h i = answered k room s _ tsn hsn _ (M.in-session k room s tsn hsn start len p h i)

  in-session : (object method params : ℕ) → Comes k room s tsn hsn start len (P.Call object method params) → InSession k tsn hsn
      → OnObject (ways (command k room s).bytes tsn hsn) k (take (start + len) s) (U.object_in k.cells.session.locking object) method
      (values_at (take (start + len) s) 15 params)
  unfolding judge_session
  in-session object method params h i =
      let r = take (start + len) s in
      R.object (leads k.cells r (U.object_in k.cells.session.locking object) tsn hsn _ _ (heard-in (P.Call object method params) h i))
      (Q.on-object k r (M.soundly h) object method (values_at r 15 params))

  breaks : Comes k room s tsn hsn start len P.Broken → InSession k tsn hsn → (command k room s).bytes ≡ packet_of 0 0 (managed 0x06 (pair hsn tsn))
  unfolding judge_session decided
  breaks h i = heard-in P.Broken h i ∙ broken k.cells tsn hsn ∙ ap₂ (λ a b. packet_of 0 0 (managed 0x06 (pair a b))) i.by_hsn i.by_tsn

-- a payload that is decided as d, whatever the request
replies : (k : Card) (room : ℕ) (s : List ℕ) (p : Payload) (d : Decision) (l : List ℕ) → ((r : List ℕ) → decided k.vault r (judge_session k.cells r p) ≡ d)
    → Says k.cells d l → Replies k room s p l
replies k room s p d l e f tsn hsn start len h i = heard-in k room s tsn hsn start len p h i ∙ ap (says k.cells tsn hsn) (e _) ∙ f tsn hsn

module _ (k : Card) (room : ℕ) (s : List ℕ) where
  ends : Replies k room s P.EndSession (0xfa ∷ [])
  unfolding judge_session decided
  ends = replies k room s P.EndSession _ _ (λ r. refl) (ended k.cells)

  begins : When (k.cells.undo.live ≡ true) (Replies k room s P.Begin (0xfb ∷ 0x01 ∷ [])) (Replies k room s P.Begin (0xfb ∷ 0x00 ∷ []))
  unfolding judge_session decided broke answer
  begins = let so = replies k room s P.Begin _ in R.when (so _ (λ r. refl)) (so _ (λ r. refl))
      (choice k.cells k.cells.undo.live D.BeganAlready D.Began _ _ (λ tsn hsn. refl) (λ tsn hsn. refl))

  commits : When (k.cells.undo.live ≡ true) (Replies k room s P.Commit (0xfc ∷ 0x00 ∷ [])) (Replies k room s P.Commit (0xfc ∷ 0x01 ∷ []))
  unfolding judge_session decided broke answer
  commits = let so = replies k room s P.Commit _ in R.when (so _ (λ r. refl)) (so _ (λ r. refl))
      (choice k.cells k.cells.undo.live D.Committed D.NoneOpen _ _ (λ tsn hsn. refl) (λ tsn hsn. refl))

  abandons : When (k.cells.undo.live ≡ true) (Replies k room s P.Abandon (0xfc ∷ 0x00 ∷ [])) (Replies k room s P.Abandon (0xfc ∷ 0x01 ∷ []))
  unfolding judge_session decided broke answer
  abandons = let so = replies k room s P.Abandon _ in R.when (so _ (λ r. refl)) (so _ (λ r. refl))
      (choice k.cells k.cells.undo.live D.Abandoned D.NoneOpen _ _ (λ tsn hsn. refl) (λ tsn hsn. refl))

pub statuses-as-said : StatusesAsSaid
statuses-as-said = record {
  every = every;
  names = objects-named;
  knows = authorities-known;
  manager = on-manager;
  session = λ k room s tsn hsn start len object method params. in-session k room s tsn hsn start len object method params;
  ends = ends;
  begins = begins;
  commits = commits;
  abandons = abandons;
  breaks = breaks;
}
