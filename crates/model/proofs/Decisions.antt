-- A transaction begins by FB where none is open, and is committed or abandoned where one is, by what came in for the session: the methods walked once.
use Rattle.std.specs.Prelude.{Option, Some, None, Result, Ok, Err}
use Prim.Native.Nat.{ℕ, ◌+◌, ◌≤◌}
use mathlib.Core.Path.{◌≡◌, refl}
use mathlib.Core.Bool.{Bool, true, false}
use mathlib.Core.List.{List}
use lib.ListN.{length, take}
use Rattle.packet.specs.declared.Packet.{Packet}
use Rattle.packet.specs.Envelope.{opened_of}
use Rattle.payload.specs.declared.Payload.{Payload}
use Rattle.payload.specs.declared.Payload.TheVariants as P
use Rattle.payload.specs.Payload.{payload_at}
use Rattle.item.specs.declared.Slot.{Slot}
use Rattle.params.specs.declared.Block.{Block}
use Rattle.params.specs.declared.Start.{Start}
use Rattle.params.specs.declared.Proof.{Proof}
use Rattle.params.specs.declared.Columns.{Columns}
use Rattle.params.specs.declared.Offence.{Offence}
use Rattle.value.specs.Value.{Values}
use Rattle.value.specs.Read.{Out}
use Rattle.model.specs.Types.{Cells, Vault, Card, Object, Who, Change, Decision, Judged}
use Rattle.model.specs.declared.Who.TheVariants as W
use Rattle.model.specs.declared.Decision.TheVariants as D
use Rattle.model.specs.declared.Judged.TheVariants.{Settled, Compare}
use Rattle.model.specs.Judge.{need, Ends, judge_who, judge_start, judge_manager, judge_proof, judge_get, judge_set, judge_bare, judge_method}
use Rattle.model.specs.Vault.{decided, matches, part}
use Rattle.model.specs.Step.{Heard, turned, judged, is_session, judge_session, heard, Event, packet, powered, was_reset, asked}
use Rattle.model.specs.Seen.{took, taken, taken_of}
use Rattle.model.specs.Sound.{sound}
use Rattle.model.specs.Sent.{Sends}
use Rattle.model.proofs.Cases.{cond_ind, whichever}
use Rattle.model.proofs.Sent.{session-decides}
use Rattle.model.proofs.Heard.{manager-ind, packet-ind, heard-ind}

-- what a decision says of the cells that it was made on, and of the payload: Sent says that it came in for the session
abbrev pub Fits : (Payload → Type 0) → Cells → Decision → Type 0
Fits Sent c (D.Refuse k) = Unit {0}
Fits Sent c (D.NotStarted k) = Unit {0}
Fits Sent c (D.Missed r) = Unit {0}
Fits Sent c (D.Started locking hsn w) = Unit {0}
Fits Sent c D.Denied = Unit {0}
Fits Sent c (D.Mistaken r) = Unit {0}
Fits Sent c (D.Proved w) = Unit {0}
Fits Sent c (D.Told o first last) = Unit {0}
Fits Sent c (D.Done x) = Unit {0}
Fits Sent c D.Began = Sent P.Begin × (c.undo.live ≡ false)
Fits Sent c D.BeganAlready = Unit {0}
Fits Sent c D.Committed = Sent P.Commit × (c.undo.live ≡ true)
Fits Sent c D.Abandoned = Sent P.Abandon × (c.undo.live ≡ true)
Fits Sent c D.NoneOpen = Unit {0}
Fits Sent c D.Ended = Sent P.EndSession
Fits Sent c D.Broke = Sent P.Broken

unfoldable FitsAll : (Payload → Type 0) → Cells → Judged → Type 0
FitsAll Sent c (Settled d) = Fits Sent c d
FitsAll Sent c (Compare r p n equal differs) = Fits Sent c equal × Fits Sent c differs

module _ (Sent : Payload → Type 0) (c : Cells) where
  ends : (d : Decision) → Fits Sent c d → FitsAll Sent c (Settled d)
  unfolding FitsAll
  ends d f = f

  needs : (b : Bool) (d : Decision) (j : Judged) → Fits Sent c d → FitsAll Sent c j → FitsAll Sent c (need b d j)
  unfolding need FitsAll
  needs true d j f g = g
  needs false d j f g = f

  who : (e : Ends) (w : Who) (x : Slot) → Fits Sent c e.barred → Fits Sent c e.full → ((r : ℕ) → Fits Sent c (e.wrong r)) → ((v : Who) → Fits Sent c (e.right v))
      → FitsAll Sent c (judge_who c e w x)
  unfolding judge_who FitsAll
  who e W.Unknown x b f g h = b
  who e W.Anybody x b f g h = h W.Anybody
  who e W.Class x b f g h = b
  who e (W.Row r) x b f g h = needs _ _ _ b (needs _ _ _ f (h (W.Row r), g r))

  start : (s : List ℕ) (x : Option Start) → FitsAll Sent c (judge_start c s x)
  unfolding judge_start
  start s None = ends _ tt
  start s (Some t) = search (needs, who) depth 12

  manager : (s : List ℕ) (object method : ℕ) (vs : Out Values) → FitsAll Sent c (judge_manager c s object method vs)
  unfolding judge_manager
  manager s object method vs = search (needs, start) depth 12

  authenticate : (s : List ℕ) (x : Option Proof) → FitsAll Sent c (judge_proof c s x)
  unfolding judge_proof
  authenticate s None = ends _ tt
  authenticate s (Some p) = search (needs, who) depth 12

  get : (o : Object) (x : Option Block) → FitsAll Sent c (judge_get o x)
  unfolding judge_get
  get o None = ends _ tt
  get o (Some b) = search (needs, ends) depth 12

  put : (s : List ℕ) (o : Object) (x : Result Columns Offence) → FitsAll Sent c (judge_set c s o x)
  unfolding judge_set
  put s o (Err e) = ends _ tt
  put s o (Ok t) = search (needs, ends) depth 12

  bare : (o : Object) (m : ℕ) (b : Bool) (x : Change) → FitsAll Sent c (judge_bare c o m b x)
  unfolding judge_bare
  bare o m b x = search (needs, ends) depth 12

  called : (s : List ℕ) (o : Object) (m : ℕ) (vs : Out Values) → FitsAll Sent c (judge_method c s o m vs)
  unfolding judge_method
  called s o m vs = search (needs, whichever (FitsAll Sent c), get, put, authenticate, bare) depth 12

  -- the control payloads go by whether a transaction is open
  session : (s : List ℕ) (p : Payload) → Sent p → FitsAll Sent c (judge_session c s p)
  unfolding judge_session
  session s (P.Call object method params) i = called s _ _ _
  session s P.EndSession i = ends D.Ended i
  session s P.Begin i = ends _ (cond_ind (Fits Sent c) c.undo.live _ _ (λ _. tt) (λ h. (i, h)))
  session s P.Commit i = ends _ (cond_ind (Fits Sent c) c.undo.live _ _ (λ h. (i, h)) (λ _. tt))
  session s P.Abandon i = ends _ (cond_ind (Fits Sent c) c.undo.live _ _ (λ h. (i, h)) (λ _. tt))
  session s P.Broken i = ends D.Broke i

-- so does what is heard, and what is taken of it
unfoldable FitsHeard : (Payload → Type 0) → Cells → Heard → Type 0
FitsHeard Sent c (turned n) = Unit {0}
FitsHeard Sent c (judged tsn hsn s j) = FitsAll Sent c j

module _ (k : Card) (room : ℕ) (s : List ℕ) where
  abbrev Own : Payload → Type 0
  Own = Sends k (packet room s)

  -- the packet's numbers are the session's
  own : sound k ≡ true → 2048 ≤ room → length s ≤ 2048 → (p : Packet) → opened_of s ≡ Some p
      → is_session k.cells.session p.tsn p.hsn ≡ true → Own (payload_at (take (p.start + p.len) s) p.start)
  own ok w f p e t = record {
    tsn = p.tsn.0;
    hsn = p.hsn.0;
    start = p.start;
    len = p.len;
    comes = record { sound = ok; enough = w; size = f; says = e; payload = refl };
    session = (session-decides k p.tsn p.hsn).holds t;
  }

  by-heard : FitsHeard Own k.cells (heard k room s)
  unfolding FitsHeard
  by-heard =
      let F = FitsHeard Own k.cells in
      heard-ind F (λ _ _. tt) k room s λ ok w f.
      packet-ind F (λ _ _. tt) k.cells s _
      (λ p _ _. manager-ind F (λ _ _. tt) k.cells p.tsn p.hsn _ _ (λ object method params _. manager Own k.cells _ object method _))
      (λ p e t. session Own k.cells _ _ (own ok w f p e t))

module _ (Sent : Payload → Type 0) (c : Cells) where
  answers : (v : Vault) (s : List ℕ) (j : Judged) → FitsAll Sent c j → FitsAll Sent c (Settled (decided v s j))
  unfolding decided FitsAll
  answers v s (Settled d) f = f
  answers v s (Compare r p n x y) f = whichever (Fits Sent c) (matches v r (part s p n)) x y f.0 f.1

by-taken : (k : Card) (Sent : Payload → Type 0) (h : Heard) → FitsHeard Sent k.cells h → (s : List ℕ) (d : Decision) → taken_of k h ≡ took s d → Fits Sent k.cells d
unfolding taken_of FitsAll FitsHeard
by-taken k Sent (turned n) f s d e = absurd cc
by-taken k Sent (judged tsn hsn t j) f s d e = let q : decided k.vault t j ≡ d = cc in rw q at (answers Sent k.cells k.vault t j f)

pub decision-fits : (k : Card) (e : Event) (s : List ℕ) (d : Decision) → taken k e ≡ took s d → Fits (Sends k e) k.cells d
unfolding taken
decision-fits k (packet room p) s d e = by-taken k (Sends k (packet room p)) (heard k room p) (by-heard k room p) s d e
decision-fits k powered s d e = absurd cc
decision-fits k was_reset s d e = absurd cc
decision-fits k (asked write start count) s d e = absurd cc
