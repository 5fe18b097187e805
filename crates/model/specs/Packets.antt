-- By which packet a session is opened or closed, a PIN compared or changed, a transaction begun or ended: the envelope, the payload and its parameters.
use Rattle.std.specs.Prelude.{ℕ, ◌+◌, ◌≡◌, Bool, true, false, List, ◌⊎◌, take, drop, Some, None, Ok}
use Rattle.payload.specs.declared.Payload.{Payload}
use Rattle.payload.specs.declared.Payload.TheVariants as P
use Rattle.payload.specs.Payload.{payload_at}
use Rattle.value.specs.Read.{values_at}
use Rattle.item.specs.declared.Slot.{Slot}
use Rattle.item.specs.declared.Slot.TheVariants as S
use Rattle.params.specs.Names.{given, uid_of}
use Rattle.params.specs.declared.Columns.{Columns}
use Rattle.params.specs.Columns.{column_at}
use Rattle.params.specs.Params.{no_columns, start_of, proof_of, set_of}
use Rattle.model.specs.Types.{Hsn, Session, Card, Change, Decision}
use Rattle.model.specs.declared.Object.TheVariants as O
use Rattle.model.specs.declared.Who.TheVariants as W
use Rattle.model.specs.declared.Change.TheVariants as C
use Rattle.model.specs.declared.Decision.TheVariants as D
use Rattle.model.specs.Uids.{object_in, who_in}
use Rattle.model.specs.Step.{Event, packet}
use Rattle.model.specs.Sent.{Says}
use Rattle.model.specs.Wants.{bytes_in, Over32}

-- ---- an event that is a packet; F speaks of the request, as far as its payload reaches, and of where the payload starts
pub record Packet (e : Event) (tsn hsn : ℕ) (F : List ℕ → ℕ → Type 0) : Type 0 where
  pub room : ℕ
  pub request : List ℕ
  pub start : ℕ
  pub count : ℕ
  pub event : e ≡ packet room request
  pub envelope : Says request tsn hsn start count
  pub payload : F (take (start + count) request) start

-- on 0, 0 with no session open, and in the open session
abbrev pub OnZeros : Session → Event → (List ℕ → ℕ → Type 0) → Type 0
OnZeros x e F = (x.live ≡ false) × Packet e 0 0 F

abbrev pub OnSession : Session → Event → (List ℕ → ℕ → Type 0) → Type 0
OnSession x e F = (x.live ≡ true) × Packet e x.tsn.0 x.hsn.0 F

-- ---- PINs that are compared
-- a StartSession to an SP, with Write 1; active says whether the Locking SP is
pub record Start (active locking : Bool) (host : Hsn) (challenge authority : Slot) (s : List ℕ) (p : ℕ) : Type 0 where
  pub params : ℕ
  pub sp : ℕ
  pub call : payload_at s p ≡ P.Call 0xff 0xff02 params
  pub asks : given None (start_of s) (values_at s 15 params)
      ≡ Some (record { hsn = host; sp = sp; write = 1; challenge = challenge; authority = authority })
  pub names : ((locking ≡ false) × (sp ≡ 0x0000020500000001)) ⊎ ((locking ≡ true) × (sp ≡ 0x0000020500000002))
  pub on : locking ≡ true → active ≡ true

-- one that names row r's authority and gives b
pub record Challenges (active : Bool) (r : ℕ) (b : List ℕ) (s : List ℕ) (p : ℕ) : Type 0 where
  pub locking : Bool
  pub host : Hsn
  pub challenge : Slot
  pub authority : Slot
  pub start : Start active locking host challenge authority s p
  pub names : who_in locking (uid_of s authority) ≡ W.Row r
  pub short : Over32 challenge → ⊥
  pub bytes : b ≡ bytes_in s challenge

-- an Authenticate of ThisSP that does
pub record Authenticates (locking : Bool) (r : ℕ) (b : List ℕ) (s : List ℕ) (p : ℕ) : Type 0 where
  pub object : ℕ
  pub params : ℕ
  pub authority : ℕ
  pub proof : Slot
  pub call : payload_at s p ≡ P.Call object 0x000000060000001c params
  pub this_sp : object_in locking object ≡ O.ThisSp
  pub asks : given None (proof_of s) (values_at s 15 params) ≡ Some (record { authority = authority; proof = proof })
  pub names : who_in locking authority ≡ W.Row r
  pub short : Over32 proof → ⊥
  pub bytes : b ≡ bytes_in s proof

abbrev pub Compares : Card → Event → ℕ → List ℕ → Type 0
Compares k e r b =
    OnZeros k.cells.session e (Challenges k.cells.tables.active r b)
    ⊎ OnSession k.cells.session e (Authenticates k.cells.session.locking r b)

-- ---- PINs that are changed
-- a Set of column 3 of row r's C_PIN to b
pub record SetsPin (locking : Bool) (r : ℕ) (b : List ℕ) (s : List ℕ) (p : ℕ) : Type 0 where
  pub object : ℕ
  pub params : ℕ
  pub at : ℕ
  pub count : ℕ
  pub call : payload_at s p ≡ P.Call object 0x0000000600000017 params
  pub names : ((object_in locking object ≡ O.PinSid) × (r ≡ 0)) ⊎ (object_in locking object ≡ O.Pin r)
  pub columns : Columns
  pub asks : given no_columns set_of (values_at s 15 params) ≡ Ok columns
  pub column : column_at columns 3 ≡ S.Bytes at count
  pub bytes : b ≡ take count (drop at s)

-- a call of a method; law_access says which object has it
pub record CallsMethod (method : ℕ) (s : List ℕ) (p : ℕ) : Type 0 where
  pub object : ℕ
  pub params : ℕ
  pub call : payload_at s p ≡ P.Call object method params

-- a Revert of an SP
pub record Reverts (locking : Bool) (sp : _) (s : List ℕ) (p : ℕ) : Type 0 where
  pub object : ℕ
  pub params : ℕ
  pub call : payload_at s p ≡ P.Call object 0x0000000600000202 params
  pub names : object_in locking object ≡ sp

-- what a change to the PINs comes from, t being what it was decided on; the other changes are the tables'
abbrev pub Changes : Card → Event → List ℕ → Change → Type 0
Changes k e t C.Nothing = Unit {0}
Changes k e t (C.PutPin r at n) = OnSession k.cells.session e (SetsPin k.cells.session.locking r (take n (drop at t)))
Changes k e t (C.PutEnabled r on) = Unit {0}
Changes k e t (C.PutRange i x) = Unit {0}
Changes k e t (C.PutMbr x) = Unit {0}
Changes k e t (C.PutResettable on) = Unit {0}
Changes k e t C.Activate = OnSession k.cells.session e (CallsMethod 0x0000000600000203)
Changes k e t C.RevertLocking = OnSession k.cells.session e (Reverts k.cells.session.locking O.SpLocking)
Changes k e t C.RevertAdmin = OnSession k.cells.session e (Reverts k.cells.session.locking O.SpAdmin)
Changes k e t C.RevertSp = OnSession k.cells.session e (CallsMethod 0x0000000600000011)

-- ---- sessions and transactions
-- a StartSession to an SP, for a host
pub record Opens (active locking : Bool) (host : Hsn) (s : List ℕ) (p : ℕ) : Type 0 where
  pub challenge : Slot
  pub authority : Slot
  pub start : Start active locking host challenge authority s p

abbrev pub Payloads : Card → Event → Payload → Type 0
Payloads k e x = OnSession k.cells.session e (λ s p. payload_at s p ≡ x)

-- what a decision comes from; of those left out Compares and the statuses say it
abbrev pub ComesFrom : Card → Event → List ℕ → Decision → Type 0
ComesFrom k e t (D.Refuse c) = Unit {0}
ComesFrom k e t (D.NotStarted c) = Unit {0}
ComesFrom k e t (D.Missed r) = Unit {0}
ComesFrom k e t (D.Started locking hsn w) = OnZeros k.cells.session e (Opens k.cells.tables.active locking hsn)
ComesFrom k e t D.Denied = Unit {0}
ComesFrom k e t (D.Mistaken r) = Unit {0}
ComesFrom k e t (D.Proved w) = Unit {0}
ComesFrom k e t (D.Told o first last) = Unit {0}
ComesFrom k e t (D.Done x) = Changes k e t x
ComesFrom k e t D.Began = Payloads k e P.Begin
ComesFrom k e t D.BeganAlready = Payloads k e P.Begin
ComesFrom k e t D.Committed = Payloads k e P.Commit
ComesFrom k e t D.Abandoned = Payloads k e P.Abandon
ComesFrom k e t D.NoneOpen = Payloads k e P.Commit ⊎ Payloads k e P.Abandon
ComesFrom k e t D.Ended = Payloads k e P.EndSession
ComesFrom k e t D.Broke = Payloads k e P.Broken
