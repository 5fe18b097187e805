-- The answer to each packet that is not turned away, byte by byte, with the status of the first fault that applies.
use Rattle.std.specs.Prelude.{ℕ, ◌+◌, ◌≡◌, true, List, [], ◌∷◌, ◌++◌, ◌⊎◌, take}
use Rattle.token.specs.Write.{enc_int}
use Rattle.packet.specs.Envelope.{packet_of}
use Rattle.payload.specs.declared.Payload.{Payload}
use Rattle.payload.specs.declared.Payload.TheVariants as P
use Rattle.value.specs.Read.{values_at}
use Rattle.model.specs.Types.{Card}
use Rattle.model.specs.Uids.{object_in}
use Rattle.model.specs.Literals.{ObjectsNamed, AuthoritiesKnown}
use Rattle.model.specs.Step.{command}
use Rattle.model.specs.Sent.{Comes, InSession}
use Rattle.model.specs.Wants.{When}
use Rattle.model.specs.Calls.{Opening, OnManager, Ways, OnObject}

-- on 0, 0 a call, and else in the open session
abbrev pub Heard : Card → ℕ → List ℕ → Type 0
Heard k room s =
    (tsn : ℕ) × (hsn : ℕ) × (start : ℕ) × (len : ℕ) × (p : Payload) × Comes k room s tsn hsn start len p
    × (((tsn ≡ 0) × (hsn ≡ 0) × ((object : ℕ) × (method : ℕ) × (params : ℕ) × (p ≡ P.Call object method params))) ⊎ InSession k tsn hsn)

-- "result list, F9, F0 status 00 00 F1; a refused method has an empty list"
abbrev pub closing : ℕ → List ℕ
closing st = 0xf9 ∷ 0xf0 ∷ st ∷ 0x00 ∷ 0x00 ∷ 0xf1 ∷ []

-- the empty list, and the status
abbrev pub refusal : ℕ → List ℕ
refusal st = 0xf0 ∷ 0xf1 ∷ closing st

-- a call by the session manager, "seven bytes 00 then FF", of a method that ends FF m
abbrev pub managed : ℕ → List ℕ → List ℕ
managed m l =
    0xf8 ∷ 0xa8 ∷ 0x00 ∷ 0x00 ∷ 0x00 ∷ 0x00 ∷ 0x00 ∷ 0x00 ∷ 0x00 ∷ 0xff ∷ 0xa8 ∷ 0x00 ∷ 0x00 ∷ 0x00 ∷ 0x00 ∷ 0x00 ∷ 0x00 ∷ 0xff ∷ m ∷ l

-- two numbers as a list, and the status 00
abbrev pub pair : ℕ → ℕ → List ℕ
pair a b = 0xf0 ∷ (enc_int a ++ (enc_int b ++ (0xf1 ∷ closing 0x00)))

-- what is answered on 0, 0: "the answer is a SyncSession call with HSN and TSN; refused, its list is empty"
abbrev pub opening : Card → List ℕ → Opening
opening k bytes = record {
  plain = bytes ≡ packet_of 0 0 (refusal 0x01);
  refused = λ st. bytes ≡ packet_of 0 0 (managed 0x03 (refusal st));
  wrong = λ w. bytes ≡ packet_of 0 0 (managed 0x03 (refusal 0x01));
  started = λ locking hsn w. bytes ≡ packet_of 0 0 (managed 0x03 (pair hsn.0 k.cells.next.0));
}

-- and in the session: "class, disabled and wrong answer SUCCESS with 0, right with 1"; what a Get tells is in Effects
abbrev pub ways : List ℕ → ℕ → ℕ → Ways
ways bytes tsn hsn = record {
  refused = λ st. bytes ≡ packet_of tsn hsn (refusal st);
  got = λ first last. (l : List ℕ) × (bytes ≡ packet_of tsn hsn (0xf0 ∷ (l ++ (0xf1 ∷ closing 0x00))));
  put = λ t. bytes ≡ packet_of tsn hsn (refusal 0x00);
  denied = bytes ≡ packet_of tsn hsn (0xf0 ∷ 0x00 ∷ 0xf1 ∷ closing 0x00);
  wrong = λ w. bytes ≡ packet_of tsn hsn (0xf0 ∷ 0x00 ∷ 0xf1 ∷ closing 0x00);
  proved = λ w. bytes ≡ packet_of tsn hsn (0xf0 ∷ 0x01 ∷ 0xf1 ∷ closing 0x00);
  activated = bytes ≡ packet_of tsn hsn (refusal 0x00);
  reverted = bytes ≡ packet_of tsn hsn (refusal 0x00);
  reverted_sp = bytes ≡ packet_of tsn hsn (refusal 0x00);
}

-- the payload p, in the session, is answered by the payload l
abbrev pub Replies : Card → ℕ → List ℕ → Payload → List ℕ → Type 0
Replies k room s p l = (tsn hsn start len : ℕ) → Comes k room s tsn hsn start len p → InSession k tsn hsn → (command k room s).bytes ≡ packet_of tsn hsn l

-- the answers
pub record StatusesAsSaid : Type 0 where
  -- whatever is answered comes in one of the ways that the clauses below speak of
  pub every : (k : Card) (room : ℕ) (s : List ℕ) → (command k room s).number ≡ 0 → Heard k room s
  -- what UIDs name, which the faults go by
  pub names : ObjectsNamed
  pub knows : AuthoritiesKnown
  pub manager : (k : Card) (room : ℕ) (s : List ℕ) (start len object method params : ℕ) → Comes k room s 0 0 start len (P.Call object method params)
      → OnManager (opening k (command k room s).bytes) k (take (start + len) s) object method (values_at (take (start + len) s) 15 params)
  pub session : (k : Card) (room : ℕ) (s : List ℕ) (tsn hsn start len object method params : ℕ)
      → Comes k room s tsn hsn start len (P.Call object method params) → InSession k tsn hsn
      → OnObject (ways (command k room s).bytes tsn hsn) k (take (start + len) s) (object_in k.cells.session.locking object) method
      (values_at (take (start + len) s) 15 params)
  -- "FA is answered FA"
  pub ends : (k : Card) (room : ℕ) (s : List ℕ) → Replies k room s P.EndSession (0xfa ∷ [])
  -- "FB is answered FB 00, or FB 01 if one is open; FC is answered FC 00, or FC 01 if none is open"
  pub begins : (k : Card) (room : ℕ) (s : List ℕ)
      → When (k.cells.undo.live ≡ true) (Replies k room s P.Begin (0xfb ∷ 0x01 ∷ [])) (Replies k room s P.Begin (0xfb ∷ 0x00 ∷ []))
  pub commits : (k : Card) (room : ℕ) (s : List ℕ)
      → When (k.cells.undo.live ≡ true) (Replies k room s P.Commit (0xfc ∷ 0x00 ∷ [])) (Replies k room s P.Commit (0xfc ∷ 0x01 ∷ []))
  pub abandons : (k : Card) (room : ℕ) (s : List ℕ)
      → When (k.cells.undo.live ≡ true) (Replies k room s P.Abandon (0xfc ∷ 0x00 ∷ [])) (Replies k room s P.Abandon (0xfc ∷ 0x01 ∷ []))
  -- "a CloseSession call (HSN, TSN) on 0, 0"
  pub breaks : (k : Card) (room : ℕ) (s : List ℕ) (tsn hsn start len : ℕ) → Comes k room s tsn hsn start len P.Broken → InSession k tsn hsn
      → (command k room s).bytes ≡ packet_of 0 0 (managed 0x06 (pair hsn tsn))
