-- A packet from its bytes to the answer's, the resets and the media question; a step, and a run.
use Rattle.std.specs.Prelude.{ℕ, ◌+◌, Bool, true, false, not, ◌&&◌, cond, List, [], ◌∷◌, ◌++◌, length, take, drop, ltb, eqb, Option, Some, None}
use Rattle.packet.specs.declared.Packet.{Packet}
use Rattle.packet.specs.Envelope.{opened_of, number_of, packet_of}
use Rattle.payload.specs.declared.Payload.{Payload}
use Rattle.payload.specs.declared.Payload.TheVariants as P
use Rattle.payload.specs.Payload.{payload_at}
use Rattle.value.specs.Read.{values_at}
use Rattle.ranges.specs.declared.Verdict.{Verdict}
use Rattle.ranges.specs.Media.{media_of}
use Rattle.model.specs.Types.{Tsn, Hsn, Session, Cells, Card, Decision, Judged, Outcome}
use Rattle.model.specs.declared.Decision.TheVariants as D
use Rattle.model.specs.Record as R
use Rattle.model.specs.Sound.{size_ok, sound}
use Rattle.model.specs.Uids as U
use Rattle.model.specs.declared.Judged.TheVariants.{Settled}
use Rattle.model.specs.Judge.{judge_manager, judge_method}
use Rattle.model.specs.Vault.{decided, obey, given_up}
use Rattle.model.specs.Apply.{settled_tables, apply, power_cycle, tper_reset}
use Rattle.model.specs.Answer.{answer}

-- "An answer never exceeds 2,048 bytes", and neither does a request
abbrev pub max_bytes : ℕ
max_bytes = 2048

-- ---- a packet is turned away by number, or judged: for a session, with the request as far as its payload reaches
pub data Heard : Type 0 where
  turned : ℕ → Heard
  judged : Tsn → Hsn → List ℕ → Judged → Heard

-- on 0, 0: "payload broken, or no call"
unfoldable pub hear_manager : Cells → Tsn → Hsn → List ℕ → Payload → Heard
hear_manager c tsn hsn s (P.Call object method params) = judged tsn hsn s (judge_manager c s object method (values_at s 15 params))
hear_manager c tsn hsn s P.EndSession = turned 6
hear_manager c tsn hsn s P.Begin = turned 6
hear_manager c tsn hsn s P.Commit = turned 6
hear_manager c tsn hsn s P.Abandon = turned 6
hear_manager c tsn hsn s P.Broken = turned 6

-- in the open session
unfoldable pub judge_session : Cells → List ℕ → Payload → Judged
judge_session c s (P.Call object method params) = judge_method c s (U.object_in c.session.locking object) (U.method_of method) (values_at s 15 params)
judge_session c s P.EndSession = Settled D.Ended
judge_session c s P.Begin = Settled (cond c.undo.live D.BeganAlready D.Began)
judge_session c s P.Commit = Settled (cond c.undo.live D.Committed D.NoneOpen)
judge_session c s P.Abandon = Settled (cond c.undo.live D.Abandoned D.NoneOpen)
judge_session c s P.Broken = Settled D.Broke

abbrev pub is_manager : Tsn → Hsn → Bool
is_manager tsn hsn = eqb tsn.0 0 && eqb hsn.0 0

abbrev pub is_session : Session → Tsn → Hsn → Bool
is_session x tsn hsn = x.live && (eqb x.tsn.0 tsn.0 && eqb x.hsn.0 hsn.0)

-- "TSN, HSN neither 0, 0 nor the open session"
unfoldable pub hear_packet : Cells → List ℕ → Option Packet → Heard
hear_packet c s (Some p) =
    cond (is_manager p.tsn p.hsn) (hear_manager c p.tsn p.hsn (take (p.start + p.len) s) (payload_at (take (p.start + p.len) s) p.start))
    (cond (is_session c.session p.tsn p.hsn)
    (judged p.tsn p.hsn (take (p.start + p.len) s) (judge_session c (take (p.start + p.len) s) (payload_at (take (p.start + p.len) s) p.start)))
    (turned 5))
hear_packet c s None = turned (number_of None)

-- "Lowest number first"
unfoldable pub heard : Card → ℕ → List ℕ → Heard
heard k room s =
    cond (not (sound k)) (turned 1)
    (cond (ltb room max_bytes) (turned 2)
    (cond (ltb max_bytes (length s)) (turned 3)
    (hear_packet k.cells s (opened_of s))))

-- ---- what comes back: the number, the record after it, and the answer's bytes
pub record Reply : Type 0 where
  pub number : ℕ
  pub card : Card
  pub bytes : List ℕ

abbrev pub after : Card → List ℕ → Decision → Card
after k s d = record { cells = apply k.cells d; vault = obey k.cells.msid k.cells.undo.live s k.vault d }

-- "a CloseSession call on 0, 0; else an answer carries its request's TSN and HSN"
unfoldable pub broke : Decision → Bool
broke (D.Refuse k) = false
broke (D.NotStarted k) = false
broke (D.Missed r) = false
broke (D.Started locking hsn w) = false
broke D.Denied = false
broke (D.Mistaken r) = false
broke (D.Proved w) = false
broke (D.Told o first last) = false
broke (D.Done x) = false
broke D.Began = false
broke D.BeganAlready = false
broke D.Committed = false
broke D.Abandoned = false
broke D.NoneOpen = false
broke D.Ended = false
broke D.Broke = true

abbrev pub framed : Cells → Tsn → Hsn → Decision → List ℕ
framed c tsn hsn d = cond (broke d) (packet_of 0 0 (answer c d)) (packet_of tsn.0 hsn.0 (answer c d))

unfoldable pub reply_to : Card → Heard → Reply
reply_to k (turned n) = record { number = n; card = k; bytes = [] }
reply_to k (judged tsn hsn s j) = record {
  number = 0;
  card = after k s (decided k.vault s j);
  bytes = framed k.cells tsn hsn (decided k.vault s j);
}

abbrev pub command : Card → ℕ → List ℕ → Reply
command k room s = reply_to k (heard k room s)

-- "0 brings the count of answer bytes; bytes past it are unchanged"
abbrev pub outcome_of : Reply → Outcome
outcome_of r = record { number = r.number; count = length r.bytes; card = r.card }

abbrev pub buffer_of : Reply → List ℕ → List ℕ
buffer_of r old = r.bytes ++ drop (length r.bytes) old

-- ---- the factory: N and the MSID in bounds, or number 1
unfoldable pub made : ℕ → List ℕ → Outcome
made n msid =
    cond (size_ok n && eqb (length msid) R.pin_bytes)
    (record { number = 0; count = 0; card = R.factory_card n msid })
    (record { number = 1; count = 0; card = R.no_card })

-- ---- resets: "On an unsound record resets and media questions answer number 1"
abbrev pub reset_to : Card → Cells → Card
reset_to k c = record { cells = c; vault = given_up k.cells.undo.live k.vault }

unfoldable pub power : Card → Reply
power k = cond (sound k) (record { number = 0; card = reset_to k (power_cycle k.cells); bytes = [] }) (record { number = 1; card = k; bytes = [] })

unfoldable pub reset : Card → Reply
reset k =
    cond (not (sound k)) (record { number = 1; card = k; bytes = [] })
    (cond (not (settled_tables k.cells).resettable) (record { number = 7; card = k; bytes = [] })
    (record { number = 0; card = reset_to k (tper_reset k.cells); bytes = [] }))

-- ---- the media: "With a transaction open, media questions go by the cells from before it"
-- number 1 for an unsound record, which has no verdict, and else 0
unfoldable pub ruling_number : Option Verdict → ℕ
ruling_number None = 1
ruling_number (Some v) = 0

unfoldable pub media : Card → Bool → ℕ → ℕ → Option Verdict
media k write start count =
    cond (sound k)
    (Some (media_of (settled_tables k.cells).rows (settled_tables k.cells).mbr (settled_tables k.cells).active k.cells.n write start count))
    None

-- ---- events are what the outside gives
pub data Event : Type 0 where
  packet : ℕ → List ℕ → Event
  powered : Event
  was_reset : Event
  asked : Bool → ℕ → ℕ → Event

unfoldable pub next : Card → Event → Card
next k (packet room s) = (command k room s).card
next k powered = (power k).card
next k was_reset = (reset k).card
next k (asked write start count) = k

-- the record after a run of events
unfoldable pub run : Card → List Event → Card
run k [] = k
run k (e ∷ es) = run (next k e) es
