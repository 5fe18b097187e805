-- Short histories from a factory record, with every number, byte and ruling that comes back.
use Rattle.std.specs.Prelude.{ℕ, ◌+◌, ◌≡◌, List, [], ◌∷◌, ◌++◌, map, replicate, Some}
use Rattle.token.specs.Bytes.{be_of}
use Rattle.packet.specs.Envelope.{packet_of}
use Rattle.ranges.specs.declared.Verdict.{Verdict}
use Rattle.model.specs.declared.Card.{Card}
use Rattle.model.specs.Record.{factory_card}
use Rattle.model.specs.Uids as U
use Rattle.model.specs.Step.{Event, packet, powered, run}
use Rattle.model.specs.Seen.{Shown, not_shown, shown, trace}

-- a card of 1,000,000 sectors whose MSID is 32 times 4D
abbrev pub msid : List ℕ
msid = replicate 32 0x4d

abbrev pub card : Card
card = factory_card 1000000 msid

-- ---- requests, as a host writes them
abbrev pub uid : ℕ → List ℕ
uid u = 0xa8 ∷ be_of 8 u

abbrev pub status0 : List ℕ
status0 = 0xf9 ∷ 0xf0 ∷ 0x00 ∷ 0x00 ∷ 0x00 ∷ 0xf1 ∷ []

abbrev pub call : ℕ → ℕ → List ℕ → List ℕ
call object method params = 0xf8 ∷ uid object ++ uid method ++ (0xf0 ∷ params) ++ (0xf1 ∷ status0)

abbrev pub named : ℕ → List ℕ → List ℕ
named n value = 0xf2 ∷ n ∷ value ++ (0xf3 ∷ [])

-- HSN 105
abbrev pub start : ℕ → List ℕ → List ℕ
start sp options = call U.manager_uid U.start_session (0x81 ∷ 0x69 ∷ uid sp ++ (0x01 ∷ options))

abbrev pub by : ℕ → List ℕ → List ℕ
by authority challenge = named 0x00 challenge ++ named 0x03 (uid authority)

abbrev pub get : ℕ → ℕ → ℕ → List ℕ
get object first last = call object (U.method_base + U.get_method) ((0xf0 ∷ named 0x03 (first ∷ [])) ++ named 0x04 (last ∷ []) ++ (0xf1 ∷ []))

abbrev pub set : ℕ → List ℕ → List ℕ
set object columns = call object (U.method_base + U.set_method) (named 0x01 ((0xf0 ∷ columns) ++ (0xf1 ∷ [])))

abbrev pub bare : ℕ → ℕ → List ℕ
bare object method = call object (U.method_base + method) []

abbrev pub prove : ℕ → List ℕ → List ℕ
prove authority proof = call U.this_sp (U.method_base + U.authenticate_method) (uid authority ++ named 0x00 proof)

-- outside a session, and in the one with this TSN
abbrev pub out : List ℕ → Event
out payload = packet 2048 (packet_of 0 0 payload)

abbrev pub inside : ℕ → List ℕ → Event
inside tsn payload = packet 2048 (packet_of tsn 105 payload)

abbrev pub fa : List ℕ
fa = 0xfa ∷ []

-- ---- what comes back of an event: the number, the answer's bytes, and the media's ruling where it is asked
abbrev pub Back : Type 0
Back = ℕ × List ℕ × Shown

abbrev pub answer : List ℕ → Back
answer bytes = (0, bytes, not_shown)

-- turned away by number
abbrev pub turned : ℕ → Back
turned n = (n, [], not_shown)

-- a reset that is done
abbrev pub done : Back
done = (0, [], not_shown)

abbrev pub ruled : Verdict → Back
ruled v = (0, [], shown (Some v))

abbrev pub synced : ℕ → Back
synced tsn = answer (packet_of 0 0 (call U.manager_uid U.sync_session (0x81 ∷ 0x69 ∷ tsn ∷ [])))

abbrev pub unsynced : ℕ → Back
unsynced k = answer (packet_of 0 0 (0xf8 ∷ uid U.manager_uid ++ uid U.sync_session ++ (0xf0 ∷ 0xf1 ∷ 0xf9 ∷ 0xf0 ∷ k ∷ 0x00 ∷ 0x00 ∷ 0xf1 ∷ [])))

abbrev pub status : ℕ → ℕ → Back
status tsn k = answer (packet_of tsn 105 (0xf0 ∷ 0xf1 ∷ 0xf9 ∷ 0xf0 ∷ k ∷ 0x00 ∷ 0x00 ∷ 0xf1 ∷ []))

abbrev pub told : ℕ → List ℕ → Back
told tsn columns = answer (packet_of tsn 105 (0xf0 ∷ 0xf0 ∷ columns ++ (0xf1 ∷ 0xf1 ∷ status0)))

abbrev pub result : ℕ → ℕ → Back
result tsn v = answer (packet_of tsn 105 (0xf0 ∷ v ∷ 0xf1 ∷ status0))

abbrev pub plain : ℕ → List ℕ → Back
plain tsn payload = answer (packet_of tsn 105 payload)

-- event by event
abbrev pub seen : Card → List Event → List Back
seen k es = map (λ x. (x.number, x.bytes, x.ruling)) (trace k es)

pub record Worked : Type 0 where
  -- "A StartSession with HSN 105 and no options", its answer with TSN 1 in full, and "End of session, TSN 1, HSN 105, whole"
  pub session : seen card (out (start U.admin_sp []) ∷ inside 1 fa ∷ [])
      ≡ answer (0x00 ∷ 0x00 ∷ 0x00 ∷ 0x00 ∷ 0x10 ∷ 0x00 ∷ 0x00 ∷ 0x00 ∷ 0x00 ∷ 0x00 ∷ 0x00 ∷ 0x00 ∷ 0x00 ∷ 0x00 ∷ 0x00 ∷ 0x00 ∷ 0x00 ∷ 0x00 ∷ 0x00 ∷ 0x44
      ∷ 0x00 ∷ 0x00 ∷ 0x00 ∷ 0x00 ∷ 0x00 ∷ 0x00 ∷ 0x00 ∷ 0x00 ∷ 0x00 ∷ 0x00 ∷ 0x00 ∷ 0x00 ∷ 0x00 ∷ 0x00 ∷ 0x00 ∷ 0x00 ∷ 0x00 ∷ 0x00 ∷ 0x00 ∷ 0x00 ∷ 0x00 ∷ 0x00 ∷ 0x00 ∷ 0x2c
      ∷ 0x00 ∷ 0x00 ∷ 0x00 ∷ 0x00 ∷ 0x00 ∷ 0x00 ∷ 0x00 ∷ 0x00 ∷ 0x00 ∷ 0x00 ∷ 0x00 ∷ 0x1e
      ∷ 0xf8 ∷ 0xa8 ∷ 0x00 ∷ 0x00 ∷ 0x00 ∷ 0x00 ∷ 0x00 ∷ 0x00 ∷ 0x00 ∷ 0xff ∷ 0xa8 ∷ 0x00 ∷ 0x00 ∷ 0x00 ∷ 0x00 ∷ 0x00 ∷ 0x00 ∷ 0xff ∷ 0x03
      ∷ 0xf0 ∷ 0x81 ∷ 0x69 ∷ 0x01 ∷ 0xf1 ∷ 0xf9 ∷ 0xf0 ∷ 0x00 ∷ 0x00 ∷ 0x00 ∷ 0xf1 ∷ 0x00 ∷ 0x00 ∷ [])
      ∷ answer (0x00 ∷ 0x00 ∷ 0x00 ∷ 0x00 ∷ 0x10 ∷ 0x00 ∷ 0x00 ∷ 0x00 ∷ 0x00 ∷ 0x00 ∷ 0x00 ∷ 0x00 ∷ 0x00 ∷ 0x00 ∷ 0x00 ∷ 0x00 ∷ 0x00 ∷ 0x00 ∷ 0x00 ∷ 0x28
      ∷ 0x00 ∷ 0x00 ∷ 0x00 ∷ 0x01 ∷ 0x00 ∷ 0x00 ∷ 0x00 ∷ 0x69 ∷ 0x00 ∷ 0x00 ∷ 0x00 ∷ 0x00 ∷ 0x00 ∷ 0x00 ∷ 0x00 ∷ 0x00 ∷ 0x00 ∷ 0x00 ∷ 0x00 ∷ 0x00 ∷ 0x00 ∷ 0x00 ∷ 0x00 ∷ 0x10
      ∷ 0x00 ∷ 0x00 ∷ 0x00 ∷ 0x00 ∷ 0x00 ∷ 0x00 ∷ 0x00 ∷ 0x00 ∷ 0x00 ∷ 0x00 ∷ 0x00 ∷ 0x01 ∷ 0xfa ∷ 0x00 ∷ 0x00 ∷ 0x00 ∷ [])
      ∷ []
  -- take ownership: the MSID opens as SID, the new PIN opens after it, and the MSID no longer does
  pub ownership : seen card
      (out (start U.admin_sp (by U.sid (0xd0 ∷ 0x20 ∷ msid)))
      ∷ inside 1 (set U.pin_sid (named 0x03 (0xa2 ∷ 0x01 ∷ 0x02 ∷ [])))
      ∷ inside 1 fa
      ∷ out (start U.admin_sp (by U.sid (0xd0 ∷ 0x20 ∷ msid)))
      ∷ out (start U.admin_sp (by U.sid (0xa2 ∷ 0x01 ∷ 0x02 ∷ [])))
      ∷ [])
      ≡ synced 1 ∷ status 1 0x00 ∷ plain 1 fa ∷ unsynced 0x01 ∷ synced 2 ∷ []
  -- five wrong PINs are answered 01, and the right one then 12; a power cycle starts anew
  pub lockout : seen card
      (out (start U.admin_sp (by U.sid (0xa0 ∷ [])))
      ∷ out (start U.admin_sp (by U.sid (0xa0 ∷ [])))
      ∷ out (start U.admin_sp (by U.sid (0xa0 ∷ [])))
      ∷ out (start U.admin_sp (by U.sid (0xa0 ∷ [])))
      ∷ out (start U.admin_sp (by U.sid (0xa0 ∷ [])))
      ∷ out (start U.admin_sp (by U.sid (0xd0 ∷ 0x20 ∷ msid)))
      ∷ powered
      ∷ out (start U.admin_sp (by U.sid (0xd0 ∷ 0x20 ∷ msid)))
      ∷ [])
      ≡ unsynced 0x01 ∷ unsynced 0x01 ∷ unsynced 0x01 ∷ unsynced 0x01 ∷ unsynced 0x01 ∷ unsynced 0x12 ∷ done ∷ synced 1 ∷ []
  -- the MSID can be read by anybody; a hidden column is left out, and one of another table is refused
  pub reading : seen card
      (out (start U.admin_sp [])
      ∷ inside 1 (get U.pin_msid 0x03 0x03)
      ∷ inside 1 (get U.pin_msid 0x01 0x02)
      ∷ inside 1 (get U.pin_msid 0x03 0x08)
      ∷ inside 1 (get U.pin_sid 0x00 0x07)
      ∷ inside 1 (set U.pin_sid (named 0x03 (0xa0 ∷ [])))
      ∷ [])
      ≡ synced 1 ∷ told 1 (named 0x03 (0xd0 ∷ 0x20 ∷ msid)) ∷ told 1 [] ∷ status 1 0x0c ∷ told 1 [] ∷ status 1 0x01 ∷ []
  -- one session at a time, "any other call on 0, 0", a wrong Write, a challenge without an authority, and a payload that is no call
  pub manager : seen card
      (out (start U.admin_sp [])
      ∷ out (start U.admin_sp [])
      ∷ out (bare U.this_sp U.get_method)
      ∷ inside 1 fa
      ∷ out (start U.locking_sp [])
      ∷ out (start U.admin_sp (named 0x00 (0xa0 ∷ [])))
      ∷ out fa
      ∷ [])
      ≡ synced 1 ∷ unsynced 0x07 ∷ answer (packet_of 0 0 (0xf0 ∷ 0xf1 ∷ 0xf9 ∷ 0xf0 ∷ 0x01 ∷ 0x00 ∷ 0x00 ∷ 0xf1 ∷ [])) ∷ plain 1 fa ∷ unsynced 0x0c ∷ unsynced 0x0c ∷ turned 6 ∷ []
  -- a broken payload in the session: CloseSession on 0, 0, and the session is gone
  pub broken : seen card (out (start U.admin_sp []) ∷ inside 1 (0xf0 ∷ []) ∷ inside 1 fa ∷ out (start U.admin_sp []) ∷ [])
      ≡ synced 1 ∷ answer (packet_of 0 0 (call U.manager_uid U.close_session (0x81 ∷ 0x69 ∷ 0x01 ∷ []))) ∷ turned 5 ∷ synced 2 ∷ []
  -- Authenticate: wrong is SUCCESS with 0, right with 1; then SID may activate, and Admin1's PIN is SID's
  pub activation : seen card
      (out (start U.admin_sp [])
      ∷ inside 1 (bare U.locking_sp U.activate_method)
      ∷ inside 1 (prove U.sid (0xa0 ∷ []))
      ∷ inside 1 (prove U.sid (0xd0 ∷ 0x20 ∷ msid))
      ∷ inside 1 (bare U.locking_sp U.activate_method)
      ∷ inside 1 (get U.locking_sp 0x06 0x06)
      ∷ inside 1 fa
      ∷ out (start U.locking_sp (by (U.admin_base + 1) (0xd0 ∷ 0x20 ∷ msid)))
      ∷ [])
      ≡ synced 1 ∷ status 1 0x01 ∷ result 1 0x00 ∷ result 1 0x01 ∷ status 1 0x00 ∷ told 1 (named 0x06 (0x09 ∷ [])) ∷ plain 1 fa ∷ synced 2 ∷ []

-- the card after its Locking SP is activated, with Admin1 in session 2
abbrev pub opened : List Event
opened =
    out (start U.admin_sp (by U.sid (0xd0 ∷ 0x20 ∷ msid)))
    ∷ inside 1 (bare U.locking_sp U.activate_method)
    ∷ inside 1 fa
    ∷ out (start U.locking_sp (by (U.admin_base + 1) (0xd0 ∷ 0x20 ∷ msid)))
    ∷ []

abbrev pub locking : Card
locking = run card opened

-- range k at start for length, both of two bytes
abbrev pub span : ℕ → ℕ → ℕ → List ℕ
span k start len = set (U.range_base + k) (named 0x03 (0x82 ∷ be_of 2 start) ++ named 0x04 (0x82 ∷ be_of 2 len))

pub record WorkedLocking : Type 0 where
  -- range 1 at 1,000 for 100: 1,100 is free, 1,099 is not; overlap is judged on the row as it would stand
  pub ranges : seen locking
      (inside 2 (span 1 1000 100)
      ∷ inside 2 (span 2 1099 1)
      ∷ inside 2 (span 2 1100 1)
      ∷ inside 2 (get (U.range_base + 2) 0x03 0x04)
      ∷ [])
      ≡ status 2 0x00 ∷ status 2 0x0c ∷ status 2 0x00 ∷ told 2 (named 0x03 (0x82 ∷ 0x04 ∷ 0x4c ∷ []) ++ named 0x04 (0x01 ∷ [])) ∷ []
  -- a transaction: what is set shows in the session, and is gone when it is abandoned
  pub transaction : seen locking
      (inside 2 (0xfb ∷ 0x00 ∷ [])
      ∷ inside 2 (0xfb ∷ 0x00 ∷ [])
      ∷ inside 2 (set U.global_range (named 0x05 (0x01 ∷ [])))
      ∷ inside 2 (get U.global_range 0x05 0x05)
      ∷ inside 2 (bare U.this_sp U.revert_sp_method)
      ∷ inside 2 (0xfc ∷ 0x01 ∷ [])
      ∷ inside 2 (get U.global_range 0x05 0x05)
      ∷ inside 2 (0xfc ∷ 0x00 ∷ [])
      ∷ [])
      ≡ plain 2 (0xfb ∷ 0x00 ∷ []) ∷ plain 2 (0xfb ∷ 0x01 ∷ []) ∷ status 2 0x00 ∷ told 2 (named 0x05 (0x01 ∷ [])) ∷ status 2 0x3f
      ∷ plain 2 (0xfc ∷ 0x00 ∷ []) ∷ told 2 (named 0x05 (0x00 ∷ [])) ∷ plain 2 (0xfc ∷ 0x01 ∷ []) ∷ []
  -- the cell dies in a transaction that would have opened the global range: it comes back locked, and nothing is half done
  pub power : seen locking
      (inside 2 (set U.global_range (named 0x05 (0x01 ∷ []) ++ named 0x07 (0x01 ∷ [])))
      ∷ inside 2 (0xfb ∷ 0x00 ∷ [])
      ∷ inside 2 (set U.global_range (named 0x07 (0x00 ∷ [])))
      ∷ powered
      ∷ out (start U.locking_sp (by (U.admin_base + 1) (0xd0 ∷ 0x20 ∷ msid)))
      ∷ inside 1 (get U.global_range 0x05 0x09)
      ∷ [])
      ≡ status 2 0x00 ∷ plain 2 (0xfb ∷ 0x00 ∷ []) ∷ status 2 0x00 ∷ done ∷ synced 1
      ∷ told 1 (named 0x05 (0x01 ∷ []) ++ named 0x06 (0x00 ∷ []) ++ named 0x07 (0x01 ∷ []) ++ named 0x08 (0x01 ∷ []) ++ named 0x09 (0xf0 ∷ 0x00 ∷ 0xf1 ∷ [])) ∷ []
  -- a user is disabled until an Admin enables it, and sets its own PIN alone
  pub users : seen locking
      (inside 2 (prove (U.user_base + 1) (0xa0 ∷ []))
      ∷ inside 2 (set (U.user_base + 1) (named 0x05 (0x01 ∷ [])))
      ∷ inside 2 fa
      ∷ out (start U.locking_sp (by (U.user_base + 1) (0xa0 ∷ [])))
      ∷ inside 3 (set (U.user_pin_base + 2) (named 0x03 (0xa1 ∷ 0x07 ∷ [])))
      ∷ inside 3 (set (U.user_pin_base + 1) (named 0x03 (0xa1 ∷ 0x07 ∷ [])))
      ∷ inside 3 (set (U.range_base + 1) (named 0x07 (0x00 ∷ [])))
      ∷ [])
      ≡ result 2 0x00 ∷ status 2 0x00 ∷ plain 2 fa ∷ synced 3 ∷ status 3 0x01 ∷ status 3 0x00 ∷ status 3 0x01 ∷ []
