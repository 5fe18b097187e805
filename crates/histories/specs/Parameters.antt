-- Histories of parameters: parts left out, the largest numbers, sets in either order, what is too much, given twice or out of order, and empty tokens.
use Rattle.std.specs.Prelude.{ℕ, ◌+◌, ◌≡◌, true, false, List, [], ◌∷◌, ◌++◌}
use Rattle.packet.specs.Envelope.{packet_of}
use Rattle.ranges.specs.declared.Verdict.TheVariants as M
use Rattle.model.specs.Uids as U
use Rattle.model.specs.Step.{Event, packet, asked}
use Rattle.histories.specs.Worked.{card, locking, call, named, uid, start, by, get, set, bare, out, inside, fa, seen, Back, answer, turned, ruled, synced, unsynced, status, told, result, plain}

-- a StartSession to the Admin SP for the host whose number has these bytes
abbrev pub start_for : List ℕ → Event
start_for hsn = out (call U.manager_uid U.start_session (hsn ++ uid U.admin_sp ++ (0x01 ∷ [])))

-- a Get whose cell block is this
abbrev pub get_block : ℕ → List ℕ → List ℕ
get_block object block = call object (U.method_base + U.get_method) ((0xf0 ∷ block) ++ (0xf1 ∷ []))

-- LockOnReset of range 1 set to the list of these, and read
abbrev pub lock_on : List ℕ → Event
lock_on elements = inside 2 (set (U.range_base + 1) (named 0x09 ((0xf0 ∷ elements) ++ (0xf1 ∷ []))))

abbrev pub lock_on_reset : Event
lock_on_reset = inside 2 (get (U.range_base + 1) 0x09 0x09)

abbrev pub is_set : List ℕ → Back
is_set elements = told 2 (named 0x09 ((0xf0 ∷ elements) ++ (0xf1 ∷ [])))

pub record Parameters : Type 0 where
  -- "HostSessionID (32 bits)": 256, FFFFFFFF, 105 in eight bytes, and 2^32 and bytes, which are none
  pub hosts : seen card
      (start_for (0x82 ∷ 0x01 ∷ 0x00 ∷ [])
      ∷ packet 2048 (packet_of 1 256 fa)
      ∷ start_for (0x84 ∷ 0xff ∷ 0xff ∷ 0xff ∷ 0xff ∷ [])
      ∷ packet 2048 (packet_of 2 0xffffffff fa)
      ∷ start_for (0x88 ∷ 0x00 ∷ 0x00 ∷ 0x00 ∷ 0x00 ∷ 0x00 ∷ 0x00 ∷ 0x00 ∷ 0x69 ∷ [])
      ∷ inside 3 fa
      ∷ start_for (0x85 ∷ 0x01 ∷ 0x00 ∷ 0x00 ∷ 0x00 ∷ 0x00 ∷ [])
      ∷ start_for (0xa1 ∷ 0x69 ∷ [])
      ∷ [])
      ≡ answer (packet_of 0 0 (call U.manager_uid U.sync_session (0x82 ∷ 0x01 ∷ 0x00 ∷ 0x01 ∷ [])))
      ∷ answer (packet_of 1 256 fa)
      ∷ answer (packet_of 0 0 (call U.manager_uid U.sync_session (0x84 ∷ 0xff ∷ 0xff ∷ 0xff ∷ 0xff ∷ 0x02 ∷ [])))
      ∷ answer (packet_of 2 0xffffffff fa)
      ∷ synced 3 ∷ plain 3 fa ∷ unsynced 0x0c ∷ unsynced 0x0c ∷ []
  -- "an omitted challenge is an empty one", and so is an omitted proof: User1's PIN is empty, SID's is not
  pub omitted : seen locking
      (inside 2 (set (U.user_base + 1) (named 0x05 (0x01 ∷ [])))
      ∷ inside 2 (call U.this_sp (U.method_base + U.authenticate_method) (uid (U.user_base + 1)))
      ∷ inside 2 fa
      ∷ out (start U.locking_sp (named 0x03 (uid (U.user_base + 1))))
      ∷ inside 3 fa
      ∷ out (start U.admin_sp (named 0x03 (uid U.sid)))
      ∷ [])
      ≡ status 2 0x00 ∷ result 2 0x01 ∷ plain 2 fa ∷ synced 3 ∷ plain 3 fa ∷ unsynced 0x01 ∷ []
  -- a cell block: "either left out meaning first or last"; out of order, twice, as a surplus or not at all it is none
  pub blocks : seen locking
      (inside 2 (get_block U.mbr_control [])
      ∷ inside 2 (get_block U.mbr_control (named 0x03 (0x02 ∷ [])))
      ∷ inside 2 (get_block U.mbr_control (named 0x04 (0x01 ∷ [])))
      ∷ inside 2 (get_block U.mbr_control (named 0x04 (0x02 ∷ []) ++ named 0x03 (0x01 ∷ [])))
      ∷ inside 2 (get_block U.mbr_control (named 0x03 (0x01 ∷ []) ++ named 0x03 (0x02 ∷ [])))
      ∷ inside 2 (get_block U.mbr_control (named 0x03 (0x02 ∷ []) ++ named 0x04 (0x01 ∷ [])))
      ∷ inside 2 (bare U.mbr_control U.get_method)
      ∷ inside 2 (call U.mbr_control (U.method_base + U.get_method) (0xf0 ∷ 0xf1 ∷ 0x00 ∷ []))
      ∷ [])
      ≡ told 2 (named 0x00 (uid U.mbr_control) ++ named 0x01 (0x00 ∷ []) ++ named 0x02 (0x00 ∷ []) ++ named 0x03 (0xf0 ∷ 0x00 ∷ 0xf1 ∷ []))
      ∷ told 2 (named 0x02 (0x00 ∷ []) ++ named 0x03 (0xf0 ∷ 0x00 ∷ 0xf1 ∷ []))
      ∷ told 2 (named 0x00 (uid U.mbr_control) ++ named 0x01 (0x00 ∷ []))
      ∷ status 2 0x0c ∷ status 2 0x0c ∷ status 2 0x0c ∷ status 2 0x0c ∷ status 2 0x0c ∷ []
  -- "LockOnReset and DoneOnReset hold {0} or {0, 3}, written ascending": each as it was set, in whichever order, and no other
  pub sets : seen locking
      (lock_on_reset
      ∷ lock_on (0x00 ∷ 0x03 ∷ []) ∷ lock_on_reset
      ∷ lock_on (0x00 ∷ []) ∷ lock_on_reset
      ∷ lock_on (0x03 ∷ 0x00 ∷ []) ∷ lock_on_reset
      ∷ lock_on (0x03 ∷ []) ∷ lock_on [] ∷ lock_on (0x00 ∷ 0x00 ∷ []) ∷ lock_on (0x00 ∷ 0x03 ∷ 0x03 ∷ []) ∷ lock_on_reset
      ∷ [])
      ≡ is_set (0x00 ∷ [])
      ∷ status 2 0x00 ∷ is_set (0x00 ∷ 0x03 ∷ [])
      ∷ status 2 0x00 ∷ is_set (0x00 ∷ [])
      ∷ status 2 0x00 ∷ is_set (0x00 ∷ 0x03 ∷ [])
      ∷ status 2 0x0c ∷ status 2 0x0c ∷ status 2 0x0c ∷ status 2 0x0c ∷ is_set (0x00 ∷ 0x03 ∷ []) ∷ []
  -- a Set: nothing given, an empty list, any order, a column twice, a surplus, another name, a value with no name
  pub columns : seen locking
      (inside 2 (bare U.mbr_control U.set_method)
      ∷ inside 2 (set U.mbr_control [])
      ∷ inside 2 (set U.mbr_control (named 0x02 (0x01 ∷ []) ++ named 0x01 (0x01 ∷ [])))
      ∷ inside 2 (set U.mbr_control (named 0x02 (0x00 ∷ []) ++ named 0x02 (0x01 ∷ [])))
      ∷ inside 2 (call U.mbr_control (U.method_base + U.set_method) (named 0x01 (0xf0 ∷ 0xf1 ∷ []) ++ (0x00 ∷ [])))
      ∷ inside 2 (call U.mbr_control (U.method_base + U.set_method) (named 0x00 (0xf0 ∷ 0xf1 ∷ [])))
      ∷ inside 2 (set U.mbr_control (0x01 ∷ []))
      ∷ inside 2 (get U.mbr_control 0x01 0x02)
      ∷ [])
      ≡ status 2 0x00 ∷ status 2 0x00 ∷ status 2 0x00 ∷ status 2 0x0c ∷ status 2 0x0c ∷ status 2 0x0c ∷ status 2 0x0c
      ∷ told 2 (named 0x01 (0x01 ∷ []) ++ named 0x02 (0x01 ∷ [])) ∷ []
  -- "Activate, Revert and RevertSP take no parameters"; StartSession's and Authenticate's too many, or out of order
  pub surplus : seen locking
      (inside 2 (call U.this_sp (U.method_base + U.revert_sp_method) (0x00 ∷ []))
      ∷ inside 2 (call U.this_sp (U.method_base + U.authenticate_method) (uid (U.admin_base + 1) ++ named 0x00 (0xa0 ∷ []) ++ (0x00 ∷ [])))
      ∷ inside 2 (call U.this_sp (U.method_base + U.authenticate_method) (named 0x00 (0xa0 ∷ []) ++ uid (U.admin_base + 1)))
      ∷ inside 2 fa
      ∷ out (start U.locking_sp (named 0x03 (uid (U.admin_base + 1)) ++ named 0x00 (0xa0 ∷ [])))
      ∷ out (start U.locking_sp (by (U.admin_base + 1) (0xa0 ∷ []) ++ (0x00 ∷ [])))
      ∷ out (start U.locking_sp (named 0x00 (0xa0 ∷ []) ++ named 0x00 (0xa0 ∷ [])))
      ∷ [])
      ≡ status 2 0x0c ∷ status 2 0x0c ∷ status 2 0x0c ∷ plain 2 fa ∷ unsynced 0x0c ∷ unsynced 0x0c ∷ unsynced 0x0c ∷ []
  -- "FF is skipped before and after any token"; a status other than 0 and what follows the end are broken
  pub frames : seen card
      (out (start U.admin_sp [])
      ∷ inside 1 (0xff ∷ 0xfb ∷ 0xff ∷ 0x00 ∷ 0xff ∷ [])
      ∷ inside 1 (0xfc ∷ 0xff ∷ 0x82 ∷ 0x00 ∷ 0x01 ∷ [])
      ∷ inside 1 (0xff ∷ 0xff ∷ 0xfa ∷ 0xff ∷ [])
      ∷ out (start U.admin_sp [])
      ∷ inside 2 (0xfc ∷ 0x02 ∷ [])
      ∷ out (0xf8 ∷ uid U.manager_uid ++ uid U.start_session ++ (0xf0 ∷ 0xf1 ∷ 0xf9 ∷ 0xf0 ∷ 0x00 ∷ 0x00 ∷ 0x01 ∷ 0xf1 ∷ []))
      ∷ out (start U.admin_sp [] ++ (0x00 ∷ []))
      ∷ [])
      ≡ synced 1 ∷ plain 1 (0xfb ∷ 0x00 ∷ []) ∷ plain 1 (0xfc ∷ 0x00 ∷ []) ∷ plain 1 fa
      ∷ synced 2 ∷ answer (packet_of 0 0 (call U.manager_uid U.close_session (0x81 ∷ 0x69 ∷ 0x02 ∷ [])))
      ∷ turned 6 ∷ turned 6 ∷ []
  -- the media: "above N" comes before "Count 0", also at the end and past it
  pub nothing : seen locking
      (asked false 1000000 0 ∷ asked false 1000001 0 ∷ asked true 1000001 0 ∷ asked false 999999 1 ∷ asked false 999999 2 ∷ [])
      ≡ ruled M.Disk ∷ ruled M.Refused ∷ ruled M.Refused ∷ ruled M.Disk ∷ ruled M.Refused ∷ []
