-- More histories: each number, the last TSN, reverts, TPER_RESET, the media in a transaction, hidden columns, and cells judged together.
use Rattle.std.specs.Prelude.{◌+◌, ◌≡◌, true, false, [], ◌∷◌, ◌++◌, replicate}
use Rattle.token.specs.Bytes.{be_of}
use Rattle.packet.specs.Envelope.{packet_of}
use Rattle.ranges.specs.declared.Verdict.TheVariants as M
use Rattle.model.specs.declared.Card.{Card}
use Rattle.model.specs.Record.{with_next}
use Rattle.model.specs.Uids as U
use Rattle.model.specs.Step.{Event, packet, was_reset, asked}
use Rattle.histories.specs.Worked as H
use Rattle.histories.specs.Worked.{card, locking, call, named, uid, start, by, get, set, bare, out, inside, fa, seen, answer, turned, done, ruled, synced, unsynced, status, told, plain, span}

abbrev pub as_sid : Event
as_sid = out (start U.admin_sp (by U.sid (0xd0 ∷ 0x20 ∷ H.msid)))

abbrev pub wrong_sid : Event
wrong_sid = out (start U.admin_sp (by U.sid (0xa0 ∷ [])))

-- the factory's card, but for its next TSN
abbrev pub late : Card
late = record { cells = with_next card.cells (record { 0 = 0xffffffff }); vault = card.vault }

pub record Edges : Type 0 where
  -- "Lowest number first": little room, too many bytes, no envelope, no such session, no call on 0, 0, TPER_RESET disabled
  pub numbers : seen card
      (packet 2047 (replicate 2049 0)
      ∷ packet 2048 (replicate 2049 0)
      ∷ packet 2048 (replicate 2048 0)
      ∷ inside 1 fa
      ∷ out fa
      ∷ was_reset
      ∷ asked false 999999 1
      ∷ asked true 999999 2
      ∷ [])
      ≡ turned 2 ∷ turned 3 ∷ turned 4 ∷ turned 5 ∷ turned 6 ∷ turned 7 ∷ ruled M.Disk ∷ ruled M.Refused ∷ []
  -- "TSNs run 1, 2, ..., FFFFFFFF, then 1"
  pub round : seen late
      (out (start U.admin_sp [])
      ∷ packet 2048 (packet_of 0xffffffff 105 fa)
      ∷ out (start U.admin_sp [])
      ∷ [])
      ≡ answer (packet_of 0 0 (call U.manager_uid U.sync_session (0x81 ∷ 0x69 ∷ 0x84 ∷ 0xff ∷ 0xff ∷ 0xff ∷ 0xff ∷ [])))
      ∷ answer (packet_of 0xffffffff 105 fa)
      ∷ synced 1
      ∷ []
  -- Admin Revert: SID's PIN is the MSID again, the Locking SP is inactive, and the session is closed after the answer
  pub revert : seen card
      (as_sid
      ∷ inside 1 (set U.pin_sid (named 0x03 (0xa1 ∷ 0x07 ∷ [])))
      ∷ inside 1 (bare U.locking_sp U.activate_method)
      ∷ inside 1 (bare U.admin_sp U.revert_method)
      ∷ inside 1 (get U.locking_sp 0x06 0x06)
      ∷ as_sid
      ∷ inside 2 (get U.locking_sp 0x06 0x06)
      ∷ [])
      ≡ synced 1 ∷ status 1 0x00 ∷ status 1 0x00 ∷ status 1 0x00 ∷ turned 5 ∷ synced 2 ∷ told 2 (named 0x06 (0x08 ∷ [])) ∷ []
  -- Locking Revert restores the Locking SP, LifeCycle 8 included, and keeps the session and SID's PIN
  pub revert_locking : seen card
      (as_sid
      ∷ inside 1 (set U.pin_sid (named 0x03 (0xa1 ∷ 0x07 ∷ [])))
      ∷ inside 1 (bare U.locking_sp U.activate_method)
      ∷ inside 1 (bare U.locking_sp U.revert_method)
      ∷ inside 1 (get U.locking_sp 0x06 0x06)
      ∷ inside 1 fa
      ∷ as_sid
      ∷ [])
      ≡ synced 1 ∷ status 1 0x00 ∷ status 1 0x00 ∷ status 1 0x00 ∷ told 1 (named 0x06 (0x08 ∷ [])) ∷ plain 1 fa ∷ unsynced 0x01 ∷ []
  -- RevertSP by an Admin: the same, and the session is closed
  pub revert_sp : seen locking
      (inside 2 (bare U.this_sp U.revert_sp_method)
      ∷ inside 2 fa
      ∷ out (start U.locking_sp [])
      ∷ as_sid
      ∷ [])
      ≡ status 2 0x00 ∷ turned 5 ∷ unsynced 0x0c ∷ synced 3 ∷ []
  -- TPER_RESET enabled in a transaction is still disabled for number 7 until the commit; then it closes the session, and TSNs go on
  pub tper_reset : seen card
      (as_sid
      ∷ inside 1 (0xfb ∷ 0x00 ∷ [])
      ∷ inside 1 (set U.tper_info (named 0x08 (0x01 ∷ [])))
      ∷ was_reset
      ∷ inside 1 (0xfc ∷ 0x00 ∷ [])
      ∷ was_reset
      ∷ inside 1 fa
      ∷ out (start U.admin_sp [])
      ∷ inside 2 (get U.tper_info 0x08 0x08)
      ∷ [])
      ≡ synced 1 ∷ plain 1 (0xfb ∷ 0x00 ∷ []) ∷ status 1 0x00 ∷ turned 7 ∷ plain 1 (0xfc ∷ 0x00 ∷ []) ∷ done ∷ turned 5 ∷ synced 2
      ∷ told 2 (named 0x08 (0x01 ∷ [])) ∷ []
  -- it leaves Tries alone: five wrong PINs still lock SID out
  pub tries : seen card
      (as_sid
      ∷ inside 1 (set U.tper_info (named 0x08 (0x01 ∷ [])))
      ∷ inside 1 fa
      ∷ wrong_sid
      ∷ wrong_sid
      ∷ wrong_sid
      ∷ wrong_sid
      ∷ wrong_sid
      ∷ was_reset
      ∷ as_sid
      ∷ [])
      ≡ synced 1 ∷ status 1 0x00 ∷ plain 1 fa ∷ unsynced 0x01 ∷ unsynced 0x01 ∷ unsynced 0x01 ∷ unsynced 0x01 ∷ unsynced 0x01 ∷ done ∷ unsynced 0x12 ∷ []
  -- the media goes by the cells from before a transaction, until it is committed
  pub media : seen locking
      (inside 2 (0xfb ∷ 0x00 ∷ [])
      ∷ inside 2 (set U.global_range (named 0x05 (0x01 ∷ []) ++ named 0x07 (0x01 ∷ [])))
      ∷ asked false 0 8
      ∷ inside 2 (0xfc ∷ 0x00 ∷ [])
      ∷ asked false 0 8
      ∷ asked true 0 8
      ∷ inside 2 (set U.mbr_control (named 0x01 (0x01 ∷ [])))
      ∷ asked false 262143 1
      ∷ asked false 262143 2
      ∷ [])
      ≡ plain 2 (0xfb ∷ 0x00 ∷ []) ∷ status 2 0x00 ∷ ruled M.Disk ∷ plain 2 (0xfc ∷ 0x00 ∷ []) ∷ ruled M.Refused ∷ ruled M.Disk
      ∷ status 2 0x00 ∷ ruled M.Shadow ∷ ruled M.Refused ∷ []
  -- "Get leaves out columns not allowed and lists the rest ascending": all of a range's for an Admin, its UID alone for anybody
  pub hidden : seen locking
      (inside 2 (get (U.range_base + 1) 0x00 0x13)
      ∷ inside 2 fa
      ∷ out (start U.locking_sp [])
      ∷ inside 3 (get (U.range_base + 1) 0x00 0x13)
      ∷ inside 3 (get (U.range_base + 1) 0x00 0x14)
      ∷ [])
      ≡ told 2
      (named 0x00 (uid 0x0000080200030001) ++ named 0x03 (0x00 ∷ []) ++ named 0x04 (0x00 ∷ []) ++ named 0x05 (0x00 ∷ []) ++ named 0x06 (0x00 ∷ [])
      ++ named 0x07 (0x00 ∷ []) ++ named 0x08 (0x00 ∷ []) ++ named 0x09 (0xf0 ∷ 0x00 ∷ 0xf1 ∷ []))
      ∷ plain 2 fa ∷ synced 3 ∷ told 3 (named 0x00 (uid 0x0000080200030001)) ∷ status 3 0x0c ∷ []
  -- "judged on the row as it would stand": one cell alone, in the order in which they stand, would overlap range 2
  pub together : seen locking
      (inside 2 (span 1 1000 100)
      ∷ inside 2 (span 2 1100 100)
      ∷ inside 2 (set (U.range_base + 1) (named 0x03 (0x82 ∷ be_of 2 1050)))
      ∷ inside 2 (span 1 1050 50)
      ∷ inside 2 (set (U.range_base + 1) (named 0x04 (0x82 ∷ be_of 2 200)))
      ∷ inside 2 (set (U.range_base + 1) (named 0x04 (0x82 ∷ be_of 2 200) ++ named 0x03 (0x82 ∷ be_of 2 900)))
      ∷ inside 2 (get (U.range_base + 1) 0x03 0x04)
      ∷ [])
      ≡ status 2 0x00 ∷ status 2 0x00 ∷ status 2 0x0c ∷ status 2 0x00 ∷ status 2 0x0c ∷ status 2 0x00
      ∷ told 2 (named 0x03 (0x82 ∷ 0x03 ∷ 0x84 ∷ []) ++ named 0x04 (0x81 ∷ 0xc8 ∷ [])) ∷ []
