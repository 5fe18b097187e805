-- The tests that a packet and a reset go through, walked once: what holds of all that is turned away and of all that is not holds of whatever comes back.
use Rattle.std.specs.Prelude.{Option, Some, None}
use Prim.Native.Nat.{ℕ, ◌+◌, ◌≤◌}
use mathlib.Core.Path.{◌≡◌, refl}
use mathlib.Core.Bool.{true, not}
use mathlib.Core.List.{List, []}
use mathlib.Core.Logic.{◌≢◌}
use native.Mathlib.Omega.{arith}
use borrow.Author.Tests.{ltb-false, not-false}
use lib.ListN.{length, take}
use lib.Dec.{ltb}
use Rattle.packet.specs.declared.Packet.{Packet}
use Rattle.packet.specs.Envelope.{opened_of}
use Rattle.payload.specs.declared.Payload.{Payload}
use Rattle.payload.specs.declared.Payload.TheVariants as P
use Rattle.payload.specs.Payload.{payload_at}
use Rattle.value.specs.Read.{values_at}
use Rattle.model.specs.Types.{Tsn, Hsn, Cells, Card}
use Rattle.model.specs.Judge.{judge_manager}
use Rattle.model.specs.Sound.{sound}
use Rattle.model.specs.Step.{Heard, turned, judged, is_manager, is_session, hear_manager, judge_session, hear_packet, heard, Reply, reset_to, power, reset}
use Rattle.model.proofs.Cases.{cond_ind, whichever}
use Rattle.model.specs.Apply.{settled_tables, tper_reset, power_cycle}

module _ (F : Heard → Type 0) (away : (n : ℕ) → n ≢ 0 → F (turned n)) where
  -- on 0, 0 only a call is judged
  pub manager-ind : (c : Cells) (tsn : Tsn) (hsn : Hsn) (s : List ℕ) (x : Payload)
      → ((object method params : ℕ) → x ≡ P.Call object method params → F (judged tsn hsn s (judge_manager c s object method (values_at s 15 params))))
      → F (hear_manager c tsn hsn s x)
  unfolding hear_manager
  manager-ind c tsn hsn s (P.Call object method params) f = f object method params refl
  manager-ind c tsn hsn s P.EndSession f = away 6 (λ z. omega arith)
  manager-ind c tsn hsn s P.Begin f = away 6 (λ z. omega arith)
  manager-ind c tsn hsn s P.Commit f = away 6 (λ z. omega arith)
  manager-ind c tsn hsn s P.Abandon f = away 6 (λ z. omega arith)
  manager-ind c tsn hsn s P.Broken f = away 6 (λ z. omega arith)

  pub packet-ind : (c : Cells) (s : List ℕ) (x : Option Packet)
      → ((p : Packet) → x ≡ Some p → is_manager p.tsn p.hsn ≡ true
      → F (hear_manager c p.tsn p.hsn (take (p.start + p.len) s) (payload_at (take (p.start + p.len) s) p.start)))
      → ((p : Packet) → x ≡ Some p → is_session c.session p.tsn p.hsn ≡ true
      → F (judged p.tsn p.hsn (take (p.start + p.len) s) (judge_session c (take (p.start + p.len) s) (payload_at (take (p.start + p.len) s) p.start))))
      → F (hear_packet c s x)
  unfolding hear_packet
  packet-ind c s (Some p) f g =
      cond_ind F (is_manager p.tsn p.hsn) _ _ (f p refl) λ _.
      cond_ind F (is_session c.session p.tsn p.hsn) _ _ (g p refl) (λ _. away 5 (λ z. omega arith))
  packet-ind c s None f g = away _ (λ z. omega arith)

  pub heard-ind : (k : Card) (room : ℕ) (s : List ℕ)
      → (sound k ≡ true → 2048 ≤ room → length s ≤ 2048 → F (hear_packet k.cells s (opened_of s))) → F (heard k room s)
  unfolding heard
  heard-ind k room s f =
      cond_ind F (not (sound k)) _ _ (λ _. away 1 (λ z. omega arith)) λ e.
      cond_ind F (ltb room 2048) _ _ (λ _. away 2 (λ z. omega arith)) λ w.
      cond_ind F (ltb 2048 (length s)) _ _ (λ _. away 3 (λ z. omega arith)) λ l.
      f (not-false _ e) (ltb-false room 2048 w) (ltb-false 2048 (length s) l)

module _ (F : Reply → Type 0) (k : Card) (away : (n : ℕ) → F (record { number = n; card = k; bytes = [] })) where
  pub power-ind : F (record { number = 0; card = reset_to k (power_cycle k.cells); bytes = [] }) → F (power k)
  unfolding power
  power-ind f = whichever F (sound k) _ _ f (away 1)

  pub reset-ind : F (record { number = 0; card = reset_to k (tper_reset k.cells); bytes = [] }) → F (reset k)
  unfolding reset
  reset-ind f = whichever F (not (sound k)) _ _ (away 1) (whichever F (not (settled_tables k.cells).resettable) _ _ (away 7) f)
