-- A payload that is no call has its sign.
use Rattle.std.specs.Prelude.{Some}
use Prim.Native.Nat.{ℕ, ◌+◌}
use mathlib.Core.Path.{◌≡◌, refl}
use mathlib.Core.List.{List}
use mathlib.Core.Logic.{◌≢◌}
use native.Mathlib.Omega.{arith}
use lib.ListN.{take}
use Rattle.packet.specs.Envelope.{opened_of}
use Rattle.payload.specs.declared.Payload.{Payload}
use Rattle.payload.specs.declared.Payload.TheVariants as P
use Rattle.payload.specs.Payload.{payload_at}
use Rattle.model.specs.Types.{Tsn, Hsn, Card}
use Rattle.model.specs.declared.Decision.TheVariants as D
use Rattle.model.specs.Vault.{decided}
use Rattle.model.specs.Step as Z
use Rattle.model.specs.Step.{packet}
use Rattle.model.specs.Seen as E
use Rattle.model.specs.Signs as S
use Rattle.model.specs.Proved.{Control}
use Rattle.model.proofs.Cases.{cond_ind, of_cond}
use Rattle.model.proofs.Heard.{manager-ind, heard-ind}

module _ (k : Card) where
  -- what is heard, where it is answered
  abbrev Signed : Payload → Z.Heard → Type 0
  Signed x h = (Z.reply_to k h).number ≡ 0 → Control k.cells.undo.live x (S.packet_sign k.cells.session.live (S.query_in h) (E.of_heard k h) (E.taken_of k h))

  turned-away : (x : Payload) (n : ℕ) → n ≢ 0 → Signed x (Z.turned n)
  unfolding Z.reply_to
  turned-away x n h e = absurd (h e)

  on-manager : (tsn : Tsn) (hsn : Hsn) (s : List ℕ) (x : Payload) → Signed x (Z.hear_manager k.cells tsn hsn s x)
  on-manager tsn hsn s x = manager-ind (Signed x) (turned-away x) k.cells tsn hsn s x (λ object method params e. rw e (λ _. tt))

  in-session : (tsn : Tsn) (hsn : Hsn) (s : List ℕ) (x : Payload) → Signed x (Z.judged tsn hsn s (Z.judge_session k.cells s x))
  unfolding Z.judge_session decided S.packet_sign S.taken_sign S.decided_sign S.query_in S.query_of E.of_heard E.taken_of
  in-session tsn hsn s (P.Call object method params) = λ _. tt
  in-session tsn hsn s P.EndSession = λ _. refl
  in-session tsn hsn s P.Begin = λ _. of_cond (S.decided_sign s) k.cells.undo.live D.BeganAlready D.Began
  in-session tsn hsn s P.Commit = λ _. of_cond (S.decided_sign s) k.cells.undo.live D.Committed D.NoneOpen
  in-session tsn hsn s P.Abandon = λ _. of_cond (S.decided_sign s) k.cells.undo.live D.Abandoned D.NoneOpen
  in-session tsn hsn s P.Broken = λ _. refl

  on-packet : (s : List ℕ) (tsn : Tsn) (hsn : Hsn) (start count : ℕ)
      → Signed (payload_at (take (start + count) s) start) (Z.hear_packet k.cells s (Some (record { tsn = tsn; hsn = hsn; start = start; len = count })))
  unfolding Z.hear_packet
  on-packet s tsn hsn start count =
      let x = payload_at (take (start + count) s) start in
      cond_ind (Signed x) (Z.is_manager tsn hsn) _ _ (λ _. on-manager tsn hsn _ x) λ _.
      cond_ind (Signed x) (Z.is_session k.cells.session tsn hsn) _ _ (λ _. in-session tsn hsn _ x) (λ _. turned-away x 5 (λ z. omega arith))

  heard-signed : (room : ℕ) (s : List ℕ) (tsn : Tsn) (hsn : Hsn) (start count : ℕ) → opened_of s ≡ Some (record { tsn = tsn; hsn = hsn; start = start; len = count })
      → Signed (payload_at (take (start + count) s) start) (Z.heard k room s)
  heard-signed room s tsn hsn start count e =
      let x = payload_at (take (start + count) s) start in
      heard-ind (Signed x) (turned-away x) k room s (λ _ _ _. rw e (on-packet s tsn hsn start count))

  pub controls : (room : ℕ) (s : List ℕ) (tsn : Tsn) (hsn : Hsn) (start count : ℕ)
      → (Z.command k room s).number ≡ 0 → opened_of s ≡ Some (record { tsn = tsn; hsn = hsn; start = start; len = count })
      → Control k.cells.undo.live (payload_at (take (start + count) s) start) (S.sign k (packet room s))
  unfolding S.sign S.query E.answered E.taken
  controls room s tsn hsn start count n e = heard-signed room s tsn hsn start count e n
