-- How a packet that comes is heard: as a call on 0, 0, or in the open session; there each control payload is decided by whether a transaction is open.
use Rattle.std.specs.Prelude.{Some}
use Prim.Native.Nat.{ℕ, ◌+◌, ◌≤◌}
use mathlib.Core.Path.{◌≡◌, refl, ap, ◌∙◌}
use mathlib.Core.Bool.{true, false}
use mathlib.Core.List.{List}
use mathlib.Core.Logic.{◌⊎◌, inl, inr}
use native.Mathlib.Omega.{arith}
use borrow.Author.Tests.{le-ltb, eq-eqb, ne_eqb}
use lib.ListN.{length, take}
use Rattle.payload.specs.declared.Payload.{Payload}
use Rattle.payload.specs.declared.Payload.TheVariants as P
use Rattle.value.specs.Read.{values_at}
use Rattle.ranges.specs.Decides.{Decides}
use Rattle.ranges.proofs.Decide.{map, dec-and}
use Rattle.model.specs.Types.{Tsn, Hsn, Card, Decision}
use Rattle.model.specs.declared.Decision.TheVariants as D
use Rattle.model.specs.Judge.{judge_manager}
use Rattle.model.specs.Vault.{decided}
use Rattle.model.specs.Step.{judged, is_manager, is_session, hear_manager, judge_session, hear_packet, heard, Event, packet, powered, was_reset, asked}
use Rattle.model.specs.Seen.{took, taken, taken_of}
use Rattle.model.specs.Sent.{Comes, InSession, Sends}
use Rattle.model.specs.Laws.{SoundRecord, Begins, Commits, Abandons}
use Rattle.model.proofs.Soundness.{sound-decides, dec-eq, dec-on}

-- a TSN and an HSN by their numbers
abbrev tsn_of : ℕ → Tsn
tsn_of x = record { 0 = x }

abbrev hsn_of : ℕ → Hsn
hsn_of x = record { 0 = x }

-- the test for the open session's numbers
pub session-decides : (k : Card) (tsn : Tsn) (hsn : Hsn) → Decides (is_session k.cells.session tsn hsn) (InSession k tsn.0 hsn.0)
session-decides k tsn hsn =
    let x = k.cells.session in
    map (λ p. record { live = p.0; by_tsn = p.1.0; by_hsn = p.1.1 }) (λ p. (p.live, (p.by_tsn, p.by_hsn)))
    (dec-and _ _ (dec-on x.live) (dec-and _ _ (dec-eq x.tsn.0 tsn.0) (dec-eq x.hsn.0 hsn.0)))

-- the record is sound, clause by clause
pub soundly : {k : Card} {room : ℕ} {s : List ℕ} {tsn hsn start len : ℕ} {p : Payload} → Comes k room s tsn hsn start len p → SoundRecord k
soundly {k = k} h = (sound-decides k).holds h.sound

module _ (k : Card) (room : ℕ) (s : List ℕ) (tsn hsn start len : ℕ) (p : Payload) (h : Comes k room s tsn hsn start len p) where
  opened : heard k room s ≡ hear_packet k.cells s (Some (record { tsn = tsn_of tsn; hsn = hsn_of hsn; start = start; len = len }))
  unfolding heard
  opened = simp (h.sound, le-ltb room 2048 h.enough, le-ltb 2048 (length s) h.size, h.says)

  not-manager : 1 ≤ tsn → is_manager (tsn_of tsn) (hsn_of hsn) ≡ false
  not-manager l = rw (ne_eqb tsn 0 (λ e. omega arith)) refl

  pub in-session : InSession k tsn hsn → heard k room s ≡ judged (tsn_of tsn) (hsn_of hsn) (take (start + len) s) (judge_session k.cells (take (start + len) s) p)
  unfolding hear_packet
  in-session i =
      let l : 1 ≤ k.cells.session.tsn.0 = (soundly h).session.tsn i.live in
      opened ∙ simp (
        not-manager (omega (arith, i.by_tsn)),
        i.live,
        eq-eqb _ _ i.by_tsn,
        eq-eqb _ _ i.by_hsn,
        h.payload,
      )

module _ (k : Card) (room : ℕ) (s : List ℕ) (start len object method params : ℕ) (h : Comes k room s 0 0 start len (P.Call object method params)) where
  pub on-manager : heard k room s
      ≡ judged (tsn_of 0) (hsn_of 0) (take (start + len) s)
      (judge_manager k.cells (take (start + len) s) object method (values_at (take (start + len) s) 15 params))
  unfolding hear_packet hear_manager
  on-manager = opened k room s 0 0 start len (P.Call object method params) h ∙ simp h.payload

pub sent-taken : (k : Card) (e : Event) (p : Payload) → Sends k e p → (s : List ℕ) × (taken k e ≡ took s (decided k.vault s (judge_session k.cells s p)))
unfolding taken taken_of
sent-taken k (packet room s) p i = (take (i.start + i.len) s, rw (in-session k room s _ _ _ _ p i.comes i.session) refl)
sent-taken k powered p i = absurd i
sent-taken k was_reset p i = absurd i
sent-taken k (asked write start count) p i = absurd i

-- ---- each control payload
-- an event of which d is decided
abbrev pub Takes : Card → Event → Decision → Type 0
Takes k e d = (s : List ℕ) × (taken k e ≡ took s d)

-- the decisions in which a transaction dies
abbrev pub Dies : Decision → Type 0
Dies d = (d ≡ D.Abandoned) ⊎ ((d ≡ D.Ended) ⊎ (d ≡ D.Broke))

module _ (k : Card) (e : Event) where
  decides : (p : Payload) (d : Decision) → Sends k e p → ((s : List ℕ) → decided k.vault s (judge_session k.cells s p) ≡ d) → Takes k e d
  decides p d i f = let (s, t) = sent-taken k e p i in (s, t ∙ ap (took s) (f s))

  pub begins-taken : Begins k e → Takes k e D.Began
  unfolding decided judge_session
  begins-taken b = decides P.Begin D.Began b.0 (λ s. rw b.1 refl)

  pub commits-taken : Commits k e → Takes k e D.Committed
  unfolding decided judge_session
  commits-taken b = decides P.Commit D.Committed b.0 (λ s. rw b.1 refl)

  pub abandon-taken : Sends k e P.Abandon → k.cells.undo.live ≡ true → Takes k e D.Abandoned
  unfolding decided judge_session
  abandon-taken i h = decides P.Abandon D.Abandoned i (λ s. rw h refl)

  pub abandons-taken : Abandons k e → (d : Decision) × Takes k e d × Dies d
  unfolding decided judge_session
  abandons-taken (inl b) = (D.Abandoned, abandon-taken b.0 b.1, inl refl)
  abandons-taken (inr (inl b)) = (D.Ended, decides P.EndSession D.Ended b (λ s. refl), inr (inl refl))
  abandons-taken (inr (inr b)) = (D.Broke, decides P.Broken D.Broke b (λ s. refl), inr (inr refl))
