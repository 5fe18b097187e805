-- What an event leaves, with its sign: the ways in which that comes about. Laws over signs go by these.
use Prim.Native.Nat.{ℕ}
use mathlib.Core.Path.{◌≡◌}
use mathlib.Core.Bool.{Bool, true, false, not, cond}
use mathlib.Core.List.{List}
use lib.Dec.{eqb}
use Rattle.model.specs.Types.{Hsn, Card, Decision, Judged}
use Rattle.model.specs.declared.Who.TheVariants as W
use Rattle.model.specs.declared.Decision.TheVariants as D
use Rattle.model.specs.Sound.{sound}
use Rattle.model.specs.Vault.{decided}
use Rattle.model.specs.Apply.{settled_tables, tper_reset, power_cycle}
use Rattle.model.specs.Step as Z
use Rattle.model.specs.Step.{Event, packet, powered, was_reset, asked, after, reset_to, next}
use Rattle.model.specs.Seen as E
use Rattle.model.specs.Laws.{SoundRecord}
use Rattle.model.specs.Signs as S
use Rattle.model.proofs.Cases.{cond_ind}
use Rattle.model.proofs.Legal.{Legal, FairHeard, fair-decided}
use Rattle.model.proofs.Legal as L
use Rattle.model.proofs.Walked.{heard-fair}
use Rattle.model.proofs.Soundness.{sound-decides}
use Rattle.model.proofs.Asked as Q
use Rattle.model.proofs.Asked.{Plain, Ready, Asks, AsksHeard}
use Rattle.model.proofs.Given.{heard-asks}

-- P says of the record after the event, and of the sign, what is to be shown
pub record Cases (k : Card) (P : Card → S.Sign → Type 0) : Type 0 where
  pub idle : P k S.idles
  pub decided : (s : List ℕ) (d : Decision) → Plain d → Legal k.cells d → P (after k s d) (S.decided_sign s d)
  -- a PIN that differs, in a StartSession and in an Authenticate
  pub missed : (s : List ℕ) (q : ℕ) → Ready k.cells q → P (after k s (D.Missed q)) (S.misses q)
  pub mistaken : (s : List ℕ) (q : ℕ) → Ready k.cells q → P (after k s (D.Mistaken q)) (S.misses q)
  -- and one that is right
  pub entered : (s : List ℕ) (q : ℕ) (locking : Bool) (hsn : Hsn) → Ready k.cells q → P (after k s (D.Started locking hsn (W.Row q))) (S.enters q)
  pub granted : (s : List ℕ) (q : ℕ) → Ready k.cells q → P (after k s (D.Proved (W.Row q))) (S.proves q)
  pub powers : P (reset_to k (power_cycle k.cells)) S.powers
  pub resets : P (reset_to k (tper_reset k.cells)) S.ends

module _ (k : Card) (h : SoundRecord k) (P : Card → S.Sign → Type 0) where
  on-start : Cases k P → (s : List ℕ) (live b : Bool) (q : ℕ) (locking : Bool) (hsn : Hsn) → live ≡ false → Ready k.cells q
      → P (after k s (cond b (D.Started locking hsn (W.Row q)) (D.Missed q))) (S.compared live q (E.said b))
  unfolding S.compared
  on-start c s live true q locking hsn none ready = rw none (c.entered s q locking hsn ready)
  on-start c s live false q locking hsn none ready = c.missed s q ready

  on-proof : Cases k P → (s : List ℕ) (live b : Bool) (q : ℕ) → live ≡ true → Ready k.cells q
      → P (after k s (cond b (D.Proved (W.Row q)) (D.Mistaken q))) (S.compared live q (E.said b))
  unfolding S.compared
  on-proof c s live true q on ready = rw on (c.granted s q ready)
  on-proof c s live false q on ready = c.mistaken s q ready

  on-judged : Cases k P → (s : List ℕ) {F : ℕ → ℕ → ℕ → Type 0} {H : Decision → Type 0} {j : Judged} → Asks k.cells F H j
      → Legal k.cells (decided k.vault s j)
      → P (after k s (decided k.vault s j))
      (S.packet_sign k.cells.session.live (S.query_of s j) (E.of_judged k s j) (E.took s (decided k.vault s j)))
  unfolding decided S.packet_sign S.taken_sign S.query_of E.of_judged
  on-judged c s (Q.plain {d = d} p _) f = c.decided s d p f
  on-judged c s (Q.starts {r = q} {locking = locking} {hsn = hsn} none ready _ _ _) f = on-start c s k.cells.session.live _ q locking hsn none ready
  on-judged c s (Q.proves {r = q} live ready _ _ _) f = on-proof c s k.cells.session.live _ q live ready

  on-heard : Cases k P → {G : ℕ → List ℕ → Type 0} {H : List ℕ → Decision → Type 0} {x : Z.Heard} → AsksHeard k.cells G H x → FairHeard k.cells x
      → P (Z.reply_to k x).card (S.packet_sign k.cells.session.live (S.query_in x) (E.of_heard k x) (E.taken_of k x))
  unfolding Z.reply_to S.packet_sign S.taken_sign S.query_in E.of_heard E.taken_of
  on-heard c Q.away f = c.idle
  on-heard c (Q.taken {s = s} a) (L.taken f) = on-judged c s a (fair-decided k.cells k.vault s f)

  -- a reset that is answered ends the session, and one that is turned away does nothing
  abbrev AsReset : Z.Reply → Type 0
  AsReset x = P x.card (cond (eqb x.number 0) S.ends S.idles)

  pub by_sign : (e : Event) → Cases k P → P (next k e) (S.sign k e)
  unfolding next Z.power Z.reset S.sign S.query E.answered E.taken
  by_sign (packet room s) c = on-heard c (heard-asks k room s) (heard-fair k room s)
  by_sign powered c = cond_ind (λ (x : Z.Reply). P x.card S.powers) (sound k) _ _ (λ _. c.powers) (λ e. absurd ((sound-decides k).fails e h))
  by_sign was_reset c =
      cond_ind AsReset (not (sound k)) _ _ (λ _. c.idle) λ _.
      cond_ind AsReset (not (settled_tables k.cells).resettable) _ _ (λ _. c.idle) (λ _. c.resets)
  by_sign (asked write start count) c = c.idle
