-- The PINs stay in: two sound records alike in all but their PINs are not told apart, as long as each PIN compared is answered alike.
use Prim.Native.Nat.{ℕ}
use mathlib.Core.Path.{◌≡◌, refl, ap, ap₂}
use mathlib.Core.Bool.{true, cond}
use mathlib.Core.List.{List, [], ◌∷◌}
use Rattle.model.specs.Types.{Card, Judged}
use Rattle.model.specs.Sound.{sound}
use Rattle.model.specs.declared.Judged.TheVariants.{Settled, Compare}
use Rattle.model.specs.Vault.{part, matches, decided}
use Rattle.model.specs.Step.{Reply, Heard, turned, judged, heard, reply_to, power, reset, media, Event, packet, powered, was_reset, asked, next}
use Rattle.model.specs.Seen.{of_reply, sees, trace, answered, of_heard, of_judged}
use Rattle.model.specs.Laws.{Secrecy}
use Rattle.model.proofs.Cases.{of_cond}

-- both sound, and alike but for the PINs
record Alike (j k : Card) : Type 0 where
  first : sound j ≡ true
  other : sound k ≡ true
  cells : j.cells ≡ k.cells

-- the packet is heard by its cells alone
heard-alike : (j k : Card) (room : ℕ) (s : List ℕ) → Alike j k → heard j room s ≡ heard k room s
unfolding heard
heard-alike j k room s a = rw (a.first, a.other, a.cells) refl

-- and decided by the answer
decided-alike : (j k : Card) (s : List ℕ) (x : Judged) → of_judged j s x ≡ of_judged k s x → decided j.vault s x ≡ decided k.vault s x
unfolding of_judged decided
decided-alike j k s (Settled d) e = refl
decided-alike j k s (Compare r p n equal differs) e =
    let q : matches j.vault r (part s p n) ≡ matches k.vault r (part s p n) = cc in
    ap (λ b. cond b equal differs) q

reply-alike : (j k : Card) (h : Heard) → j.cells ≡ k.cells → of_heard j h ≡ of_heard k h → of_reply (reply_to j h) ≡ of_reply (reply_to k h)
unfolding of_heard reply_to
reply-alike j k (turned n) c e = cc
reply-alike j k (judged tsn hsn s x) c e = rw (c, decided-alike j k s x e) refl

sees-alike : (j k : Card) (e : Event) → Alike j k → answered j e ≡ answered k e → sees j e ≡ sees k e
unfolding sees answered power reset media
sees-alike j k (packet room s) a e = rw (heard-alike j k room s a) (reply-alike j k (heard k room s) a.cells (rw (heard-alike j k room s a) at e))
sees-alike j k powered a e = rw (a.first, a.other, a.cells) refl
sees-alike j k was_reset a e = simp (a.first, a.other, a.cells, of_cond (λ (r : Reply). r.number), of_cond (λ (r : Reply). r.bytes), of_cond (λ (r : Reply). r.card.cells))
sees-alike j k (asked write start count) a e = rw (a.first, a.other, a.cells) refl

-- what is seen has the cells in it
seen-cells : (k : Card) (e : Event) → (next k e).cells ≡ (sees k e).cells
unfolding next sees
seen-cells k (packet room s) = refl
seen-cells k powered = refl
seen-cells k was_reset = refl
seen-cells k (asked write start count) = refl

module _ (steps : (k : Card) (e : Event) → sound k ≡ true → sound (next k e) ≡ true) where
  pub secrecy : Secrecy
  unfolding trace
  secrecy j k [] f g c h = refl
  secrecy j k (e ∷ es) f g c h =
      let s = sees-alike j k e (record { first = f; other = g; cells = c }) h.0 in
      let d : (next j e).cells ≡ (next k e).cells = cc (seen-cells j e, seen-cells k e) in
      ap₂ ◌∷◌ s (secrecy (next j e) (next k e) es (steps j e f) (steps k e g) d h.1)
