-- From each kind of line to the whole turn.
use Prim.Native.Nat.{ℕ, ◌≤◌, ◌<◌}
use mathlib.Core.Path.{◌≡◌, refl, sym, ap, ◌∙◌}
use mathlib.Core.Bool.{Bool, true, false}
use mathlib.Core.List.{List, [], ◌++◌, append_assoc}
use mathlib.Core.Logic.{◌≢◌}
use native.Mathlib.Omega.{arith}
use native.Mathlib.Nat.{zero-add}
use Rattle.std.proofs.lemmas.List.{drop-append-le, take-append-drop, length-take-le}
use lib.ListN.{length, take, drop}
use borrow.Author.Tests.{eq-eqb, ne_eqb, lt-ltb, le-ltb, le-leb, lt-leb}
use Rattle.token.specs.Bytes.{over}
use Rattle.std.specs.Prelude.{Ok, Err}
use Rattle.line.specs.declared.Why.{Why}
use Rattle.line.specs.declared.Line.{Line}
use Rattle.line.specs.Line.{line_of}
use Rattle.desk.specs.declared.After.{After}
use Rattle.desk.specs.Texts.{no_card, why_text}
use Rattle.desk.specs.Desk.{Said, still, in_hand, answer_to, heard, long_text, turn_of, turn_in, Texted, Turned}
use Rattle.desk.proofs.Written.{turns}
use Rattle.desk.proofs.Room.{room-enough}

-- a text in the first n bytes of a buffer is one at its front
at-front : (n : ℕ) (d t : List ℕ) → n ≤ length d → length t ≤ n → over (take n d) 0 t ++ drop n d ≡ over d 0 t
unfolding over
at-front n d t h e =
    let f = take n d in
    let k = length t in
    let g : k ≤ length f = omega (arith, length-take-le n d h) in
    rw zero-add (append_assoc t (drop k f) (drop n d) ∙ ap (λ (x : List ℕ). t ++ x) (sym (drop-append-le k f (drop n d) g) ∙ ap (λ (x : List ℕ). drop k x) (take-append-drop n d)))

-- nothing is said and nothing changes
pub passes : (h : Bool) (s d : List ℕ) → Turned (still h s []) d (record { there = h; count = 0 }) s d
unfolding over
passes h s d = record { there = refl; count = refl; image = refl; out = refl }

-- ---- with a card in hand, and with none
module _ (h : Bool) (s : List ℕ) where
  pub in-hand : (x : Said) {d i y : List ℕ} {r : After} → h ≡ true → Turned x d r i y → Turned (in_hand h s x) d r i y
  unfolding in_hand
  in-hand x e t = rw e t

  pub said-in-hand : (t d y : List ℕ) (k : ℕ) (r : After) → h ≡ true → Texted d t k y → r ≡ record { there = true; count = k } → Turned (in_hand h s (still true s t)) d r s y
  unfolding in_hand
  said-in-hand t d y k r e w f = rw (e, f) (turns (still true s t) d s y true k w refl refl)

  pub no-hand : (x : Said) (d y : List ℕ) (r : After) → h ≡ false → (r.there ≡ false) × Texted d no_card r.count y → Turned (in_hand h s x) d r s y
  unfolding in_hand
  no-hand x d y r e w = rw e (record { there = w.0; count = w.1.count; image = refl; out = w.1.out })

  -- ---- a line that is too long, and any other
  pub long-turn : (l d y : List ℕ) (r : After) → 32768 < length l → (r.there ≡ h) × Texted d (long_text l) r.count y → Turned (turn_of h s l) d r s y
  unfolding turn_of
  long-turn l d y r e w = rw (lt-ltb _ _ e) (record { there = w.0; count = w.1.count; image = refl; out = w.1.out })

  pub short-turn : (l : List ℕ) (q : Line) {d i y : List ℕ} {r : After} → length l ≤ 32768 → Ok q ≡ line_of l → Turned (answer_to h s l q) d r i y
      → Turned (turn_of h s l) d r i y
  unfolding turn_of heard
  short-turn l q e f t = rw (le-ltb _ _ e, ← f) t

  pub unread : (l d y : List ℕ) (w : Why) (k : ℕ) → length l ≤ 32768 → Err w ≡ line_of l → Texted d (why_text w) k y → Turned (turn_of h s l) d (record { there = h; count = k }) s y
  unfolding turn_of heard
  unread l d y w k e f t = rw (le-ltb _ _ e, ← f) (turns _ d s y h k t refl refl)

  -- ---- with the room that is needed, and without
  module _ (l d : List ℕ) where
    pub in-room : {f i y : List ℕ} {r : After} → length s ≡ 1188 → 4117 ≤ length d → f ≡ take 4117 d → Turned (turn_of h s l) f r i y
        → Turned (turn_in (length d) h s l) d r i (y ++ drop 4117 d)
    unfolding turn_in
    in-room e g w t =
        rw (eq-eqb _ _ e, le-leb _ _ g) (record {
          there = t.there;
          count = t.count;
          image = t.image;
          out = rw (t.out, w) (at-front 4117 d _ g (room-enough h s l e));
        })

    pub short-room : length s ≡ 1188 → length d < 4117 → Turned (turn_in (length d) h s l) d (record { there = h; count = 0 }) s d
    unfolding turn_in
    short-room e f = rw (eq-eqb _ _ e, lt-leb _ _ f) (passes h s d)

    pub no-image : length s ≢ 1188 → Turned (turn_in (length d) h s l) d (record { there = h; count = 0 }) s d
    unfolding turn_in
    no-image e = rw (ne_eqb _ _ e) (passes h s d)
