-- What holds of each line that is read, and of the bytes that its digits say.
use Prim.Native.Nat.{ℕ, ◌+◌, ◌*◌, ◌≤◌}
use mathlib.Core.Path.{◌≡◌, refl, ◌∙◌, ap}
use mathlib.Core.Bool.{Bool, true, false, ◌&&◌, ◌||◌, cond}
use mathlib.Core.List.{List, [], ◌∷◌, append-nil}
use mathlib.Core.Logic.{◌≢◌}
use native.Mathlib.Omega.{arith}
use native.Mathlib.Nat.{zero-add}
use lib.ListN.{length, take, drop, get_or, length-take, length-drop}
use lib.Seq.{take_at, drop-length}
use lib.Dec.{leb, eqb}
use borrow.Author.Tests.{leb-true, eq-eqb, ne_eqb}
use Rattle.token.specs.Bytes.{over}
use Rattle.token.specs.Write.{put_all}
use Rattle.token.proofs.Writes.{cond-all, all-length}
use Rattle.line.specs.declared.Line.{Line}
use Rattle.line.specs.declared.Line.TheVariants as L
use Rattle.std.specs.Prelude.{Option, Some, None, Result, Ok, Err, IfOk, ok_or}
use Rattle.line.specs.declared.Why.{Why}
use Rattle.line.specs.declared.Why.TheVariants as Y
use Rattle.line.specs.declared.Verb.{Verb}
use Rattle.line.specs.declared.Verb.TheVariants as B
use Rattle.line.specs.Words.{word_at, part}
use Rattle.line.specs.Number.{decimal_of}
use Rattle.line.specs.Hex.{bytes_of}
use Rattle.line.specs.Write.{bytes_at, put_end}
use Rattle.line.specs.Line.{on_ok, number_at, hex_at, last, said, verb_of, line_in, line_of}
use Rattle.model.specs.declared.Outcome.{Outcome}
use Rattle.model.specs.Sound.{sound}
use Rattle.model.specs.Step.{made}
use Rattle.image.specs.Read.{image_ok, card_at}
use Rattle.image.proofs.Arrays.{both}
use Rattle.image.proofs.Taken.{taken}
use Rattle.flamepocket.specs.Library.{returned, stored, made_on, sound_of}
use Rattle.desk.specs.declared.After.{After}
use Rattle.desk.specs.Desk.{Said, new_card, commanded, numbered, loaded, Roomy, Texted, Turned}
use Rattle.desk.proofs.Written.{put-there, turns}

-- ---- a request's room is at most 65,536
abbrev Roomy_ok : Result Line Why → Type 0
Roomy_ok r = IfOk r Roomy

by_ok : {A : Type 0} (r : Result A Why) (k : A → Result Line Why) → ((x : A) → Roomy_ok (k x)) → Roomy_ok (on_ok r k)
by_ok (Ok x) k h = h x
by_ok (Err w) k h = tt

by_last : (f : Option (ℕ × ℕ)) (l : Line) → Roomy l → Roomy_ok (last f l)
by_last None l h = h
by_last (Some w) l h = tt

by-verb : (s : List ℕ) (at : ℕ) (v : Verb) → Roomy_ok (said s at v)
by-verb s at B.New = by_ok (number_at s at) _ λ x. by_ok (hex_at s x.1) _ λ y. by_last (word_at s y.2) (L.New x.0 y.0 y.1) tt
by-verb s at B.Command =
    by_ok (number_at s at) _ λ x.
    cond-all Roomy_ok (leb x.0 65536) _ _ (λ e. by_ok (hex_at s x.1) _ λ y. by_last (word_at s y.2) (L.Command x.0 y.0 y.1) (leb-true x.0 65536 e)) (λ _. tt)
by-verb s at B.Power = by_last (word_at s at) L.Power tt
by-verb s at B.Reset = by_last (word_at s at) L.Reset tt
by-verb s at B.Read = by_ok (number_at s at) _ λ x. by_ok (number_at s x.1) _ λ y. by_last (word_at s y.1) (L.Media _ x.0 y.0) tt
by-verb s at B.Write = by_ok (number_at s at) _ λ x. by_ok (number_at s x.1) _ λ y. by_last (word_at s y.1) (L.Media _ x.0 y.0) tt
by-verb s at B.Image = by_last (word_at s at) L.Image tt
by-verb s at B.Load = by_ok (hex_at s at) _ λ y. by_last (word_at s y.2) (L.Load y.0 y.1) tt

by_word : (s : List ℕ) (f : Option (ℕ × ℕ)) → Roomy_ok (line_in s f)
unfolding line_in
by_word s None = tt
by_word s (Some (p, e)) = cond-all Roomy_ok (eqb (get_or s p 0) 35) _ _ (λ _. tt) (λ _. by_ok (ok_or (verb_of (part s p e)) Y.Word) _ (λ v. by-verb s e v))

-- of a line that is read
pub roomy : (s : List ℕ) (q : Line) → Ok q ≡ line_of s → Roomy q
roomy s q e = rw (← e) at (by_word s (word_at s 0))

-- ---- bytes are half as many as their digits
halved : (l : List ℕ) → 2 * length (bytes_of l) ≤ length l
unfolding bytes_of
halved [] = omega arith
halved (x ∷ []) = omega arith
halved (x ∷ y ∷ l) = omega (arith, halved l)

pub bytes-short : (l : List ℕ) (at len : ℕ) → 2 * length (bytes_at l at len) ≤ length l
unfolding bytes_at
bytes-short l at len =
    cond-all (λ (b : List ℕ). 2 * length b ≤ length l) (leb (at + len) (length l)) _ _
    (λ e. omega (arith, halved (take len (drop at l)), length-take len (drop at l), length-drop at l)) (λ _. omega arith)

-- ---- what is read into a buffer with room for it
module _ (d bs y : List ℕ) (r : ℕ) (p : r ≡ put_end (length d) 0 bs) (q : y ≡ put_all true d 0 bs) where
  pub record Front : Type 0 where
    pub here : take r y ≡ bs
    pub fits : r ≤ length y
    pub counted : r ≡ length (take r y)

  front : length bs ≤ length d → Front
  unfolding over
  front h =
      let w = put-there d bs y 0 r p q (omega arith) in
      let n : r ≡ length bs = omega (arith, w.0) in
      let t : take r y ≡ bs = rw (w.1, n) (take_at bs _ _ refl) in
      record { here = t; fits = omega (arith, ap length q, all-length true d 0 bs); counted = rw t n }

  -- with room for no more
  pub filled : length bs ≡ length d → y ≡ bs
  unfolding over
  filled e =
      let w = put-there d bs y 0 r p q (omega arith) in
      w.1 ∙ (rw (zero-add, e, drop-length) (append-nil bs))

-- the bytes of a line
pub unhexed : (l d y : List ℕ) (at len r : ℕ) → length l ≤ 32768 → 16384 ≡ length d → (p : r ≡ put_end (length d) 0 (bytes_at l at len))
    → (q : y ≡ put_all true d 0 (bytes_at l at len)) → Front d (bytes_at l at len) y r p q
unhexed l d y at len r h e p q = front d (bytes_at l at len) y r p q (omega (arith, bytes-short l at len))

-- ---- what is done with them
pub resaid : {x w : Said} {d i y : List ℕ} {r : After} → Turned x d r i y → x ≡ w → Turned w d r i y
resaid t e = rw (← e) t

pub recommand : (s q u : List ℕ) (m n : ℕ) → m ≡ n → q ≡ u → commanded s m q ≡ commanded s n u
recommand s q u m n e f = rw (e, f)

pub remake : (h : Bool) (s q u : List ℕ) (n : ℕ) → q ≡ u → new_card h s (made n q) ≡ new_card h s (made n u)
remake h s q u n f = rw f

pub makes : (h : Bool) (s d i y : List ℕ) (o : Outcome) (r k : ℕ) → r ≡ made_on (length s) o → i ≡ stored s o → Texted d (decimal_of r) k y
    → (there : Bool) → there ≡ h || eqb r 0 → Turned (new_card h s o) d (record { there = there; count = k }) i y
unfolding new_card
makes h s d i y o r k e f t there g = turns (new_card h s o) d i y there k (rw (← e) t) (rw (← e) g) f

-- the bytes of a sound image are as many as an image has
pub sound-length : (b : List ℕ) → sound_of b ≡ 0 → length b ≡ 1188
sound-length b e = (taken b (both (image_ok b) (sound (card_at b)) (zero-both (image_ok b && sound (card_at b)) e)).0).head.length
  where
    zero-both : (t : Bool) → ◌≡◌ {A = ℕ} (cond t 0 1) 0 → t ≡ true
    zero-both true z = refl
    zero-both false z = absurd (omega arith)

module _ (h : Bool) (s d y b : List ℕ) (k : ℕ) where
  pub loads : (i : List ℕ) → sound_of b ≡ 0 → i ≡ b → Texted d (48 ∷ []) k y → Turned (loaded h s b) d (record { there = true; count = k }) i y
  unfolding loaded
  loads i e f t = rw (eq-eqb _ _ e) (turns _ d i y true k t refl f)

  pub stays : sound_of b ≢ 0 → Texted d (49 ∷ []) k y → Turned (loaded h s b) d (record { there = h; count = k }) s y
  unfolding loaded
  stays e t = rw (ne_eqb _ _ e) (turns _ d s y h k t refl refl)

pub resets : (s d i y : List ℕ) (o : Outcome) (r k : ℕ) → r ≡ returned o → i ≡ stored s o → Texted d (decimal_of r) k y
    → Turned (numbered s o) d (record { there = true; count = k }) i y
unfolding numbered
resets s d i y o r k e f t = turns (numbered s o) d i y true k (rw (← e) t) refl f
