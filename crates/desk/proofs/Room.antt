-- No text is longer than 4,117 bytes: the longest is the one to a request, up to 20 digits, a blank and 2,048 bytes in hex.
use Prim.Native.Nat.{ℕ, ◌≤◌}
use mathlib.Core.Path.{◌≡◌}
use mathlib.Core.Bool.{Bool, true, cond}
use mathlib.Core.List.{List, [], ◌∷◌}
use native.Mathlib.Omega.{arith}
use lib.ListN.{length, length-append}
use lib.Dec.{ltb, eqb, lit≤}
use Rattle.std.specs.Prelude.{Result, Ok, Err}
use Rattle.line.specs.declared.Why.{Why}
use Rattle.line.specs.declared.Why.TheVariants as Y
use Rattle.line.specs.declared.Line.{Line}
use Rattle.line.specs.declared.Line.TheVariants as L
use Rattle.line.specs.Number.{decimal_of}
use Rattle.line.specs.Write.{hex_text, bytes_at}
use Rattle.line.specs.Line.{line_of, remark}
use Rattle.image.specs.Read.{image_ok, card_at}
use Rattle.model.specs.Step.{command, outcome_of}
use Rattle.model.proofs.Cases.{cond_ind}
use Rattle.model.proofs.Framed.{answers-short}
use Rattle.flamepocket.specs.Library.{on_image, sound_of}
use Rattle.desk.specs.Texts.{why_text, no_card, too_long, verdict_text}
use Rattle.desk.specs.Desk.{Said, still, in_hand, new_card, commanded, numbered, loaded, answer_to, heard, long_text, turn_of}
use Rattle.desk.proofs.Written.{decimal-short, hex-short}

abbrev Short : List ℕ → Type 0
Short t = length t ≤ 4117

abbrev Brief : Said → Type 0
Brief x = Short x.text

number : (v : ℕ) → Short (decimal_of v)
number v = omega (arith, decimal-short v)

why : (w : Why) → Short (why_text w)
unfolding why_text
why Y.Word = lit≤ tt
why Y.Few = lit≤ tt
why Y.Many = lit≤ tt
why Y.Number = lit≤ tt
why Y.Large = lit≤ tt
why Y.Hex = lit≤ tt
why Y.Odd = lit≤ tt
why Y.Room = lit≤ tt

verdict : (r : ℕ) → Short (verdict_text r)
unfolding verdict_text
verdict r = cond_ind Short (eqb r 0) _ _ (λ _. lit≤ tt) (λ _. cond_ind Short (eqb r 2) _ _ (λ _. lit≤ tt) (λ _. cond_ind Short (eqb r 3) _ _ (λ _. lit≤ tt) (λ _. lit≤ tt)))

long : (l : List ℕ) → Short (long_text l)
unfolding long_text too_long
long l = cond_ind Short (remark l) _ _ (λ _. lit≤ tt) (λ _. lit≤ tt)

request : (s q : List ℕ) (room : ℕ) → Brief (commanded s room q)
unfolding commanded
request s q room =
    let k = card_at s in
    let n = (on_image s (λ c. outcome_of (command c room q))).number in
    let b = cond (image_ok s) (command k room q).bytes [] in
    let e = cond_ind (λ (x : List ℕ). length x ≤ 2048) (image_ok s) (command k room q).bytes [] (λ _. answers-short.short k room q) (λ _. lit≤ tt) in
    omega (arith, length-append (decimal_of n) (32 ∷ hex_text b), decimal-short n, hex-short b 2048 e (lit≤ tt))

module _ (h : Bool) (s : List ℕ) where
  hand : (x : Said) → Brief x → Brief (in_hand h s x)
  unfolding in_hand no_card
  hand x g = cond_ind Brief h x (still h s no_card) (λ _. g) (λ _. lit≤ tt)

  image : (b : List ℕ) → Brief (loaded h s b)
  unfolding loaded
  image b = cond_ind Brief (eqb (sound_of b) 0) _ _ (λ _. lit≤ tt) (λ _. lit≤ tt)

  module _ (l : List ℕ) (e : length s ≡ 1188) where
    answer : (q : Line) → Brief (answer_to h s l q)
    unfolding answer_to new_card numbered
    answer L.Pass = lit≤ tt
    answer (L.New n at len) = number _
    answer (L.Command room at len) = hand _ (request s _ _)
    answer L.Power = hand _ (number _)
    answer L.Reset = hand _ (number _)
    answer (L.Media write start count) = hand (still true s (verdict_text _)) (verdict _)
    answer L.Image = hand (still true s (hex_text s)) (omega (arith, hex-short s 1188 (omega arith) (lit≤ tt)))
    answer (L.Load at len) = image (bytes_at l at len)

    hears : (q : Result Line Why) → Brief (heard h s l q)
    unfolding heard
    hears (Ok q) = answer q
    hears (Err w) = why w

    pub room-enough : length (turn_of h s l).text ≤ 4117
    unfolding turn_of
    room-enough = cond_ind Brief (ltb 32768 (length l)) (still h s (long_text l)) (heard h s l (line_of l)) (λ _. long l) (λ _. hears (line_of l))
