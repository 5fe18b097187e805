-- What the simulator answers to a line, and the card in hand after it. The card is the record's image; each question is the library's.
use Rattle.std.specs.Prelude.{ℕ, ◌≤◌, ◌≡◌, Bool, true, ◌&&◌, ◌||◌, cond, List, [], ◌∷◌, ◌++◌, length, ltb, leb, eqb, Result, Ok, Err}
use Rattle.token.specs.Bytes.{over}
use Rattle.line.specs.declared.Line.{Line}
use Rattle.line.specs.declared.Line.TheVariants as L
use Rattle.line.specs.declared.Why.{Why}
use Rattle.line.specs.Number.{decimal_of}
use Rattle.line.specs.Write.{hex_text, bytes_at}
use Rattle.line.specs.Line.{line_of, remark}
use Rattle.model.specs.declared.Outcome.{Outcome}
use Rattle.model.specs.Step.{made, command, outcome_of, power, reset}
use Rattle.image.specs.Read.{image_ok, card_at}
use Rattle.flamepocket.specs.Library.{on_image, returned, stored, made_on, sound_of, media_on}
use Rattle.desk.specs.declared.After.{After}
use Rattle.desk.specs.Texts.{why_text, no_card, too_long, verdict_text}

-- the text, none for a line that is passed over; whether a card is in hand afterwards, and its image
pub record Said : Type 0 where
  pub text : List ℕ
  pub there : Bool
  pub image : List ℕ

-- a text that changes nothing
abbrev pub still : Bool → List ℕ → List ℕ → Said
still h s t = record { text = t; there = h; image = s }

-- a question to the card in hand
unfoldable pub in_hand : Bool → List ℕ → Said → Said
in_hand h s x = cond h x (still h s no_card)

-- a new card; the one in hand stays where it is refused
unfoldable pub new_card : Bool → List ℕ → Outcome → Said
new_card h s o = record { text = decimal_of (made_on (length s) o); there = h || eqb (made_on (length s) o) 0; image = stored s o }

-- "NUMBER HEX: the number, then the answer"
unfoldable pub commanded : List ℕ → ℕ → List ℕ → Said
commanded s room q = record {
  text = decimal_of (on_image s (λ k. outcome_of (command k room q))).number ++ (32 ∷ hex_text (cond (image_ok s) (command (card_at s) room q).bytes []));
  there = true;
  image = stored s (on_image s (λ k. outcome_of (command k room q)));
}

-- a reset
unfoldable pub numbered : List ℕ → Outcome → Said
numbered s o = record { text = decimal_of (returned o); there = true; image = stored s o }

-- "0, or 1 where the image is unsound (the card in hand stays)"
unfoldable pub loaded : Bool → List ℕ → List ℕ → Said
loaded h s b = cond (eqb (sound_of b) 0) (record { text = 48 ∷ []; there = true; image = b }) (still h s (49 ∷ []))

-- the library's number for a direction
abbrev pub direction : Bool → ℕ
direction write = cond write 1 0

-- by what the line l says
unfoldable pub answer_to : Bool → List ℕ → List ℕ → Line → Said
answer_to h s l L.Pass = still h s []
answer_to h s l (L.New n at len) = new_card h s (made n (bytes_at l at len))
answer_to h s l (L.Command room at len) = in_hand h s (commanded s room (bytes_at l at len))
answer_to h s l L.Power = in_hand h s (numbered s (on_image s (λ k. outcome_of (power k))))
answer_to h s l L.Reset = in_hand h s (numbered s (on_image s (λ k. outcome_of (reset k))))
answer_to h s l (L.Media write start count) = in_hand h s (still true s (verdict_text (media_on s (direction write) start count)))
answer_to h s l L.Image = in_hand h s (still true s (hex_text s))
answer_to h s l (L.Load at len) = loaded h s (bytes_at l at len)

-- a line that can't be read gets the reason
unfoldable pub heard : Bool → List ℕ → List ℕ → Result Line Why → Said
heard h s l (Ok q) = answer_to h s l q
heard h s l (Err w) = still h s (why_text w)

-- a request's room is at most 65,536
abbrev pub Roomy : Line → Type 0
Roomy (L.Command room at len) = room ≤ 65536
Roomy _ = Unit {0}

-- a line of more than 32,768 characters is not read, but a remark stays one
unfoldable pub long_text : List ℕ → List ℕ
long_text l = cond (remark l) [] too_long

unfoldable pub turn_of : Bool → List ℕ → List ℕ → Said
turn_of h s l = cond (ltb 32768 (length l)) (still h s (long_text l)) (heard h s l (line_of l))

-- nothing is done without an image's bytes to change, or room for the longest text: up to 20 digits, a blank, 2,048 bytes in hex
unfoldable pub turn_in : ℕ → Bool → List ℕ → List ℕ → Said
turn_in room h s l = cond (eqb (length s) 1188 && leb 4117 room) (turn_of h s l) (still h s [])

-- t at the front of the buffer d: how long it is, and the buffer that is left
pub record Texted (d t : List ℕ) (r : ℕ) (y : List ℕ) : Type 0 where
  pub count : r ≡ length t
  pub out : y ≡ over d 0 t

-- what a turn leaves: the text at the front of the buffer d, and past it what d held
pub record Turned (x : Said) (d : List ℕ) (r : After) (i y : List ℕ) : Type 0 where
  pub there : r.there ≡ x.there
  pub count : r.count ≡ length x.text
  pub image : i ≡ x.image
  pub out : y ≡ over d 0 x.text
