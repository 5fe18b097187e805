-- What the exported functions give back, and the image after them.
use Rattle.std.specs.Prelude.{ℕ, not, ◌&&◌, cond, List, length, eqb, Option, Some, None}
use Rattle.ranges.specs.declared.Verdict.{Verdict}
use Rattle.ranges.specs.declared.Verdict.TheVariants as T
use Rattle.model.specs.declared.Card.{Card}
use Rattle.model.specs.declared.Outcome.{Outcome}
use Rattle.model.specs.Record.{no_card}
use Rattle.model.specs.Sound.{sound}
use Rattle.model.specs.Step.{media}
use Rattle.image.specs.Write.{image_of}
use Rattle.image.specs.Read.{image_ok, card_at}

-- bytes that are no image stand for an unsound record: number 1
unfoldable pub on_image : List ℕ → (Card → Outcome) → Outcome
on_image s f = cond (image_ok s) (f (card_at s)) (record { number = 1; count = 0; card = no_card })

-- the number by which a request is turned away, or the count of answer bytes
unfoldable pub returned : Outcome → ℕ
returned o = cond (eqb o.number 0) o.count o.number

-- the image after it: as it was, where the number is not 0
unfoldable pub stored : List ℕ → Outcome → List ℕ
stored s o = cond (eqb o.number 0 && eqb (length s) 1188) (image_of o.card) s

-- a new record, where there is room for just one
unfoldable pub made_on : ℕ → Outcome → ℕ
made_on room o = cond (eqb room 1188) (returned o) 1

abbrev pub sound_of : List ℕ → ℕ
sound_of s = cond (image_ok s && sound (card_at s)) 0 1

-- the number 1, and the verdicts
unfoldable pub ruling_of : Option Verdict → ℕ
ruling_of None = 1
ruling_of (Some T.Disk) = 0
ruling_of (Some T.Shadow) = 2
ruling_of (Some T.Refused) = 3

abbrev pub media_on : List ℕ → ℕ → ℕ → ℕ → ℕ
media_on s write start count = cond (image_ok s) (ruling_of (media (card_at s) (not (eqb write 0)) start count)) 1
