-- What anybody sees of an event, and what was decided in it: the words of the laws.
use Rattle.std.specs.Prelude.{ℕ, Bool, List, [], ◌∷◌, Option}
use Rattle.ranges.specs.declared.Verdict.{Verdict}
use Rattle.model.specs.Types.{Cells, Card, Decision, Judged}
use Rattle.model.specs.declared.Judged.TheVariants.{Settled, Compare}
use Rattle.model.specs.Vault.{matches, part, decided}
use Rattle.model.specs.Step.{Heard, turned, judged, heard, Reply, command, power, reset, ruling_number, media, Event, packet, powered, was_reset, asked, next}

-- what the media shows: only where it is asked
pub data Shown : Type 0 where
  not_shown : Shown
  shown : Option Verdict → Shown

-- the number, the answer's bytes, the media's ruling, and every cell that is no PIN
pub record Sight : Type 0 where
  pub number : ℕ
  pub bytes : List ℕ
  pub ruling : Shown
  pub cells : Cells

abbrev pub of_reply : Reply → Sight
of_reply r = record { number = r.number; bytes = r.bytes; ruling = not_shown; cells = r.card.cells }

unfoldable pub sees : Card → Event → Sight
sees k (packet room s) = of_reply (command k room s)
sees k powered = of_reply (power k)
sees k was_reset = of_reply (reset k)
sees k (asked write start count) = record {
  number = ruling_number (media k write start count);
  bytes = [];
  ruling = shown (media k write start count);
  cells = k.cells;
}

unfoldable pub trace : Card → List Event → List Sight
trace k [] = []
trace k (e ∷ es) = sees k e ∷ trace (next k e) es

-- how a PIN that was compared was answered
pub data Answered : Type 0 where
  not_asked : Answered
  said : Bool → Answered

unfoldable pub of_judged : Card → List ℕ → Judged → Answered
of_judged k s (Settled d) = not_asked
of_judged k s (Compare r p n equal differs) = said (matches k.vault r (part s p n))

unfoldable pub of_heard : Card → Heard → Answered
of_heard k (turned n) = not_asked
of_heard k (judged tsn hsn s j) = of_judged k s j

unfoldable pub answered : Card → Event → Answered
answered k (packet room s) = of_heard k (heard k room s)
answered k powered = not_asked
answered k was_reset = not_asked
answered k (asked write start count) = not_asked

-- what was decided of a packet, with the bytes that it was decided on
pub data Taken : Type 0 where
  nothing : Taken
  took : List ℕ → Decision → Taken

unfoldable pub taken_of : Card → Heard → Taken
taken_of k (turned n) = nothing
taken_of k (judged tsn hsn s j) = took s (decided k.vault s j)

unfoldable pub taken : Card → Event → Taken
taken k (packet room s) = taken_of k (heard k room s)
taken k powered = nothing
taken k was_reset = nothing
taken k (asked write start count) = nothing
