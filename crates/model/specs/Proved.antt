-- Who is proved in the open session: those whose right PIN was given since it was opened, counted from the events.
use Rattle.std.specs.Prelude.{ℕ, ◌+◌, ◌<◌, ◌≡◌, Bool, true, false, cond, List, [], ◌∷◌, get_or, take, eqb, Some}
use Rattle.packet.specs.Envelope.{opened_of}
use Rattle.payload.specs.declared.Payload.{Payload}
use Rattle.payload.specs.declared.Payload.TheVariants as P
use Rattle.payload.specs.Payload.{payload_at}
use Rattle.model.specs.Types.{Tsn, Hsn, Card, Decision}
use Rattle.model.specs.Record as R
use Rattle.model.specs.Step.{command, Event, packet, next, run}
use Rattle.model.specs.Seen.{took, taken}
use Rattle.model.specs.Laws.{Made}
use Rattle.model.specs.Packets.{OnZeros, Compares, Opens, ComesFrom}
use Rattle.model.specs.Signs as S
use Rattle.model.specs.Signs.{Sign, query, sign, past, SignsOfPins}

-- a session is open
unfoldable pub open_after : Sign → Bool → Bool
open_after S.opens on = true
open_after (S.enters q) on = true
open_after (S.proves q) on = on
open_after (S.misses q) on = on
open_after (S.puts q b) on = on
open_after S.activates on = on
open_after S.reverts_locking on = on
open_after S.reverts_sp on = false
open_after S.reverts_admin on = false
open_after S.begins on = on
open_after S.commits on = on
open_after S.abandons on = on
open_after S.ends on = false
open_after S.powers on = false
open_after S.idles on = on

-- row r is proved in it: a session opened anew has only its own authority, and what is proved stays so to its end
unfoldable pub proved_after : ℕ → Sign → Bool → Bool
proved_after r S.opens on = false
proved_after r (S.enters q) on = eqb q r
proved_after r (S.proves q) on = cond (eqb q r) true on
proved_after r (S.misses q) on = on
proved_after r (S.puts q b) on = on
proved_after r S.activates on = on
proved_after r S.reverts_locking on = on
proved_after r S.reverts_sp on = false
proved_after r S.reverts_admin on = false
proved_after r S.begins on = on
proved_after r S.commits on = on
proved_after r S.abandons on = on
proved_after r S.ends on = false
proved_after r S.powers on = false
proved_after r S.idles on = on

unfoldable pub is_open : List Sign → Bool
is_open [] = false
is_open (x ∷ old) = open_after x (is_open old)

unfoldable pub is_proved : ℕ → List Sign → Bool
is_proved r [] = false
is_proved r (x ∷ old) = proved_after r x (is_proved r old)

-- the sign of a payload that is no call, in a transaction or outside
abbrev pub Control : Bool → Payload → Sign → Type 0
Control inside (P.Call object method params) x = Unit {0}
Control inside P.EndSession x = x ≡ S.ends
Control inside P.Begin x = x ≡ cond inside S.idles S.begins
Control inside P.Commit x = x ≡ cond inside S.commits S.idles
Control inside P.Abandon x = x ≡ cond inside S.abandons S.idles
Control inside P.Broken x = x ≡ S.ends

-- a row whose PIN may be compared
abbrev pub Ready : Card → ℕ → Type 0
Ready k r = (get_or k.cells.tables.enabled r false ≡ true) × (R.tries_at k.cells r < 5)

pub record ProvedAsTold : Type 0 where
  pub signs : SignsOfPins
  -- a PIN is compared exactly in a StartSession or an Authenticate for a row that is enabled and has a try left
  pub only : (k : Card) (e : Event) (r : ℕ) (b : List ℕ) → query k e ≡ S.row r b → Compares k e r b
  pub ready : (k : Card) (e : Event) (r : ℕ) (b : List ℕ) → query k e ≡ S.row r b → Ready k r
  pub always : (k : Card) (room : ℕ) (s : List ℕ) (r : ℕ) (b : List ℕ)
      → (command k room s).number ≡ 0 → Compares k (packet room s) r b → Ready k r → query k (packet room s) ≡ S.row r b
  -- a session is opened and closed, and a transaction begun and ended, by the packets that document 01 has for it, and by each of these
  pub comes : (k : Card) (e : Event) (s : List ℕ) (d : Decision) → taken k e ≡ took s d → ComesFrom k e s d
  pub controls : (k : Card) (room : ℕ) (s : List ℕ) (tsn : Tsn) (hsn : Hsn) (start count : ℕ)
      → (command k room s).number ≡ 0 → opened_of s ≡ Some (record { tsn = tsn; hsn = hsn; start = start; len = count })
      → Control k.cells.undo.live (payload_at (take (start + count) s) start) (sign k (packet room s))
  -- a session that is opened is to the SP, and for the host, that its StartSession names
  pub opened : (k : Card) (e : Event) → k.cells.session.live ≡ false → (next k e).cells.session.live ≡ true
      → OnZeros k.cells.session e (Opens k.cells.tables.active (next k e).cells.session.locking (next k e).cells.session.hsn)
  -- after any run from any factory record a session is open exactly if the past says so, and so is who is proved in it
  pub session : (n : ℕ) (msid : List ℕ) (es : List Event) → Made n msid
      → (run (R.factory_card n msid) es).cells.session.live ≡ is_open (past (R.factory_card n msid) es [])
  pub proved : (n : ℕ) (msid : List ℕ) (es : List Event) (r : ℕ) → Made n msid
      → get_or (run (R.factory_card n msid) es).cells.session.proved r false ≡ is_proved r (past (R.factory_card n msid) es [])
