-- The past of a run: what each event says of sessions, PINs and transactions, told from the event and the record before it.
use Rattle.std.specs.Prelude.{ℕ, ◌≡◌, Bool, cond, List, [], ◌∷◌, ◌≢◌, take, drop, eqb}
use Rattle.model.specs.Types.{Card, Change, Decision, Judged}
use Rattle.model.specs.declared.Change.TheVariants as C
use Rattle.model.specs.declared.Decision.TheVariants as D
use Rattle.model.specs.declared.Judged.TheVariants.{Settled, Compare}
use Rattle.model.specs.Record as R
use Rattle.model.specs.Step.{Heard, turned, judged, heard, reset, Event, packet, powered, was_reset, asked, next}
use Rattle.model.specs.Seen.{Answered, not_asked, said, answered, Taken, nothing, took, taken}

-- ---- the PIN row that an event had compared, and the bytes of the request that it was compared with
pub data Query : Type 0 where
  none : Query
  row : ℕ → List ℕ → Query

unfoldable pub query_of : List ℕ → Judged → Query
query_of s (Settled d) = none
query_of s (Compare r p n equal differs) = row r (take n (drop p s))

unfoldable pub query_in : Heard → Query
query_in (turned n) = none
query_in (judged tsn hsn s j) = query_of s j

unfoldable pub query : Card → Event → Query
query k (packet room s) = query_in (heard k room s)
query k powered = none
query k was_reset = none
query k (asked write start count) = none

-- the PIN of row r
abbrev pub pin : Card → ℕ → List ℕ
pin k r = R.pin_of (R.secret_at k.vault.live r)

-- ---- signs
pub data Sign : Type 0 where
  -- a session by Anybody, by the right PIN of a row, and a right PIN given in the session
  opens : Sign
  enters : ℕ → Sign
  proves : ℕ → Sign
  -- a wrong PIN for a row, and a Set of its PIN to these bytes
  misses : ℕ → Sign
  puts : ℕ → List ℕ → Sign
  activates : Sign
  -- the restores; the last two close the session
  reverts_locking : Sign
  reverts_sp : Sign
  reverts_admin : Sign
  -- a transaction
  begins : Sign
  commits : Sign
  abandons : Sign
  -- the end of the session, by the host, a broken payload or a TPER_RESET
  ends : Sign
  powers : Sign
  idles : Sign

-- of a PIN that was compared, in a session or with none
unfoldable pub compared : Bool → ℕ → Answered → Sign
compared live r not_asked = idles
compared live r (said right) = cond right (cond live (proves r) (enters r)) (misses r)

-- of a method that was answered 0
unfoldable pub changed : List ℕ → Change → Sign
changed s C.Nothing = idles
changed s (C.PutPin r p n) = puts r (take n (drop p s))
changed s (C.PutEnabled r on) = idles
changed s (C.PutRange i e) = idles
changed s (C.PutMbr e) = idles
changed s (C.PutResettable on) = idles
changed s C.Activate = activates
changed s C.RevertLocking = reverts_locking
changed s C.RevertAdmin = reverts_admin
changed s C.RevertSp = reverts_sp

-- where no PIN was compared
unfoldable pub decided_sign : List ℕ → Decision → Sign
decided_sign s (D.Refuse k) = idles
decided_sign s (D.NotStarted k) = idles
decided_sign s (D.Missed r) = idles
decided_sign s (D.Started locking hsn w) = opens
decided_sign s D.Denied = idles
decided_sign s (D.Mistaken r) = idles
decided_sign s (D.Proved w) = idles
decided_sign s (D.Told o first last) = idles
decided_sign s (D.Done x) = changed s x
decided_sign s D.Began = begins
decided_sign s D.BeganAlready = idles
decided_sign s D.Committed = commits
decided_sign s D.Abandoned = abandons
decided_sign s D.NoneOpen = idles
decided_sign s D.Ended = ends
decided_sign s D.Broke = ends

unfoldable pub taken_sign : Taken → Sign
taken_sign nothing = idles
taken_sign (took s d) = decided_sign s d

unfoldable pub packet_sign : Bool → Query → Answered → Taken → Sign
packet_sign live none a t = taken_sign t
packet_sign live (row r p) a t = compared live r a

unfoldable pub sign : Card → Event → Sign
sign k (packet room s) =
    packet_sign k.cells.session.live (query k (packet room s)) (answered k (packet room s)) (taken k (packet room s))
sign k powered = powers
sign k was_reset = cond (eqb (reset k).number 0) ends idles
sign k (asked write start count) = idles

-- the signs of a run before those of `old`, the newest first
unfoldable pub past : Card → List Event → List Sign → List Sign
past k [] old = old
past k (e ∷ es) old = past (next k e) es (sign k e ∷ old)

-- ---- what the signs of PINs say
-- no PIN was compared
abbrev pub Unasked : Sign → Type 0
Unasked opens = Unit {0}
Unasked (enters q) = ⊥
Unasked (proves q) = ⊥
Unasked (misses q) = ⊥
Unasked (puts q b) = Unit {0}
Unasked activates = Unit {0}
Unasked reverts_locking = Unit {0}
Unasked reverts_sp = Unit {0}
Unasked reverts_admin = Unit {0}
Unasked begins = Unit {0}
Unasked commits = Unit {0}
Unasked abandons = Unit {0}
Unasked ends = Unit {0}
Unasked powers = Unit {0}
Unasked idles = Unit {0}

-- a PIN that is compared is right exactly if the bytes given are the stored PIN's own
pub record SignsOfPins : Type 0 where
  pub right : (k : Card) (e : Event) (r : ℕ) → query k e ≡ row r (pin k r) → sign k e ≡ cond k.cells.session.live (proves r) (enters r)
  pub wrong : (k : Card) (e : Event) (r : ℕ) (b : List ℕ) → query k e ≡ row r b → pin k r ≢ b → sign k e ≡ misses r
  pub unasked : (k : Card) (e : Event) → query k e ≡ none → Unasked (sign k e)
