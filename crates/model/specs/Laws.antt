-- The laws over runs of events, as statements.
use Rattle.std.specs.Prelude.{ℕ, ◌+◌, ◌≤◌, ◌<◌, ◌^◌, ◌≡◌, Bool, true, false, List, [], ◌∷◌, ◌≢◌, ◌⊎◌, length, get_or, replicate, Some}
use Rattle.ranges.specs.Decides.{Decides}
use Rattle.ranges.specs.Row.{row_count, row_at, Holds}
use Rattle.ranges.specs.Fit.{Fit}
use Rattle.ranges.specs.Owner.{share, sum}
use Rattle.ranges.specs.Media.{media_of}
use Rattle.payload.specs.declared.Payload.TheVariants as P
use Rattle.model.specs.Types.{Tables, Session, Secret, Card, Decision}
use Rattle.model.specs.declared.Decision.TheVariants as D
use Rattle.model.specs.Record as R
use Rattle.model.specs.Sound.{sound}
use Rattle.model.specs.Step.{Event, powered, was_reset, asked, command, power, reset, media, next, run}
use Rattle.model.specs.Sent.{Sends}
use Rattle.model.specs.Seen.{trace, answered, took, taken}

-- ---- soundness, clause by clause
pub record SoundTables (n : ℕ) (t : Tables) : Type 0 where
  pub rows : length t.rows ≡ row_count
  pub authorities : length t.enabled ≡ R.pin_count
  pub sid : get_or t.enabled 0 false ≡ true
  pub global : ((row_at t.rows 0).start ≡ 0) × ((row_at t.rows 0).length ≡ 0)
  pub fit : Fit t.rows n

pub record SoundSession (t : Tables) (s : Session) : Type 0 where
  pub many : length s.proved ≡ R.pin_count
  pub tsn : s.live ≡ true → 1 ≤ s.tsn.0
  pub active : s.live ≡ true → s.locking ≡ true → t.active ≡ true
  pub known_admin : s.live ≡ true → s.locking ≡ false → (r : ℕ) → r < R.pin_count → get_or s.proved r false ≡ true → r ≡ 0
  pub known_locking : s.live ≡ true → s.locking ≡ true → (r : ℕ) → r < R.pin_count → get_or s.proved r false ≡ true → 1 ≤ r
  pub none : s.live ≡ false → s ≡ R.no_session

pub record SoundSecret (x : Secret) : Type 0 where
  pub len : x.len ≤ 32
  pub many : length x.bytes ≡ 32
  pub after : (i : ℕ) → x.len ≤ i → get_or x.bytes i 0 ≡ 0

pub record SoundSecrets (l : List Secret) : Type 0 where
  pub many : length l ≡ R.pin_count
  pub each : (r : ℕ) → r < R.pin_count → SoundSecret (R.secret_at l r)

pub record SoundRecord (k : Card) : Type 0 where
  pub size : (262144 ≤ k.cells.n) × (k.cells.n ≤ 2 ^ 40)
  pub msid : length k.cells.msid ≡ 32
  pub tables : SoundTables k.cells.n k.cells.tables
  pub pins : length k.cells.pins ≡ R.pin_count
  pub tries : (r : ℕ) → R.tries_at k.cells r ≤ 5
  pub next : 1 ≤ k.cells.next.0
  pub session : SoundSession k.cells.tables k.cells.session
  pub live : SoundSecrets k.vault.live
  pub kept : SoundSecrets k.vault.kept
  -- a transaction is open only in a session, and its copies are sound too
  pub transaction : k.cells.undo.live ≡ true → k.cells.session.live ≡ true
  pub was : k.cells.undo.live ≡ true → SoundTables k.cells.n k.cells.undo.was × SoundSession k.cells.undo.was k.cells.session
  -- without one nothing is kept
  pub blank : k.cells.undo.live ≡ false → (k.cells.undo.was ≡ R.no_tables) × (k.vault.kept ≡ replicate R.pin_count (record { bytes = replicate 32 0; len = 0 }))

abbrev pub SoundDecided : Type 0
SoundDecided = (k : Card) → Decides (sound k) (SoundRecord k)

-- what the factory takes
abbrev pub Made : ℕ → List ℕ → Type 0
Made n msid = (262144 ≤ n) × (n ≤ 2 ^ 40) × (length msid ≡ 32)

-- after any run from any factory record the record is sound, so number 1 never comes
pub record AlwaysSound : Type 0 where
  pub factory : (n : ℕ) (msid : List ℕ) → Made n msid → sound (R.factory_card n msid) ≡ true
  pub step : (k : Card) (e : Event) → sound k ≡ true → sound (next k e) ≡ true
  pub always : (n : ℕ) (msid : List ℕ) (es : List Event) → Made n msid → sound (run (R.factory_card n msid) es) ≡ true

-- ---- "No two ranges share a sector, the global one aside", each ends within N, and the shares add up, in every record that is reached
pub record ApartAndShared (rows : List _) (n : ℕ) : Type 0 where
  pub ends : (i : ℕ) → 1 ≤ i → i < length rows → (row_at rows i).start + (row_at rows i).length ≤ n
  pub apart : (i j s : ℕ) → 1 ≤ i → i < length rows → 1 ≤ j → j < length rows → i ≢ j → Holds (row_at rows i) s → Holds (row_at rows j) s → ⊥
  pub each : (i : ℕ) → 1 ≤ i → i < length rows → share rows n i ≡ (row_at rows i).length
  pub shares : sum (share rows n) (length rows) ≡ n

-- the rows from before an open transaction too
abbrev pub RangesApart : Type 0
RangesApart = (n : ℕ) (msid : List ℕ) (es : List Event) → Made n msid
    → ((run (R.factory_card n msid) es).cells.n ≡ n)
    × ApartAndShared (run (R.factory_card n msid) es).cells.tables.rows n
    × ((run (R.factory_card n msid) es).cells.undo.live ≡ true → ApartAndShared (run (R.factory_card n msid) es).cells.undo.was.rows n)

-- ---- "A request turned away by number leaves the record and the answer buffer untouched"
pub record TurnedAway : Type 0 where
  pub packets : (k : Card) (room : ℕ) (s : List ℕ) → (command k room s).number ≢ 0 → ((command k room s).card ≡ k) × ((command k room s).bytes ≡ [])
  pub powers : (k : Card) → (power k).number ≢ 0 → (power k).card ≡ k
  pub resets : (k : Card) → (reset k).number ≢ 0 → (reset k).card ≡ k

-- ---- "The PINs stay in"
-- each PIN compared answered alike
abbrev pub AnsweredAlike : Card → Card → List Event → Type 0
AnsweredAlike j k [] = Unit {0}
AnsweredAlike j k (e ∷ es) = (answered j e ≡ answered k e) × AnsweredAlike (next j e) (next k e) es

-- two sound records alike in all but their PINs, the same requests and resets: all that is seen agrees throughout
abbrev pub Secrecy : Type 0
Secrecy = (j k : Card) (es : List Event) → sound j ≡ true → sound k ≡ true → j.cells ≡ k.cells → AnsweredAlike j k es
    → trace j es ≡ trace k es

-- ---- refusals
abbrev pub Refuses : Decision → Type 0
Refuses d = ((k : _) × (d ≡ D.Refuse k)) ⊎ (((k : _) × (d ≡ D.NotStarted k)) ⊎ (((r : ℕ) × (d ≡ D.Missed r)) ⊎ ((d ≡ D.Denied) ⊎ (((r : ℕ) × (d ≡ D.Mistaken r)) ⊎ ((d ≡ D.BeganAlready) ⊎ (d ≡ D.NoneOpen))))))

-- no cell but a try counter changed, and that by one
pub record OnlyTries (j k : Card) : Type 0 where
  pub tables : k.cells.tables ≡ j.cells.tables
  pub session : k.cells.session ≡ j.cells.session
  pub next : k.cells.next ≡ j.cells.next
  pub undo : k.cells.undo ≡ j.cells.undo
  pub made : (k.cells.n ≡ j.cells.n) × (k.cells.msid ≡ j.cells.msid)
  pub vault : k.vault ≡ j.vault
  pub counter : (r : ℕ) → (R.tries_at k.cells r ≡ R.tries_at j.cells r) ⊎ (R.tries_at k.cells r ≡ R.tries_at j.cells r + 1)
  pub one : (r q : ℕ) → r ≢ q → (R.tries_at k.cells r ≡ R.tries_at j.cells r) ⊎ (R.tries_at k.cells q ≡ R.tries_at j.cells q)

-- "A method refused changes no table cell but a try counter"
abbrev pub RefusedKeeps : Type 0
RefusedKeeps = (k : Card) (e : Event) (s : List ℕ) (d : Decision) → taken k e ≡ took s d → Refuses d → OnlyTries k (next k e)

-- ---- transactions
-- FB where none is open, FC 00 where one is
abbrev pub Begins : Card → Event → Type 0
Begins k e = Sends k e P.Begin × (k.cells.undo.live ≡ false)

abbrev pub Commits : Card → Event → Type 0
Commits k e = Sends k e P.Commit × (k.cells.undo.live ≡ true)

-- the ways in which a transaction dies: FC 01, the end of the session, a broken payload; and the two resets, which lock too
abbrev pub Abandons : Card → Event → Type 0
Abandons k e = (Sends k e P.Abandon × (k.cells.undo.live ≡ true)) ⊎ (Sends k e P.EndSession ⊎ Sends k e P.Broken)

abbrev pub Resets : Card → Event → Type 0
Resets k e = (e ≡ powered) ⊎ ((e ≡ was_reset) × ((reset k).number ≡ 0))

abbrev pub Leaves : Card → Event → Type 0
Leaves k e = Commits k e ⊎ (Abandons k e ⊎ Resets k e)

-- no event of the list ends the transaction
abbrev pub Inside : Card → List Event → Type 0
Inside k [] = Unit {0}
Inside k (e ∷ es) = (Leaves k e → ⊥) × Inside (next k e) es

pub record Transaction (k : Card) (e : Event) (es : List Event) : Type 0 where
  pub sound : sound k ≡ true
  pub begins : Begins k e
  pub inside : Inside (next k e) es

abbrev pub within : Card → Event → List Event → Card
within k e es = run (next k e) es

-- "an abandoned transaction puts back every cell but those"
pub record PutBack (j k : Card) : Type 0 where
  pub tables : k.cells.tables ≡ j.cells.tables
  pub pins : k.vault.live ≡ j.vault.live
  pub closed : k.cells.undo.live ≡ false

pub record AbandonPutsBack : Type 0 where
  pub abandoned : (k : Card) (e : Event) (es : List Event) (z : Event) → Transaction k e es → Abandons (within k e es) z
      → PutBack k (next (within k e es) z)
  -- "Authentications and Tries outlive an abandoned transaction"
  pub tries : (k : Card) (e : Event) (es : List Event) (z : Event) → Transaction k e es → Abandons (within k e es) z
      → (next (within k e es) z).cells.pins ≡ (within k e es).cells.pins
  pub proved : (k : Card) (e : Event) (es : List Event) (z : Event) → Transaction k e es → Sends (within k e es) z P.Abandon
      → (next (within k e es) z).cells.session ≡ (within k e es).cells.session
  -- after a reset it is as if the reset had come before the transaction began
  pub by_power : (k : Card) (e : Event) (es : List Event) → Transaction k e es
      → ((next (within k e es) powered).cells.tables ≡ (next k powered).cells.tables) × ((next (within k e es) powered).vault.live ≡ k.vault.live)
  pub by_reset : (k : Card) (e : Event) (es : List Event) → Transaction k e es → (reset k).number ≡ 0
      → ((next (within k e es) was_reset).cells.tables ≡ (next k was_reset).cells.tables) × ((next (within k e es) was_reset).vault.live ≡ k.vault.live)

-- a commit keeps all that was done in it, whatever ends the session later
pub record CommitKeeps : Type 0 where
  pub keeps : (k : Card) (e : Event) (es : List Event) (z : Event) → Transaction k e es → Commits (within k e es) z
      → PutBack (within k e es) (next (within k e es) z)
  pub others : (k : Card) (e : Event) (es : List Event) (z : Event) → Transaction k e es → Commits (within k e es) z
      → ((next (within k e es) z).cells.session ≡ (within k e es).cells.session) × ((next (within k e es) z).cells.pins ≡ (within k e es).cells.pins)
  pub lasts : (k : Card) (e : Event) (es : List Event) (z y : Event) → Transaction k e es → Commits (within k e es) z
      → Abandons (next (within k e es) z) y → PutBack (within k e es) (next (next (within k e es) z) y)
  pub powers : (k : Card) (e : Event) (es : List Event) (z y : Event) → Transaction k e es → Commits (within k e es) z
      → Resets (next (within k e es) z) y → (next (next (within k e es) z) y).vault.live ≡ (within k e es).vault.live

-- "With a transaction open, media questions and number 7 go by the cells from before it"
pub record NothingShows : Type 0 where
  -- outside a transaction the verdict is that of the record's own tables
  pub verdict : (k : Card) (write : Bool) (start count : ℕ) → sound k ≡ true → k.cells.undo.live ≡ false → let t = k.cells.tables in
      media k write start count ≡ Some (media_of t.rows t.mbr t.active k.cells.n write start count)
  pub media : (k : Card) (e : Event) (es : List Event) (write : Bool) (start count : ℕ) → Transaction k e es
      → media (within k e es) write start count ≡ media k write start count
  pub number : (k : Card) (e : Event) (es : List Event) → Transaction k e es → (reset (within k e es)).number ≡ (reset k).number
  -- "A media question changes nothing", and neither does the beginning of a transaction change a table
  pub asks : (k : Card) (write : Bool) (start count : ℕ) → next k (asked write start count) ≡ k
  pub begins : (k : Card) (e : Event) → Begins k e → (next k e).cells.tables ≡ k.cells.tables
