-- A transaction keeps the tables and PINs from before it until it ends: an abandon puts them back, a commit does not, and before it nothing shows.
use Rattle.std.specs.Prelude.{Some}
use Prim.Native.Nat.{ℕ}
use mathlib.Core.Path.{◌≡◌, refl, sym, ◌∙◌, ap, subst}
use mathlib.Core.Bool.{Bool, true, false, not, cond, true≢false}
use mathlib.Core.List.{List, [], ◌∷◌}
use mathlib.Core.Logic.{inl, inr}
use native.Mathlib.Omega.{arith}
use native.Mathlib.Decide.{ℕ_discrete}
use Rattle.ranges.specs.Media.{media_of}
use Rattle.payload.specs.declared.Payload.TheVariants as P
use Rattle.model.specs.Types.{Undo, Cells, Secret, Card, Who, Change, Decision}
use Rattle.model.specs.declared.Change.TheVariants as C
use Rattle.model.specs.declared.Decision.TheVariants as D
use Rattle.model.specs.Sound.{sound}
use Rattle.model.specs.Vault.{given_up, obey_change, obey}
use Rattle.model.specs.Apply.{settled_tables, cleared, change, apply, relocked, tper_reset, power_cycle}
use Rattle.model.specs.Step.{after, Reply, reset_to, power, reset, media, Event, packet, powered, was_reset, asked, next, run}
use Rattle.model.specs.Seen.{Taken, nothing, took, taken}
use Rattle.model.specs.Sent.{Sends}
use Rattle.model.specs.Laws.{Begins, Abandons, Resets, Commits, Leaves, Inside, Transaction, within, PutBack, AbandonPutsBack, CommitKeeps, NothingShows}
use Rattle.model.proofs.TurnedAway.{reset-keeps}
use Rattle.model.proofs.Moves.{rests, moves, cleared-tries}
use Rattle.model.proofs.Decisions.{Fits, decision-fits}
use Rattle.model.proofs.Sent.{Dies, begins-taken, commits-taken, abandon-taken, abandons-taken}
use Rattle.model.proofs.Cases.{of_cond}
use Rattle.model.proofs.Reached.{next-sound, run_sound}
use Rattle.model.proofs.Soundness.{sound-decides}
use Rattle.ranges.proofs.Decide.{is_true}
use Rattle.model.proofs.Heard.{power-ind, reset-ind}

-- what a transaction keeps, and the disk's size
abbrev held : Card → Undo × List Secret × ℕ
held k = (k.cells.undo, k.vault.kept, k.cells.n)

-- within a transaction that began at j
record In (j k : Card) : Type 0 where
  live : k.cells.undo.live ≡ true
  tables : k.cells.undo.was ≡ j.cells.tables
  pins : k.vault.kept ≡ j.vault.live
  size : k.cells.n ≡ j.cells.n

-- ---- nothing that does not end it touches that
by-change : (k : Card) (s : List ℕ) (x : Change) → held (after k s (D.Done x)) ≡ held k
unfolding apply obey change obey_change
by-change k s C.Nothing = refl
by-change k s (C.PutPin r p n) = refl
by-change k s (C.PutEnabled r on) = refl
by-change k s (C.PutRange r e) = refl
by-change k s (C.PutMbr e) = refl
by-change k s (C.PutResettable on) = refl
by-change k s C.Activate = refl
by-change k s C.RevertLocking = refl
by-change k s C.RevertAdmin = refl
by-change k s C.RevertSp = refl

cleared-held : (k : Card) (w : Who) → ((cleared k.cells w).undo, k.vault.kept, (cleared k.cells w).n) ≡ held k
cleared-held k w = ap (λ (c : Cells). (c.undo, k.vault.kept, c.n)) (cleared-tries k.cells w)

-- a decision says what came in
by-decision : (k : Card) (e : Event) (s : List ℕ) (d : Decision) → Fits (Sends k e) k.cells d → k.cells.undo.live ≡ true → (Leaves k e → ⊥)
    → held (after k s d) ≡ held k
unfolding apply obey
by-decision k e s (D.Refuse x) f o n = refl
by-decision k e s (D.NotStarted x) f o n = refl
by-decision k e s (D.Missed r) f o n = refl
by-decision k e s (D.Started locking hsn w) f o n = cleared-held k w
by-decision k e s D.Denied f o n = refl
by-decision k e s (D.Mistaken r) f o n = refl
by-decision k e s (D.Proved w) f o n = cleared-held k w
by-decision k e s (D.Told x first last) f o n = refl
by-decision k e s (D.Done x) f o n = by-change k s x
by-decision k e s D.Began f o n = absurd (true≢false (sym o ∙ f.1))
by-decision k e s D.BeganAlready f o n = refl
by-decision k e s D.Committed f o n = absurd (n (inl f))
by-decision k e s D.Abandoned f o n = absurd (n (inr (inl (inl f))))
by-decision k e s D.NoneOpen f o n = refl
by-decision k e s D.Ended f o n = absurd (n (inr (inl (inr (inl f)))))
by-decision k e s D.Broke f o n = absurd (n (inr (inl (inr (inr f)))))

by-taken : (k : Card) (room : ℕ) (p : List ℕ) (t : Taken) → taken k (packet room p) ≡ t → k.cells.undo.live ≡ true → (Leaves k (packet room p) → ⊥)
    → held (next k (packet room p)) ≡ held k
by-taken k room p nothing e o n = ap held (rests k room p e)
by-taken k room p (took s d) e o n =
    ap held (moves k (packet room p) s d e) ∙ by-decision k (packet room p) s d (decision-fits k (packet room p) s d e) o n

by_number : (k : Card) → Dec ((reset k).number ≡ 0) → (Leaves k was_reset → ⊥) → next k was_reset ≡ k
unfolding next
by_number k (yes e) n = absurd (n (inr (inr (inr (refl, e)))))
by_number k (no e) n = reset-keeps k e

by-event : (k : Card) (e : Event) → k.cells.undo.live ≡ true → (Leaves k e → ⊥) → held (next k e) ≡ held k
unfolding next
by-event k (packet room p) o n = by-taken k room p (taken k (packet room p)) refl o n
by-event k powered o n = absurd (n (inr (inr (inl refl))))
by-event k was_reset o n = ap held (by_number k (ℕ_discrete (reset k).number 0) n)
by-event k (asked write start count) o n = refl

still : (j k l : Card) → held l ≡ held k → In j k → In j l
still j k l e i = record {
  live = ap (λ h. h.0.live) e ∙ i.live;
  tables = ap (λ h. h.0.was) e ∙ i.tables;
  pins = ap (λ h. h.1) e ∙ i.pins;
  size = ap (λ h. h.2) e ∙ i.size;
}

over-run : (j k : Card) (es : List Event) → In j k → Inside k es → In j (run k es)
unfolding run
over-run j k [] i h = i
over-run j k (e ∷ es) i h = over-run j (next k e) es (still j k (next k e) (by-event k e i.live h.0) i) h.1

in-it : (k : Card) (e : Event) (es : List Event) → Transaction k e es → In k (within k e es)
unfolding apply obey
in-it k e es t =
    let (s, b) = begins-taken k e t.begins in
    over-run k (next k e) es (rw (moves k e s D.Began b) (record { live = refl; tables = refl; pins = refl; size = refl })) t.inside

-- ---- the tables and PINs that stand when the transaction is given up
abbrev settled_pins : Card → List Secret
settled_pins k = (given_up k.cells.undo.live k.vault).live

settled-open : (j k : Card) → In j k → (settled_tables k.cells ≡ j.cells.tables) × (settled_pins k ≡ j.vault.live)
settled-open j k i = (rw i.live i.tables, rw i.live i.pins)

settled-none : (k : Card) → k.cells.undo.live ≡ false → (settled_tables k.cells ≡ k.cells.tables) × (settled_pins k ≡ k.vault.live)
settled-none k h = (rw h refl, rw h refl)

-- ---- abandon and commit
at-end : (j k : Card) (s : List ℕ) (d : Decision) → In j k → Dies d → PutBack j (after k s d)
unfolding apply obey
at-end j k s d i (inl h) = rw h (record { tables = i.tables; pins = i.pins; closed = refl })
at-end j k s d i (inr (inl h)) = rw h (record { tables = (settled-open j k i).0; pins = (settled-open j k i).1; closed = refl })
at-end j k s d i (inr (inr h)) = rw h (record { tables = (settled-open j k i).0; pins = (settled-open j k i).1; closed = refl })

-- with none open the end of the session keeps all, and nothing is abandoned
at_none : (k : Card) (y : Event) (s : List ℕ) (d : Decision) → k.cells.undo.live ≡ false → Fits (Sends k y) k.cells d → Dies d → PutBack k (after k s d)
unfolding apply obey
at_none k y s d o f (inl h) = absurd (true≢false (sym (subst (Fits (Sends k y) k.cells) h f).1 ∙ o))
at_none k y s d o f (inr (inl h)) = rw h (record { tables = (settled-none k o).0; pins = (settled-none k o).1; closed = refl })
at_none k y s d o f (inr (inr h)) = rw h (record { tables = (settled-none k o).0; pins = (settled-none k o).1; closed = refl })

put_back : (j k l : Card) → PutBack j k → PutBack k l → PutBack j l
put_back j k l p q = record { tables = q.tables ∙ p.tables; pins = q.pins ∙ p.pins; closed = q.closed }

committed : (k : Card) (z : Event) → Commits k z → PutBack k (next k z)
unfolding apply obey
committed k z c = let (s, t) = commits-taken k z c in rw (moves k z s D.Committed t) (record { tables = refl; pins = refl; closed = refl })

begun : (k : Card) (e : Event) → Begins k e → (next k e).cells.tables ≡ k.cells.tables
unfolding apply
begun k e b = let (s, t) = begins-taken k e b in rw (moves k e s D.Began t) refl

others : (k : Card) (z : Event) → Commits k z → ((next k z).cells.session ≡ k.cells.session) × ((next k z).cells.pins ≡ k.cells.pins)
unfolding apply
others k z c = let (s, t) = commits-taken k z c in rw (moves k z s D.Committed t) (refl, refl)

ended-after : (k : Card) (y : Event) → k.cells.undo.live ≡ false → Abandons k y → PutBack k (next k y)
ended-after k y o a =
    let (d, (s, t), x) = abandons-taken k y a in
    rw (moves k y s d t) (at_none k y s d o (decision-fits k y s d t) x)

-- with none open a reset keeps the PINs
abbrev SamePins : Card → Reply → Type 0
SamePins k r = r.card.vault.live ≡ k.vault.live

resets-pins : (k : Card) (y : Event) → k.cells.undo.live ≡ false → Resets k y → (next k y).vault.live ≡ k.vault.live
unfolding next
resets-pins k y o (inl h) = rw h (power-ind (SamePins k) k (λ _. refl) (settled-none k o).1)
resets-pins k y o (inr h) = rw h.0 (reset-ind (SamePins k) k (λ _. refl) (settled-none k o).1)

pub commit-keeps : CommitKeeps
commit-keeps = record {
  keeps = λ k e es z t c. committed (within k e es) z c;
  others = λ k e es z t c. others (within k e es) z c;
  lasts = λ k e es z y t c a.
      let p = committed (within k e es) z c in
      put_back (within k e es) (next (within k e es) z) (next (next (within k e es) z) y) p (ended-after (next (within k e es) z) y p.closed a);
  powers = λ k e es z y t c r.
      let p = committed (within k e es) z c in
      resets-pins (next (within k e es) z) y p.closed r ∙ p.pins;
}

abandoned : (j k : Card) (z : Event) → In j k → Abandons k z → PutBack j (next k z)
abandoned j k z i a = let (d, (s, t), x) = abandons-taken k z a in rw (moves k z s d t) (at-end j k s d i x)

-- what outlives it
tries-stay : (c : Cells) (d : Decision) → Dies d → (apply c d).pins ≡ c.pins
unfolding apply
tries-stay c d (inl h) = rw h refl
tries-stay c d (inr (inl h)) = rw h refl
tries-stay c d (inr (inr h)) = rw h refl

tries-outlive : (k : Card) (z : Event) → Abandons k z → (next k z).cells.pins ≡ k.cells.pins
tries-outlive k z a = let (d, (s, t), x) = abandons-taken k z a in rw (moves k z s d t) (tries-stay k.cells d x)

proved-outlives : (k : Card) (z : Event) → k.cells.undo.live ≡ true → Sends k z P.Abandon → (next k z).cells.session ≡ k.cells.session
unfolding apply
proved-outlives k z o i = let (s, t) = abandon-taken k z i o in rw (moves k z s D.Abandoned t) refl

-- ---- the resets and the media go by what stands when it is given up
pub power-card : (k : Card) → sound k ≡ true → (power k).card ≡ reset_to k (power_cycle k.cells)
unfolding power
power-card k h = rw h refl

pub reset-card : (k : Card) → sound k ≡ true → (settled_tables k.cells).resettable ≡ true → (reset k).card ≡ reset_to k (tper_reset k.cells)
unfolding reset
reset-card k h g = rw (h, g) refl

reset-number : (k : Card) → sound k ≡ true → (reset k).number ≡ cond (not (settled_tables k.cells).resettable) 7 0
unfolding reset
reset-number k h = simp (h, of_cond (λ (r : Reply). r.number))

enabled : (b : Bool) → ◌≡◌ {A = ℕ} (cond (not b) 7 0) 0 → b ≡ true
enabled true h = refl
enabled false h = absurd (omega arith)

-- within a transaction that began at j all this is as it is at j
record Stands (j k : Card) : Type 0 where
  first : sound j ≡ true
  now : sound k ≡ true
  tables : settled_tables k.cells ≡ settled_tables j.cells
  pins : settled_pins k ≡ j.vault.live
  size : k.cells.n ≡ j.cells.n

power-stands : (j k : Card) → Stands j k
    → ((next k powered).cells.tables ≡ (next j powered).cells.tables) × ((next k powered).vault.live ≡ j.vault.live)
unfolding next
power-stands j k s =
    rw (power-card j s.first, power-card k s.now) (ap relocked s.tables, s.pins)

number-stands : (j k : Card) → Stands j k → (reset k).number ≡ (reset j).number
number-stands j k s = rw (reset-number j s.first, reset-number k s.now, s.tables) refl

reset-stands : (j k : Card) → Stands j k → (reset j).number ≡ 0
    → ((next k was_reset).cells.tables ≡ (next j was_reset).cells.tables) × ((next k was_reset).vault.live ≡ j.vault.live)
unfolding next
reset-stands j k s z =
    let g = enabled (settled_tables j.cells).resettable (sym (reset-number j s.first) ∙ z) in
    rw (reset-card j s.first g, reset-card k s.now (rw s.tables g)) (ap relocked s.tables, s.pins)

media-stands : (j k : Card) (write : Bool) (start count : ℕ) → Stands j k → media k write start count ≡ media j write start count
unfolding media
media-stands j k write start count s = rw (s.first, s.now, s.tables, s.size) refl

stands : (k : Card) (e : Event) (es : List Event) → Transaction k e es → Stands k (within k e es)
stands k e es t =
    let i = settled-open k (within k e es) (in-it k e es t) in
    let o = settled-none k t.begins.1 in
    record {
      first = t.sound;
      now = is_true _ (sound-decides _) (run_sound (next k e) es (next-sound k e ((sound-decides k).holds t.sound)));
      tables = i.0 ∙ sym o.0;
      pins = i.1;
      size = (in-it k e es t).size;
    }

pub abandon-puts-back : AbandonPutsBack
abandon-puts-back = record {
  abandoned = λ k e es z t a. abandoned k (within k e es) z (in-it k e es t) a;
  tries = λ k e es z t a. tries-outlive (within k e es) z a;
  proved = λ k e es z t i. proved-outlives (within k e es) z (in-it k e es t).live i;
  by_power = λ k e es t. power-stands k (within k e es) (stands k e es t);
  by_reset = λ k e es t z. reset-stands k (within k e es) (stands k e es t) z;
}

verdict : (k : Card) (write : Bool) (start count : ℕ) → sound k ≡ true → k.cells.undo.live ≡ false → let t = k.cells.tables in
    media k write start count ≡ Some (media_of t.rows t.mbr t.active k.cells.n write start count)
unfolding media
verdict k write start count h o = rw (h, o) refl

asks : (k : Card) (write : Bool) (start count : ℕ) → next k (asked write start count) ≡ k
unfolding next
asks k write start count = refl

pub nothing-shows : NothingShows
nothing-shows = record {
  verdict = verdict;
  media = λ k e es write start count t. media-stands k (within k e es) write start count (stands k e es t);
  number = λ k e es t. number-stands k (within k e es) (stands k e es t);
  asks = asks;
  begins = begun;
}
