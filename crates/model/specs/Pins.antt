-- The PINs: what each event makes of them, and what they are after any run.
use Rattle.std.specs.Prelude.{ℕ, ◌≡◌, Bool, true, false, cond, List, [], ◌∷◌, eqb}
use Rattle.model.specs.Types.{Card, Change}
use Rattle.model.specs.declared.Decision.TheVariants as D
use Rattle.model.specs.Record as R
use Rattle.model.specs.Sound.{sound}
use Rattle.model.specs.Step.{Event, next, run}
use Rattle.model.specs.Seen.{took, taken}
use Rattle.model.specs.Laws.{Made}
use Rattle.model.specs.Packets.{Changes}
use Rattle.model.specs.Signs as S
use Rattle.model.specs.Signs.{Sign, pin, sign, past}

-- the PINs by their rows: now, and, within a transaction, when it began
pub record Pins : Type 0 where
  pub inside : Bool
  pub now : ℕ → List ℕ
  pub was : ℕ → List ℕ

abbrev pub with_now : Pins → (ℕ → List ℕ) → Pins
with_now x f = record { inside = x.inside; now = f; was = x.was }

-- a transaction, if there is one, is abandoned
abbrev pub put_back : Pins → Pins
put_back x = record { inside = false; now = cond x.inside x.was x.now; was = x.was }

-- "SID's PIN the MSID, .. other PINs empty"
abbrev pub factory_pins : List ℕ → ℕ → List ℕ
factory_pins msid r = cond (eqb 0 r) msid []

-- the PINs of the Locking SP empty: row 0 is the Admin SP's
abbrev pub only_sid : Pins → Pins
only_sid x = with_now x (λ r. cond (eqb 0 r) (x.now 0) [])

unfoldable pub pins_after : List ℕ → Sign → Pins → Pins
pins_after msid S.opens x = x
pins_after msid (S.enters q) x = x
pins_after msid (S.proves q) x = x
pins_after msid (S.misses q) x = x
pins_after msid (S.puts q b) x = with_now x (λ r. cond (eqb q r) b (x.now r))
pins_after msid S.activates x = with_now x (λ r. cond (eqb 1 r) (x.now 0) (x.now r))
pins_after msid S.reverts_locking x = only_sid x
pins_after msid S.reverts_sp x = only_sid x
pins_after msid S.reverts_admin x = with_now x (factory_pins msid)
pins_after msid S.begins x = record { inside = true; now = x.now; was = x.now }
pins_after msid S.commits x = record { inside = false; now = x.now; was = x.was }
pins_after msid S.abandons x = put_back x
pins_after msid S.ends x = put_back x
pins_after msid S.powers x = put_back x
pins_after msid S.idles x = x

unfoldable pub pins : List ℕ → List Sign → Pins
pins msid [] = record { inside = false; now = factory_pins msid; was = factory_pins msid }
pins msid (x ∷ old) = pins_after msid x (pins msid old)

-- as they are stored
abbrev pub stored : Card → Pins
stored k = record { inside = k.cells.undo.live; now = pin k; was = λ r. R.pin_of (R.secret_at k.vault.kept r) }

pub record PinsAsTold : Type 0 where
  -- what each event does to each PIN
  pub step : (k : Card) (e : Event) (r : ℕ) → sound k ≡ true → pin (next k e) r ≡ (pins_after k.cells.msid (sign k e) (stored k)).now r
  -- a PIN is set, copied or restored only by the packets that document 01 has for it
  pub only : (k : Card) (e : Event) (s : List ℕ) (x : Change) → taken k e ≡ took s (D.Done x) → Changes k e s x
  -- so it is what the past tells: an abandon puts back what it was when the transaction began
  pub always : (n : ℕ) (msid : List ℕ) (es : List Event) (r : ℕ) → Made n msid
      → pin (run (R.factory_card n msid) es) r ≡ (pins msid (past (R.factory_card n msid) es [])).now r
  pub transaction : (n : ℕ) (msid : List ℕ) (es : List Event) → Made n msid
      → (run (R.factory_card n msid) es).cells.undo.live ≡ (pins msid (past (R.factory_card n msid) es [])).inside
  -- the disk's size and the MSID stay
  pub made : (k : Card) (e : Event) → ((next k e).cells.n ≡ k.cells.n) × ((next k e).cells.msid ≡ k.cells.msid)
