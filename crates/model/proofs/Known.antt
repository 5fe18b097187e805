-- The manager, columns, statuses and the factory's record are those in figures.
use Prim.Native.Nat.{ℕ, zero, suc, ◌-◌, ◌≤◌, ◌<◌, ◌^◌}
use mathlib.Core.Path.{◌≡◌, refl}
use mathlib.Core.Bool.{true, false, ◌&&◌}
use mathlib.Core.List.{List, []}
use native.Mathlib.Omega.{arith}
use lib.ListN.{length, get_or}
use lib.Dec.{eqb}
use Rattle.token.specs.Write.{enc_int}
use Rattle.tape.specs.Write.{enc_atom, enc_value}
use Rattle.ranges.specs.Row.{row_count, no_row}
use Rattle.ranges.specs.Decides.{Decides}
use Rattle.ranges.proofs.Decide.{is_true, is_false, map, dec-le, dec-and}
use Rattle.model.specs.Types.{PinRow, Secret}
use Rattle.model.specs.Record as R
use Rattle.model.specs.Sound.{size_ok, sound}
use Rattle.model.specs.Answer.{status_number, cell_past0}
use Rattle.model.specs.Step.{made}
use Rattle.model.specs.Laws.{Made}
use Rattle.model.specs.Literals.{ManagerNamed, Statuses, FromFactory, FactoryMade, AsInFigures}
use Rattle.model.proofs.Soundness.{dec-eq}
use Rattle.model.proofs.Parts.{all_same}
use Rattle.model.proofs.Faults.{last-of}
use Rattle.model.proofs.Figures.{objects-named, authorities-known, methods-named}

manager-named : ManagerNamed
manager-named = record { manager = refl; start = refl; sync = refl; close = refl; admin = refl; locking = refl }

statuses : Statuses
unfolding status_number
statuses = record { success = refl; not_authorized = refl; no_sessions = refl; invalid_parameter = refl; locked_out = refl; fail = refl }

-- ---- the factory
pin-empty : (msid : List ℕ) (r : ℕ) → 1 ≤ r → (R.secret_at (R.factory_secrets msid) r).len ≡ 0
pin-empty msid zero h = absurd (omega arith)
pin-empty msid (suc r) h = all_same (λ (x : Secret). x.len ≡ 0) (R.pin_count - 1) R.no_secret (record { bytes = []; len = 0 }) refl refl r

is-enabled : (r : ℕ) → r < 2 → get_or R.factory_enabled r false ≡ true
is-enabled zero h = refl
is-enabled (suc zero) h = refl
is-enabled (suc (suc r)) h = absurd (omega arith)

is-disabled : (r : ℕ) → 2 ≤ r → get_or R.factory_enabled r false ≡ false
is-disabled zero h = absurd (omega arith)
is-disabled (suc zero) h = absurd (omega arith)
is-disabled (suc (suc r)) h = all_same (λ b. b ≡ false) (R.pin_count - 2) false false refl refl r

from-factory : (n : ℕ) (msid : List ℕ) → FromFactory n msid (R.factory_card n msid)
unfolding enc_value enc_atom enc_int cell_past0
from-factory n msid = record {
  size = refl;
  printed = refl;
  inactive = refl;
  life_cycle = refl;
  sid = (refl, refl);
  others = pin-empty msid;
  pins = (refl, refl);
  ranges = refl;
  each = all_same (λ r. r ≡ no_row) row_count no_row no_row refl refl;
  mbr = refl;
  enabled = is-enabled;
  disabled = is-disabled;
  tries = all_same (λ (p : PinRow). p.tries ≡ 0) R.pin_count (record { tries = 0 }) (record { tries = 0 }) refl refl;
  reset = refl;
  session = refl;
  next = refl;
  transaction = refl;
}

made-decides : (n : ℕ) (msid : List ℕ) → Decides (size_ok n && eqb (length msid) R.pin_bytes) (Made n msid)
made-decides n msid =
    map (λ p. (p.0.0, p.0.1, p.1)) (λ p. ((p.0, p.1), p.2))
    (dec-and (size_ok n) (eqb (length msid) R.pin_bytes) (dec-and _ _ (dec-le 262144 n) (dec-le n (2 ^ 40))) (dec-eq (length msid) R.pin_bytes))

factory-made : FactoryMade
unfolding made sound
factory-made = record {
  accepted = λ n msid m. rw (is_true _ (made-decides n msid) m) (refl, from-factory n msid);
  refused = λ n msid m. rw (is_false _ (made-decides n msid) m) (refl, refl);
}

pub as-in-figures : AsInFigures
as-in-figures = record {
  objects = objects-named;
  authorities = authorities-known;
  methods = methods-named;
  manager = manager-named;
  columns = last-of;
  statuses = statuses;
  factory = factory-made;
}
