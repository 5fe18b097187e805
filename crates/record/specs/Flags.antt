-- No flag is set from a row on.
use Rattle.std.specs.Prelude.{ℕ, Bool, false, not, List, get_or, leb}
use Rattle.ranges.specs.Decides.{imp, all}
use Rattle.model.specs.Record.{pin_count}

abbrev pub none_from : List Bool → ℕ → Bool
none_from l first = all (λ r. imp (leb first r) (not (get_or l r false))) pin_count
