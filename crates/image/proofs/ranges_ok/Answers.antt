-- `ranges_ok` tests the flags of each range row.
use Rattle.std.proofs.Common.{rules, ◌+◌, ◌*◌, ℕ}
use Rattle.std.proofs.iter.runs.Sources.{ranges}
use Rattle.image.specs.Read.{flags_ok}
use Rattle.image.proofs.Arrays.{decided}
use Rattle.image.proofs.ranges_ok.Goals as goal

pub returns : goal.returns
returns c =
    let a = c.args in
    decided (λ (k : ℕ). flags_ok a.s.now (a.p + 21 * k + 16) 5) 5 c.all.result (search (rules, ranges))
