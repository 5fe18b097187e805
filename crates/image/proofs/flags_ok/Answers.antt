-- `flags_ok` tests each byte of the run.
use Rattle.std.proofs.Common.{rules, List, ◌+◌, ◌≡◌, ℕ, leb, get_or, true, Decides, EachIndex, slice_range, arith}
use Rattle.image.proofs.Arrays.{decided_run}
use Rattle.image.proofs.flags_ok.Goals as goal

pub returns : goal.returns
returns c =
    let a = c.args in
    let part : List ℕ = slice_range a.s.now a.p (a.p + a.n) in
    let told : Decides c.all.result (EachIndex part (λ (k : ℕ). leb (get_or part k 0) 1 ≡ true)) = search rules in
    decided_run (λ (b : ℕ). leb b 1) a.s.now a.p a.n c.all.result (omega arith) told
