-- `tape::read_value` meets its contract: what `count` measures, and what `load` leaves where there is room.
use mathlib.Core.Path.{sym, ◌∙◌}
use native.Mathlib.Omega.{arith}
use lib.ListN.{length}
use Rattle.std.proofs.Common.{◌+◌, ◌*◌, ◌<◌}
use Rattle.value.specs.Read.{value_at}
use Rattle.tape.proofs.Whole.{took-fits, took-full, took-none}
use Rattle.tape.specs.Steps.{words_in}
use Rattle.tape.proofs.read_value.Goals as goal
use Rattle.tape.proofs.read_value.Goals.{then-n-i-via-then-n-i, then-n-i-via-else-n-i+then-n-i-2}

pub count-m-requires : goal.count-m-requires
count-m-requires c = sym c.value_at.ensures ∙ c.in-Some.is

pub load-requires : goal.load-requires
load-requires c = (sym c.value_at.ensures ∙ c.in-Some.is, omega (arith, c.count-m.ensures))

pub returns : goal.returns
returns c = let a = c.args in
    record {
      answer = took-fits a.tape.now a.i (value_at a.s.now 16 a.at) (length a.tape.now) _ _ (sym c.value_at.ensures ∙ c.in-Some.is) c.count-m.ensures (omega (arith, c.count-m.ensures));
      words = c.load.ensures;
    }

pub returns-then-n-i : goal.returns-then-n-i
returns-then-n-i c = let a = c.args in
    let l : length a.tape.now < a.i * 3 + length (words_in (value_at a.s.now 16 a.at)) =
    elim c.then-n-i.branch [
      | then-n-i-via-then-n-i w ↦ omega (arith, c.count-m.ensures)
      | then-n-i-via-else-n-i+then-n-i-2 w ↦ omega (arith, c.count-m.ensures)
    ] in
    let all = took-full a.tape.now a.i (value_at a.s.now 16 a.at) _ (sym c.value_at.ensures ∙ c.in-Some.is) l in record { answer = all.0; words = all.1 }

pub returns-in_default : goal.returns-in_default
returns-in_default c = let a = c.args in
    let all = took-none a.tape.now _ a.i (value_at a.s.now 16 a.at) (sym c.value_at.ensures ∙ c.in_default.is) in record { answer = all.0; words = all.1 }
