-- `tape::write_value` meets its contract: what `room` answers, and what `fill` leaves where there is room.
use mathlib.Core.Path.{sym, ◌∙◌}
use Rattle.std.proofs.lemmas.Result.{err_from_is_err_and}
use Rattle.value.specs.Source.{tree_at}
use Rattle.tape.proofs.Whole.{leaves, wrote_none}
use Rattle.tape.proofs.write_value.Goals as goal

pub room-requires : goal.room-requires
room-requires c = sym c.value.ensures ∙ c.in-Some.is

pub fill-requires : goal.fill-requires
fill-requires c = let a = c.args in
    (sym c.value.ensures ∙ c.in-Some.is, leaves a.bytes.now a.out.now a.at _ (tree_at a.tape.now a.bytes.now 16 a.i) (sym c.in_ok-end.was ∙ c.room.ensures))

pub returns : goal.returns
returns c = record { answer = sym c.in_ok-end.was ∙ c.room.ensures; buffer = c.fill.ensures }

pub returns-in_err-end : goal.returns-in_err-end
returns-in_err-end c = let a = c.args in
    let p = err_from_is_err_and c.from_residual.result c.from_residual.ensures.1 in
    let e = sym c.in_err-end.was ∙ c.room.ensures in
    record { answer = rw (p.1, p.2) e; buffer = leaves a.bytes.now a.out.now a.at _ (tree_at a.tape.now a.bytes.now 16 a.i) e }

pub returns-in_default : goal.returns-in_default
returns-in_default c = let a = c.args in
    let all = wrote_none a.bytes.now a.out.now a.at _ (tree_at a.tape.now a.bytes.now 16 a.i) (sym c.value.ensures ∙ c.in_default.is) in
    record { answer = all.0; buffer = all.1 }
