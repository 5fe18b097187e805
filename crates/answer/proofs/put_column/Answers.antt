-- `put_column` meets its contract: the name's bounds, the name and the value, or nothing.
use mathlib.Core.Path.{sym, ◌∙◌}
use native.Mathlib.Omega.{arith}
use Rattle.answer.proofs.Written.{said, behind, nothing}
use Rattle.answer.proofs.Spelled.{told-column, hidden-column}
use Rattle.answer.proofs.put_column.Goals as goal

pub returns : goal.returns
returns c =
    let name = behind c.put_byte-a.ensures (rw c.from.ensures at c.put_int-b.ensures) (omega arith) in
    let value = behind name c.put_cell-d.ensures (omega arith) in
    said (behind value c.put_byte.ensures (omega arith)) (told-column _ _ _ _ (sym c.has_column.ensures ∙ c.if-not-has_column.false)) (omega arith)

pub returns-then-not-has_column : goal.returns-then-not-has_column
returns-then-not-has_column c =
    let a = c.args in
    said (nothing 45 _ _) (hidden-column a.set a.c a.o a.k (sym c.has_column.ensures ∙ c.if-not-has_column.true)) (omega arith)
