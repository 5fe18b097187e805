-- What the steps of `parse` answer: what was read and where it ends, or nothing.
use Rattle.std.specs.Prelude.{ℕ, Option, Some, None}
use Rattle.value.specs.Read.{Out, ok, bad}

unfoldable pub found : {A : Type 0} → Option (A × ℕ) → Out A
found (Some x) = ok x.0 x.1
found None = bad
