-- The kinds of a whole row's values.
use Rattle.std.specs.Prelude.{ℕ, Bool, ◌&&◌, List}
use Rattle.params.specs.declared.Columns.{Columns}
use Rattle.params.specs.Columns.{column_at}
use Rattle.model.specs.Judge.{is_number, is_flag, is_resets}

abbrev pub range_kinds : List ℕ → Columns → Bool
range_kinds s t =
    is_number (column_at t 3) && (is_number (column_at t 4)
    && (is_flag (column_at t 5) && (is_flag (column_at t 6) && (is_flag (column_at t 7) && (is_flag (column_at t 8)
    && is_resets s (column_at t 9))))))

abbrev pub mbr_kinds : List ℕ → Columns → Bool
mbr_kinds s t = is_flag (column_at t 1) && (is_flag (column_at t 2) && is_resets s (column_at t 3))
