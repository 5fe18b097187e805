-- Each row put through f, and a reset. Over any number of rows.
use Prim.Native.Nat.{ℕ, zero, suc, ◌<◌}
use mathlib.Core.Path.{◌≡◌, refl, sym, ◌∙◌}
use mathlib.Core.List.{List, [], ◌∷◌, map}
use mathlib.Core.Bool.{Bool, true, false}
use lib.ListN.{length, length-map}
use native.Mathlib.Nat.{le_of_suc-le-suc, not-suc-le-zero}
use lib.Seq.{ext_get_or}
use native.Mathlib.Omega.{arith}
use Rattle.ranges.specs.declared.Row.{Row}
use Rattle.ranges.specs.Row.{no_row, row_at}
use Rattle.ranges.specs.Fit.{Fit}
use Rattle.ranges.specs.Reset.{locked_row, reset_rows}
use Rattle.ranges.proofs.Fitted.{Span, fit-spans}

pub at_map : (f : Row → Row) (rows : List Row) (i : ℕ) → i < length rows → row_at (map f rows) i ≡ f (row_at rows i)
at_map f [] i l = absurd (not-suc-le-zero l)
at_map f (x ∷ xs) zero l = refl
at_map f (x ∷ xs) (suc i) l = at_map f xs i (le_of_suc-le-suc l)

-- a list with f of each row in its place
pub mapped : (f : Row → Row) (rows a : List Row) → length a ≡ length rows → ((i : ℕ) → i < length rows → row_at a i ≡ f (row_at rows i)) → a ≡ map f rows
mapped f rows a long each =
    ext_get_or no_row a (map f rows) (long ∙ sym (length-map rows f))
    (λ i l. each i (omega (arith, long)) ∙ sym (at_map f rows i (omega (arith, long))))

-- a reset changes no span
locked-span : (rows : List Row) (i : ℕ) → i < length (map locked_row rows) → Span (row_at rows i) (row_at (map locked_row rows) i)
locked-span rows i l = rw (at_map locked_row rows i (omega (arith, length-map rows locked_row))) (record { from = refl; long = refl })

pub reset-fits : (active : Bool) (rows : List Row) (n : ℕ) → Fit rows n → Fit (reset_rows active rows) n
unfolding reset_rows
reset-fits true rows n f = fit-spans rows (map locked_row rows) n (length-map rows locked_row) (locked-span rows) f
reset-fits false rows n f = f
