-- The tests of rows decide what they are for, and what changes no span keeps a fit. Over any number of rows.
use Prim.Native.Nat.{ℕ, ◌+◌, ◌≤◌, ◌<◌}
use mathlib.Core.Path.{◌≡◌}
use mathlib.Core.List.{List}
use mathlib.Core.Logic.{⊎_elim}
use lib.ListN.{length, get_or, take, drop}
use native.Mathlib.Nat.{le_refl}
use native.Mathlib.Omega.{arith}
use Rattle.std.proofs.lemmas.Grind.{common_steps}
use Rattle.ranges.specs.declared.Row.{Row}
use Rattle.ranges.specs.Decides.{Decides}
use Rattle.ranges.specs.Row.{no_row, row_at, Holds, holds_b}
use Rattle.ranges.specs.Fit.{Apart, Ends, Fit, apart_b, fit_at, fit_b}
use Rattle.ranges.proofs.Decide.{le-or-lt, map, dec-le, dec-lt, dec-not, dec-and, dec-imp, dec-all}

-- the ranges are the rows past the global one
pub range-row : (rows : List Row) (n i : ℕ) → i < length (take n (drop 1 rows)) → get_or (take n (drop 1 rows)) i no_row ≡ row_at rows (i + 1)
range-row rows n i l = grind (arith, common_steps)

pub holds-decides : (r : Row) (s : ℕ) → Decides (holds_b r s) (Holds r s)
holds-decides r s =
    map (λ p. record { from = p.0; to = p.1 }) (λ h. (h.from, h.to)) (dec-and _ _ (dec-le _ _) (dec-lt _ _))

-- two rows that both hold the later start share it
clash : (a b : Row) → a.start ≤ b.start → b.start < a.start + a.length → 0 < b.length → Apart a b → ⊥
clash a b h l p ap = ap b.start (record { from = h; to = l }) (record { from = le_refl b.start; to = omega arith })

apart-sym : (a b : Row) → Apart a b → Apart b a
apart-sym a b ap s x y = ap s y x

meets : (a b : Row) → 0 < a.length → 0 < b.length → a.start < b.start + b.length → b.start < a.start + a.length → Apart a b → ⊥
meets a b p q r s ap =
    ⊎_elim (λ h. clash a b h s q ap) (λ h. clash b a (omega arith) r p (apart-sym a b ap)) (le-or-lt a.start b.start)

apart-decides : (a b : Row) → Decides (apart_b a b) (Apart a b)
apart-decides a b =
    map
    (λ h s x y. h (omega arith, (omega arith, (omega arith, omega arith))))
    (λ ap t. meets a b t.0 t.1.0 t.1.1.0 t.1.1.1 ap)
    (dec-not _ (dec-and _ _ (dec-lt _ _) (dec-and _ _ (dec-lt _ _) (dec-and _ _ (dec-lt _ _) (dec-lt _ _)))))

-- what is asked of row i
abbrev pub FitAt : List Row → ℕ → ℕ → Type 0
FitAt rows n i = 1 ≤ i → (Ends (row_at rows i) n) × ((j : ℕ) → j < i → 1 ≤ j → Apart (row_at rows i) (row_at rows j))

at-decides : (rows : List Row) (n i : ℕ) → Decides (fit_at rows n i) (FitAt rows n i)
at-decides rows n i =
    dec-imp _ _ (dec-le 1 i)
    (dec-and _ _ (dec-le _ n) (dec-all _ _ (λ j. dec-imp _ _ (dec-le 1 j) (apart-decides (row_at rows i) (row_at rows j))) i))

-- what a loop over the rows has shown when it has passed them all
pub fit-from : (rows : List Row) (n m : ℕ) → length rows ≤ m → ((k : ℕ) → k < m → FitAt rows n k) → Fit rows n
fit-from rows n m long h = record {
  ends = λ i o l. (h i (omega arith) o).0;
  apart = λ i j o k l. (h i (omega arith) (omega arith)).1 j k o;
}

pub fit-decides : (rows : List Row) (n : ℕ) → Decides (fit_b rows n) (Fit rows n)
unfolding fit_b
fit-decides rows n =
    map
    (fit-from rows n (length rows) (le_refl _))
    (λ f i l o. (f.ends i o l, (λ j m p. f.apart i j p m l)))
    (dec-all (fit_at rows n) (FitAt rows n) (at-decides rows n) (length rows))

-- the two rows have one span
pub record Span (a b : Row) : Type 0 where
  pub from : a.start ≡ b.start
  pub long : a.length ≡ b.length

span-holds : (a b : Row) (s : ℕ) → Span a b → Holds b s → Holds a s
span-holds a b s e h = record { from = omega (arith, e.from, h.from); to = omega (arith, e.from, e.long, h.to) }

-- rows with the spans of rows that fit, fit
pub fit-spans : (rows next : List Row) (n : ℕ) → length next ≡ length rows → ((i : ℕ) → i < length next → Span (row_at rows i) (row_at next i)) → Fit rows n → Fit next n
fit-spans rows next n long e f = record {
  ends = λ i o l. omega (arith, (e i l).from, (e i l).long, f.ends i o (omega arith));
  apart = λ i j o m l s x y. f.apart i j o m (omega arith) s (span-holds _ _ s (e i l) x) (span-holds _ _ s (e j (omega arith)) y);
}
