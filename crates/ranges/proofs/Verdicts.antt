-- What a clear transfer says of each sector. Over any number of rows.
use Prim.Native.Nat.{ℕ, ◌+◌, ◌-◌, ◌≤◌, ◌<◌}
use mathlib.Core.Path.{◌≡◌, refl, sym, subst}
use mathlib.Core.Bool.{Bool, true, false, not, true≢false}
use mathlib.Core.Logic.{⊎_elim}
use mathlib.Core.List.{List}
use native.Mathlib.Omega.{arith}
use Rattle.ranges.specs.declared.Row.{Row}
use Rattle.ranges.specs.Decides.{Decides}
use Rattle.ranges.specs.Row.{row_at}
use Rattle.ranges.specs.Owner.{owner_of}
use Rattle.ranges.specs.Media.{barred_b, clear_b}
use Rattle.ranges.specs.Laws.{Passes}
use Rattle.ranges.proofs.Decide.{le-or-lt, is_true, is_false, map, dec-nand, dec-all}

-- a row that is not barred lets pass
pub passes-decides : (r : Row) (write : Bool) → Decides (not (barred_b r write)) (Passes r write)
unfolding barred_b
passes-decides r true =
    map (λ h. record { reading = λ e. absurd (true≢false e); writing = λ _. h }) (λ p. p.writing refl) (dec-nand _ _)
passes-decides r false =
    map (λ h. record { reading = λ _. h; writing = λ e. absurd (true≢false (sym e)) }) (λ p. p.reading refl) (dec-nand _ _)

-- the first count sectors from start on are those from start up to start + count
module _ (P : ℕ → Type 0) (start count : ℕ) where
  to-span : ((i : ℕ) → i < count → P (start + i)) → (s : ℕ) → start ≤ s → s < start + count → P s
  to-span h s a b = let e : start + (s - start) ≡ s = omega arith in subst P e (h (s - start) (omega arith))

pub clear-decides : (rows : List Row) (write : Bool) (start count : ℕ)
    → Decides (clear_b rows write start count) ((s : ℕ) → start ≤ s → s < start + count → Passes (row_at rows (owner_of rows s)) write)
unfolding clear_b
clear-decides rows write start count =
    map
    (to-span (λ s. Passes (row_at rows (owner_of rows s)) write) start count)
    (λ h i l. h (start + i) (omega arith) (omega arith))
    (dec-all _ _ (λ i. passes-decides (row_at rows (owner_of rows (start + i))) write) count)

-- a walk over the sectors: those from start up to at let pass
module _ (rows : List Row) (write : Bool) (start : ℕ) where
  abbrev pub Passed : ℕ → Type 0
  Passed at = (s : ℕ) → start ≤ s → s < at → Passes (row_at rows (owner_of rows s)) write

  pub all-passed : (count at : ℕ) → start + count ≤ at → Passed at → true ≡ clear_b rows write start count
  all-passed count at l h = sym (is_true _ (clear-decides rows write start count) (λ s a b. h s a (omega arith)))

  module _ (count at : ℕ) (a : start ≤ at) (b : at < start + count) (o : ℕ) (e : o ≡ owner_of rows at) where
    pub barred-at : barred_b (row_at rows o) write ≡ true → false ≡ clear_b rows write start count
    barred-at t =
        sym
        (is_false _ (clear-decides rows write start count)
        (λ h. (passes-decides (row_at rows o) write).fails (rw t refl) (rw e (h at a b))))

  module _ (at r : ℕ) (h : Passed at) (same : (s : ℕ) → at ≤ s → s < r → owner_of rows s ≡ owner_of rows at) (o : ℕ) (e : o ≡ owner_of rows at) where
    pub run-passed : barred_b (row_at rows o) write ≡ false → Passed r
    run-passed f s a b =
        ⊎_elim
        (λ l. rw (same s l b, ← e) ((passes-decides (row_at rows o) write).holds (rw f refl)))
        (λ l. h s a l)
        (le-or-lt at s)
