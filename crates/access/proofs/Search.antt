-- A search through the access rows: what the rows before a place say, row by row.
use Prim.Native.Nat.{ℕ, zero, suc, ◌/◌, ◌%◌, ◌^◌, ◌<◌, ◌≤◌}
use mathlib.Core.Path.{◌≡◌, refl, sym, ap, ◌∙◌}
use mathlib.Core.Bool.{Bool, true, false, ◌&&◌, ◌||◌, cond}
use Rattle.std.proofs.Math.Bool.{or_comm, or_assoc}
use mathlib.Core.List.{List, [], ◌∷◌}
use native.Mathlib.Nat.{div-eq_of_lt, mod-lt, zero-div}
use native.Mathlib.Omega.{arith}
use lib.Bits.{bit_or, or_shr, or_mod}
use lib.Dec.{eqb}
use lib.ListN.{length, get_or, take}
use lib.Pow.{pow_mono}
use Rattle.model.specs.declared.Access.{Access}
use Rattle.model.specs.declared.Session.{Session}
use Rattle.model.specs.Access.{access_rows, some_row, is_for, holds, has_column}
use Rattle.access.specs.declared.Found.{Found}
use Rattle.access.specs.Rows.{with_row}

-- as many rows as the constant has
pub count : length access_rows ≡ 29
unfolding access_rows
count = refl

-- what stands past the table's end
abbrev pub no_access : Access
no_access = record { kind = 0; method = 0; who = 0; columns = 0 }

-- a column of two sets put together
digit_or : (p q : ℕ) → p < 2 → q < 2 → eqb (bit_or p q) 1 ≡ eqb p 1 || eqb q 1
digit_or zero q h k = refl
digit_or (suc zero) zero h k = refl
digit_or (suc zero) (suc zero) h k = refl
digit_or (suc zero) (suc (suc q)) h k = absurd (omega arith)
digit_or (suc (suc p)) q h k = absurd (omega arith)

or-column : (a b c : ℕ) → has_column (bit_or a b) c ≡ has_column a c || has_column b c
or-column a b c = rw (or_shr a b c, or_mod (a / 2 ^ c) (b / 2 ^ c) 1) (digit_or _ _ (mod-lt (a / 2 ^ c) (omega arith)) (mod-lt (b / 2 ^ c) (omega arith)))

-- no column past the last bit
pub past_columns : (m c : ℕ) → m < 2 ^ 32 → 32 ≤ c → has_column m c ≡ false
past_columns m c h k =
    let past : m < 2 ^ c = omega (arith, pow_mono {i = 32} {j = c} (omega arith)) in
    rw (div-eq_of_lt past)

-- the word of some rows: one is for the pair, one of these holds, and the columns of those that hold
pub record Says (s : Session) (k own m : ℕ) (l : List Access) (f : Found) : Type 0 where
  pub listed : f.listed ≡ some_row (is_for k m) l
  pub held : f.held ≡ some_row (λ a. is_for k m a && holds s own a.who) l
  pub columns : (c : ℕ) → has_column f.columns c ≡ some_row (λ a. is_for k m a && (holds s own a.who && has_column a.columns c)) l

-- one more row is asked
some-more : (f : Access → Bool) (l : List Access) (i : ℕ) (d : Access) → i < length l → some_row f (take (suc i) l) ≡ some_row f (take i l) || f (get_or l i d)
unfolding some_row
some-more f [] i d h = absurd (omega arith)
some-more f (a ∷ l) zero d h = or_comm (f a) false
some-more f (a ∷ l) (suc i) d h = rw (some-more f l i d (omega arith)) (sym (or_assoc (f a) (some_row f (take i l)) (f (get_or l i d))))

module _ (s : Session) (k own m : ℕ) where
  -- no row stands before the first
  pub says_none : Says s k own m (take 0 access_rows) (record { listed = false; held = false; columns = 0 })
  unfolding some_row
  says_none = record { listed = refl; held = refl; columns = λ c. ap (λ (x : ℕ). eqb (x % 2) 1) (zero-div (2 ^ c)) }

  pub says_all : (f : Found) → Says s k own m (take 29 access_rows) f → Says s k own m access_rows f
  unfolding access_rows
  says_all f w = w

  added : (for-it holds-it : Bool) (a f c : ℕ) → has_column (cond (for-it && holds-it) (bit_or a f) f) c ≡ (for-it && (holds-it && has_column a c)) || has_column f c
  added true true a f c = or-column a f c
  added true false a f c = refl
  added false h a f c = refl

  -- the row a after those before i
  pub says-more : (i : ℕ) (a : Access) (f : Found) → i < 29 → a ≡ get_or access_rows i no_access → Says s k own m (take i access_rows) f → Says s k own m (take (suc i) access_rows) (with_row s k own m a f)
  says-more i a f h e w =
      let inside : i < length access_rows = omega (arith, count) in
      let it = is_for k m a in
      let has = is_for k m a && holds s own a.who in
      record {
        listed = rw (some-more _ access_rows i no_access inside, ← e, w.listed) (or_comm it (some_row (is_for k m) (take i access_rows)));
        held = rw (some-more _ access_rows i no_access inside, ← e, w.held) (or_comm has (some_row (λ x. is_for k m x && holds s own x.who) (take i access_rows)));
        columns = λ c.
            added it (holds s own a.who) a.columns f.columns c
            ∙ rw (some-more _ access_rows i no_access inside, ← e, w.columns c)
            (or_comm (it && (holds s own a.who && has_column a.columns c)) (some_row (λ x. is_for k m x && (holds s own x.who && has_column x.columns c)) (take i access_rows)));
      }
