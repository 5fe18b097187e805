-- What the first byte says, range by range: computed at each byte of a range.
use Prim.Native.Nat.{ℕ, zero, suc, ◌+◌, ◌-◌, ◌≤◌, ◌<◌}
use mathlib.Core.Path.{◌≡◌, refl, sym, ap, ◌∙◌}
use mathlib.Core.List.{[], ◌∷◌}
use mathlib.Core.Bool.{Bool, true, false, ◌&&◌, ◌||◌, not, cond}
use mathlib.Core.Logic.{⊎_elim}
use native.Mathlib.Nat.{eq-or-lt_of_le}
use native.Mathlib.Omega.{arith}
use lib.ListN.{get_or}
use lib.Dec.{T, eqb, eqb→eq}
use borrow.Author.Tests.{ne_eqb}
use Rattle.token.specs.declared.Lead.{Lead}
use Rattle.token.specs.declared.Lead.TheVariants as L
use Rattle.token.specs.Bytes.{within}
use Rattle.token.specs.Token.{lead_of, is_control}

-- a number for each lead, with what it holds, and back
abbrev code : Lead → ℕ × ℕ
code L.Tiny = (0, 0)
code (L.Short true n) = (1, n)
code (L.Short false n) = (2, n)
code (L.Medium true n) = (3, n)
code (L.Medium false n) = (4, n)
code (L.Long true) = (5, 0)
code (L.Long false) = (6, 0)
code L.Control = (7, 0)
code L.Empty = (8, 0)
code L.Broken = (9, 0)

abbrev back : ℕ → ℕ → Lead
back k n = get_or (L.Tiny ∷ L.Short true n ∷ L.Short false n ∷ L.Medium true n ∷ L.Medium false n ∷ L.Long true ∷ L.Long false ∷ L.Control ∷ L.Empty ∷ []) k L.Broken

there : (x : Lead) → back (code x).0 (code x).1 ≡ x
there L.Tiny = refl
there (L.Short true n) = refl
there (L.Short false n) = refl
there (L.Medium true n) = refl
there (L.Medium false n) = refl
there (L.Long true) = refl
there (L.Long false) = refl
there L.Control = refl
there L.Empty = refl
there L.Broken = refl

abbrev pub same : Lead → Lead → Bool
same x y = eqb (code x).0 (code y).0 && eqb (code x).1 (code y).1

pub both : (a b : Bool) → T (a && b) → T a × T b
both true true h = (tt, tt)
both true false h = absurd h
both false b h = absurd h

pub same-is : (x y : Lead) → T (same x y) → x ≡ y
same-is x y h =
    let k = both (eqb (code x).0 (code y).0) (eqb (code x).1 (code y).1) h in
    let p = eqb→eq (code x).0 (code y).0 k.0 in
    let q = eqb→eq (code x).1 (code y).1 k.1 in
    sym (there x) ∙ ap (λ (n : ℕ). back n (code x).1) p ∙ ap (λ (n : ℕ). back (code y).0 n) q ∙ there y

-- a test at each number below n
abbrev pub all : (ℕ → Bool) → ℕ → Bool
all f zero = true
all f (suc n) = f n && all f n

pub all-at : (f : ℕ → Bool) (n k : ℕ) → T (all f n) → k < n → T (f k)
all-at f zero k h l = absurd (omega arith)
all-at f (suc n) k h l =
    let b = both (f n) (all f n) h in
    ⊎_elim (λ (e : k ≡ n). rw e b.0) (λ (g : k < n). all-at f n k b.1 g) (eq-or-lt_of_le {n = k} {m = n} (omega arith))

-- the n bytes from lo on say what f says, where that is so when it is computed
abbrev Says : ℕ → ℕ → (ℕ → Lead) → Type 0
Says lo n f = T (all (λ k. same (lead_of (lo + k)) (f k)) n)

says : (lo n : ℕ) (f : ℕ → Lead) → Says lo n f → (b : ℕ) → lo ≤ b → b < lo + n → lead_of b ≡ f (b - lo)
says lo n f t b h l =
    let e : lo + (b - lo) ≡ b = omega arith in
    rw e at (same-is (lead_of (lo + (b - lo))) (f (b - lo)) (all-at (λ k. same (lead_of (lo + k)) (f k)) n (b - lo) t (omega arith)))

pub tiny : (b : ℕ) → 0x00 ≤ b → b ≤ 0x3f → lead_of b ≡ L.Tiny
unfolding lead_of within is_control
tiny b h k = says 0x00 64 (λ n. L.Tiny) tt b h (omega arith)

pub short_int : (b : ℕ) → 0x80 ≤ b → b ≤ 0x8f → lead_of b ≡ L.Short false (b - 0x80)
unfolding lead_of within is_control
short_int b h k = says 0x80 16 (λ n. L.Short false n) tt b h (omega arith)

pub short_bytes : (b : ℕ) → 0xa0 ≤ b → b ≤ 0xaf → lead_of b ≡ L.Short true (b - 0xa0)
unfolding lead_of within is_control
short_bytes b h k = says 0xa0 16 (λ n. L.Short true n) tt b h (omega arith)

pub medium_int : (b : ℕ) → 0xc0 ≤ b → b ≤ 0xc7 → lead_of b ≡ L.Medium false (b - 0xc0)
unfolding lead_of within is_control
medium_int b h k = says 0xc0 8 (λ n. L.Medium false n) tt b h (omega arith)

pub medium_bytes : (b : ℕ) → 0xd0 ≤ b → b ≤ 0xd7 → lead_of b ≡ L.Medium true (b - 0xd0)
unfolding lead_of within is_control
medium_bytes b h k = says 0xd0 8 (λ n. L.Medium true n) tt b h (omega arith)

pub long_int : (b : ℕ) → 0xe0 ≤ b → b ≤ 0xe0 → lead_of b ≡ L.Long false
unfolding lead_of within is_control
long_int b h k = says 0xe0 1 (λ n. L.Long false) tt b h (omega arith)

pub long_bytes : (b : ℕ) → 0xe2 ≤ b → b ≤ 0xe2 → lead_of b ≡ L.Long true
unfolding lead_of within is_control
long_bytes b h k = says 0xe2 1 (λ n. L.Long true) tt b h (omega arith)

pub control-low : (b : ℕ) → 0xf0 ≤ b → b ≤ 0xf3 → lead_of b ≡ L.Control
unfolding lead_of within is_control
control-low b h k = says 0xf0 4 (λ n. L.Control) tt b h (omega arith)

pub control-high : (b : ℕ) → 0xf8 ≤ b → b ≤ 0xfc → lead_of b ≡ L.Control
unfolding lead_of within is_control
control-high b h k = says 0xf8 5 (λ n. L.Control) tt b h (omega arith)

pub empty : (b : ℕ) → 0xff ≤ b → b ≤ 0xff → lead_of b ≡ L.Empty
unfolding lead_of within is_control
empty b h k = says 0xff 1 (λ n. L.Empty) tt b h (omega arith)

pub gap-40 : (b : ℕ) → 0x40 ≤ b → b ≤ 0x7f → lead_of b ≡ L.Broken
unfolding lead_of within is_control
gap-40 b h k = says 0x40 64 (λ n. L.Broken) tt b h (omega arith)

pub gap-90 : (b : ℕ) → 0x90 ≤ b → b ≤ 0x9f → lead_of b ≡ L.Broken
unfolding lead_of within is_control
gap-90 b h k = says 0x90 16 (λ n. L.Broken) tt b h (omega arith)

pub gap-b0 : (b : ℕ) → 0xb0 ≤ b → b ≤ 0xbf → lead_of b ≡ L.Broken
unfolding lead_of within is_control
gap-b0 b h k = says 0xb0 16 (λ n. L.Broken) tt b h (omega arith)

pub gap-c8 : (b : ℕ) → 0xc8 ≤ b → b ≤ 0xcf → lead_of b ≡ L.Broken
unfolding lead_of within is_control
gap-c8 b h k = says 0xc8 8 (λ n. L.Broken) tt b h (omega arith)

pub gap-f4 : (b : ℕ) → 0xf4 ≤ b → b ≤ 0xf7 → lead_of b ≡ L.Broken
unfolding lead_of within is_control
gap-f4 b h k = says 0xf4 4 (λ n. L.Broken) tt b h (omega arith)

pub gap-d8 : (b : ℕ) → 0xd8 ≤ b → b ≤ 0xef → (b ≡ 0xe0 → ⊥) → (b ≡ 0xe2 → ⊥) → lead_of b ≡ L.Broken
unfolding lead_of within is_control
gap-d8 b h k q r =
    simp (ne_eqb (b - 0xd8) 8 (λ e. q (omega arith)), ne_eqb (b - 0xd8) 10 (λ e. r (omega arith)))
    at (says 0xd8 24 (λ n. cond (eqb n 8) (L.Long false) (cond (eqb n 10) (L.Long true) L.Broken)) tt b h (omega arith))

pub gap-fd : (b : ℕ) → 0xfd ≤ b → b < 256 → (b ≡ 0xff → ⊥) → lead_of b ≡ L.Broken
unfolding lead_of within is_control
gap-fd b h k q =
    simp (ne_eqb (b - 0xfd) 2 (λ e. q (omega arith))) at (says 0xfd 3 (λ n. cond (eqb n 2) L.Empty L.Broken) tt b h (omega arith))

-- every range and gap
pub ruleset leads = (tiny, short_int, short_bytes, medium_int, medium_bytes, long_int, long_bytes, control-low, control-high, empty, gap-40, gap-90, gap-b0, gap-c8, gap-d8, gap-f4, gap-fd)

pub is_true : (t : Bool) → T t → t ≡ true
is_true true h = refl
is_true false h = absurd h

-- only a control token says so
controls : T (all (λ b. not (same (lead_of b) L.Control) || is_control b) 256)
unfolding lead_of within is_control
controls = tt

pub control-is : (b : ℕ) → b < 256 → lead_of b ≡ L.Control → is_control b ≡ true
control-is b h e = is_true (is_control b) (rw e at (all-at (λ b. not (same (lead_of b) L.Control) || is_control b) 256 b controls h))
