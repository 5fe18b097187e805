-- Laws on the definitions of specs/ that several proofs cite.
use Prim.Native.Nat.{ℕ, zero, suc, ◌+◌, ◌*◌, ◌/◌, ◌^◌, ◌≤◌, ◌<◌}
use mathlib.Core.Path.{◌≡◌, refl}
use mathlib.Core.List.{List, [], ◌∷◌, ◌++◌}
use mathlib.Core.Bool.{Bool, true, false, ◌&&◌}
use lib.ListN.{length, take, drop, get_or, length-drop}
use lib.Seq.{take-suc, get_or-drop}
use native.Mathlib.Numerals.{add-one}
use lib.Dec.{lit<}
use mathlib.Core.Logic.{◌⊎◌}
use native.Mathlib.Nat.{lt_of_lt_of_le, pow-le-pow_right, pow-suc, div-lt_iff_lt-mul, div-add-mod'}
use native.Mathlib.Omega.{arith}
use borrow.Author.Tests.{le-leb, lt-leb}
use Rattle.std.proofs.Math.Bool.{and-false}
use Rattle.std.proofs.lemmas.Bool.{cases_lt}
use Rattle.token.specs.Bytes.{within, be_val, be_of}

pub inside : (lo hi b : ℕ) → lo ≤ b → b ≤ hi → within lo hi b ≡ true
unfolding within
inside lo hi b h k = simp (le-leb lo b h, le-leb b hi k)

pub below : (lo hi b : ℕ) → b < lo → within lo hi b ≡ false
unfolding within
below lo hi b h = simp (lt-leb lo b h)

pub and-f : (x : Bool) → (x && false) ≡ false
and-f x = and-false x

pub above : (lo hi b : ℕ) → hi < b → within lo hi b ≡ false
unfolding within
above lo hi b h = simp (lt-leb b hi h, and-f)

-- which of two numbers is less
pub lt-or-le : (x y : ℕ) → (x < y) ⊎ (y ≤ x)
lt-or-le x y = cases_lt x y

-- one more byte
pub be_val-snoc : (a : ℕ) (l : List ℕ) (b : ℕ) → be_val a (l ++ (b ∷ [])) ≡ be_val a l * 256 + b
unfolding be_val
be_val-snoc a [] b = refl
be_val-snoc a (x ∷ l) b = be_val-snoc (a * 256 + x) l b

-- the bytes of a number make it again
pub be-val : (n v : ℕ) → v < 256 ^ n → be_val 0 (be_of n v) ≡ v
unfolding be_of be_val
be-val zero v h = omega arith
be-val (suc n) v h =
    rw (be_val-snoc, be-val n (v / 256) ((div-lt_iff_lt-mul {k = 256} {x = v} {y = 256 ^ n} (lit< tt)).1 (rw pow-suc at h)))
    (div-add-mod' v 256)

pub be_val-more : (s : List ℕ) (at i v : ℕ) → at + i < length s → v ≡ be_val 0 (take i (drop at s)) → v * 256 + get_or s (at + i) 0 ≡ be_val 0 (take (i + 1) (drop at s))
be_val-more s at i v h e =
    let fits : i < length (drop at s) = simp length-drop (omega arith) in
    rw (add-one, take-suc (drop at s) i 0, be_val-snoc, ← e, get_or-drop)

-- a number of i bytes is one of m
pub room : (i m v : ℕ) → i ≤ m → v < 256 ^ i → v < 256 ^ m
room i m v h k = lt_of_lt_of_le k (pow-le-pow_right {n = 256} (lit< tt) {i = i} {j = m} h)

pub grows : (i v b : ℕ) → v < 256 ^ i → b < 256 → v * 256 + b < 256 ^ (i + 1)
grows i v b h k = rw add-one (omega (arith, pow-suc 256 i))
