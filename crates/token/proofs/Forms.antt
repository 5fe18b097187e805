-- The writer's forms: which one a number or a length has, how long it is, and the stores that leave it.
use Prim.Native.Nat.{ℕ, suc, ◌+◌, ◌/◌, ◌%◌, ◌^◌, ◌≤◌, ◌<◌}
use mathlib.Core.Path.{◌≡◌}
use mathlib.Core.List.{List, [], ◌∷◌}
use native.Mathlib.Omega.{arith}
use lib.ListN.{length, length-append}
use lib.Dec.{ltb}
use mathlib.Core.Logic.{⊎_elim}
use borrow.Author.Tests.{lt-ltb, le-ltb, ltb-true, ltb-false}
use Rattle.token.specs.Bytes.{be_of, over}
use Rattle.token.specs.Write.{size_of, enc_int, head_of, enc_bytes}
use Rattle.token.proofs.Laws.{lt-or-le, room}
use Rattle.token.proofs.Writes.{cond-all, be-length, over-over}

-- ---- an integer: tiny or short
pub enc-tiny : (v : ℕ) → v < 64 → enc_int v ≡ v ∷ []
unfolding enc_int
enc-tiny v h = simp (lt-ltb v 64 h)

pub enc-short : (v : ℕ) → 64 ≤ v → enc_int v ≡ (0x80 + size_of v) ∷ be_of (size_of v) v
unfolding enc_int
enc-short v h = simp (le-ltb v 64 h)

pub tiny-length : (v : ℕ) → v < 64 → length (enc_int v) ≡ 1
tiny-length v h = rw (enc-tiny v h)

pub short-length : (v : ℕ) → 64 ≤ v → length (enc_int v) ≡ size_of v + 1
short-length v h = rw (enc-short v h) (omega (arith, be-length (size_of v) v))

-- how long each form of an integer is
pub ruleset int_lengths = (tiny-length, short-length)

-- and which it is
pub ruleset ints = (tiny-length, short-length, enc-tiny, enc-short)

-- the size is from 1 to 8, enough for a number of 64 bits, and never more than is needed
abbrev pub Sized : ℕ → ℕ → Type 0
Sized v k = (1 ≤ k) × (k ≤ 8) × (v < 2 ^ 64 → v < 256 ^ k) × ((n : ℕ) → 1 ≤ n → v < 256 ^ n → k ≤ n)

-- a number that m bytes do not hold has more than m of them
passed : (v m n : ℕ) → 256 ^ m ≤ v → v < 256 ^ n → m < n
passed v m n h k = ⊎_elim (λ (l : m < n). l) (λ (l : n ≤ m). absurd (omega (arith, room n m v l k))) (lt-or-le m n)

pub sized : (v : ℕ) → Sized v (size_of v)
unfolding size_of
sized v =
    cond-all (Sized v) (ltb v 0x100) 1 _ (λ e. (omega arith, omega arith, λ _. ltb-true v 0x100 e, λ n h k. h)) λ e₁.
    cond-all (Sized v) (ltb v 0x10000) 2 _ (λ e. at_size 1 (ltb-false v 0x100 e₁) (ltb-true v 0x10000 e) (omega arith)) λ e₂.
    cond-all (Sized v) (ltb v 0x1000000) 3 _ (λ e. at_size 2 (ltb-false v 0x10000 e₂) (ltb-true v 0x1000000 e) (omega arith)) λ e₃.
    cond-all (Sized v) (ltb v 0x100000000) 4 _ (λ e. at_size 3 (ltb-false v 0x1000000 e₃) (ltb-true v 0x100000000 e) (omega arith)) λ e₄.
    cond-all (Sized v) (ltb v 0x10000000000) 5 _ (λ e. at_size 4 (ltb-false v 0x100000000 e₄) (ltb-true v 0x10000000000 e) (omega arith)) λ e₅.
    cond-all (Sized v) (ltb v 0x1000000000000) 6 _ (λ e. at_size 5 (ltb-false v 0x10000000000 e₅) (ltb-true v 0x1000000000000 e) (omega arith)) λ e₆.
    cond-all (Sized v) (ltb v 0x100000000000000) 7 8 (λ e. at_size 6 (ltb-false v 0x1000000000000 e₆) (ltb-true v 0x100000000000000 e) (omega arith)) λ e₇.
    (omega arith, omega arith, λ h. h, λ n h k. passed v 7 n (ltb-false v 0x100000000000000 e₇) k)
  where
    at_size : (m : ℕ) → 256 ^ m ≤ v → v < 256 ^ suc m → m < 8 → Sized v (suc m)
    at_size m h k l = (omega arith, omega arith, λ _. k, λ n g j. passed v m n h j)

-- ---- what stands before n bytes: one, two or four of them
pub head-one : (n : ℕ) → n < 16 → head_of n ≡ (0xa0 + n) ∷ []
unfolding head_of
head-one n h = simp (lt-ltb n 16 h)

pub head-two : (n : ℕ) → 16 ≤ n → n < 2048 → head_of n ≡ (0xd0 + n / 256) ∷ (n % 256) ∷ []
unfolding head_of
head-two n h k = simp (le-ltb n 16 h, lt-ltb n 2048 k)

pub head-four : (n : ℕ) → 2048 ≤ n → head_of n ≡ 0xe2 ∷ (n / 65536) ∷ (n / 256 % 256) ∷ (n % 256) ∷ []
unfolding head_of
head-four n h = simp (le-ltb n 16 (omega arith), le-ltb n 2048 h)

pub len-one : (n : ℕ) → n < 16 → length (head_of n) ≡ 1
len-one n h = rw (head-one n h)

pub len-two : (n : ℕ) → 16 ≤ n → n < 2048 → length (head_of n) ≡ 2
len-two n h k = rw (head-two n h k)

pub len-four : (n : ℕ) → 2048 ≤ n → length (head_of n) ≡ 4
len-four n h = rw (head-four n h)

-- a length below 2048 needs no more than two bytes, and none needs more than four
pub head-some : (n : ℕ) → (0 < length (head_of n)) × (n < 2048 → length (head_of n) ≤ 2) × (length (head_of n) ≤ 4)
head-some n = ⊎_elim
    (λ (h : n < 16). let e = len-one n h in (omega arith, λ _. omega arith, omega arith))
    (λ (h : 16 ≤ n). ⊎_elim
    (λ (k : n < 2048). let e = len-two n h k in (omega arith, λ _. omega arith, omega arith))
    (λ (k : 2048 ≤ n). let e = len-four n k in (omega arith, λ (l : n < 2048). absurd (omega arith), omega arith))
    (lt-or-le n 2048))
    (lt-or-le n 16)

-- how many bytes stand before n bytes
pub ruleset head_lengths = (len-one, len-two, len-four)

-- and which
pub ruleset heads = (head-one, head-two, head-four, len-one, len-two, len-four)

-- ---- bytes behind what stands before them
pub bytes-length : (bs : List ℕ) → length (enc_bytes bs) ≡ length (head_of (length bs)) + length bs
unfolding enc_bytes
bytes-length bs = length-append (head_of (length bs)) bs

pub head-over : (d bs : List ℕ) (at k : ℕ) → k ≡ at + length (head_of (length bs)) → k ≤ length d → over (over d at (head_of (length bs))) k bs ≡ over d at (enc_bytes bs)
unfolding enc_bytes
head-over d bs at k e h = rw e (over-over d (head_of (length bs)) at (omega arith) bs)

-- a head and the bytes behind it
pub ruleset wholes = (bytes-length, head-over)
