-- `number_at` where the bytes are there, and where they are not.
use Prim.Native.Nat.{ℕ, ◌+◌, ◌≤◌, ◌<◌}
use mathlib.Core.Path.{◌≡◌}
use mathlib.Core.List.{List}
use lib.ListN.{length, take, drop}
use borrow.Author.Tests.{le-leb, lt-leb}
use Rattle.token.specs.Bytes.{be_val, number_at}
use Rattle.token.proofs.Laws.{and-f}

module _ (s : List ℕ) (at n : ℕ) where
  pub number-there : n ≤ 8 → at + n ≤ length s → number_at s at n ≡ be_val 0 (take n (drop at s))
  unfolding number_at
  number-there h k = simp (le-leb n 8 h, le-leb (at + n) (length s) k)

  pub number_short : length s < at + n → number_at s at n ≡ 0
  unfolding number_at
  number_short h = simp (lt-leb (at + n) (length s) h, and-f)
