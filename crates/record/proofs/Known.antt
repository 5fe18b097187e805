-- Who is known to the Locking SP, as the code asks it: every row but SID's.
use Prim.Native.Nat.{ℕ, zero, suc}
use mathlib.Core.Path.{◌≡◌, refl}
use mathlib.Core.Bool.{Bool, true, false, not}
use mathlib.Core.List.{List}
use native.Mathlib.Omega.{arith}
use borrow.Author.Tests.{le-leb}
use lib.ListN.{get_or}
use lib.Dec.{leb}
use Rattle.ranges.specs.Decides.{imp, all}
use Rattle.model.specs.Record.{pin_count}
use Rattle.model.specs.Sound.{known_to}
use Rattle.record.proofs.Every.{passed, failed}

imp-true : (a : Bool) {b : Bool} → b ≡ true → imp a b ≡ true
imp-true true e = e
imp-true false e = refl

sid-known : (l : List Bool) → get_or l 0 false ≡ false → (k : ℕ) → imp (get_or l k false) (leb 1 k) ≡ true
sid-known l e zero = rw e refl
sid-known l e (suc k) = imp-true (get_or l (suc k) false) (le-leb 1 (suc k) (omega arith))

pub known_locking : (l : List Bool) → not (get_or l 0 false) ≡ all (λ r. imp (get_or l r false) (known_to true r)) pin_count
known_locking l = go (get_or l 0 false) refl
  where
    go : (b : Bool) → get_or l 0 false ≡ b → not b ≡ all (λ r. imp (get_or l r false) (known_to true r)) pin_count
    go true e = failed _ pin_count 0 (omega arith) (rw e refl)
    go false e = passed _ pin_count pin_count (omega arith) (λ k m. sid-known l e k)
