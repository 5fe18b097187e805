-- A Bool that decides a proposition: of two Bools that decide the same one, each is the other.
use Rattle.std.specs.Prelude.{ℕ, zero, suc, ◌≡◌, Bool, true, false, ◌&&◌}

pub record Decides (b : Bool) (P : Type 0) : Type 0 where
  pub holds : b ≡ true → P
  pub fails : b ≡ false → P → ⊥

-- a asks for b
abbrev pub imp : Bool → Bool → Bool
imp true b = b
imp false b = true

-- p at each number below n
unfoldable pub all : (ℕ → Bool) → ℕ → Bool
all p zero = true
all p (suc n) = p n && all p n
