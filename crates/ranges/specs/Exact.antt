-- The media's verdict in document 01's words: "the first of these that applies".
use Rattle.std.specs.Prelude.{ℕ, ◌+◌, ◌≤◌, ◌<◌, ◌≡◌, Bool, true, false, List, length}
use Rattle.ranges.specs.declared.Row.{Row}
use Rattle.ranges.specs.declared.Mbr.{Mbr}
use Rattle.ranges.specs.declared.Verdict.{Verdict}
use Rattle.ranges.specs.declared.Verdict.TheVariants as W
use Rattle.ranges.specs.Row.{row_at}
use Rattle.ranges.specs.Fit.{Fit}
use Rattle.ranges.specs.Owner.{Owns}
use Rattle.ranges.specs.Media.{media_of}

-- "enabled and locked for that direction"
abbrev pub Barred : Row → Bool → Type 0
Barred r false = (r.read_enabled ≡ true) × (r.read_locked ≡ true)
Barred r true = (r.write_enabled ≡ true) × (r.write_locked ≡ true)

-- "Shadow on (Enable, not Done)"
abbrev pub On : Mbr → Type 0
On m = (m.enable ≡ true) × (m.done ≡ false)

-- "no touched sector's owner is enabled and locked for that direction"
abbrev pub Open : List Row → Bool → ℕ → ℕ → Type 0
Open rows write start count = (s o : ℕ) → start ≤ s → s < start + count → Owns rows s o → Barred (row_at rows o) write → ⊥

-- some touched sector's owner is
abbrev pub Locked : List Row → Bool → ℕ → ℕ → Type 0
Locked rows write start count = (s : ℕ) × (o : ℕ) × (start ≤ s) × (s < start + count) × Owns rows s o × Barred (row_at rows o) write

-- P, which gives v; or no P, and what follows
pub data First (P : Type 0) (v : Verdict) (rest : Verdict → Type 0) : Verdict → Type 0 where
  so : P → First P v rest v
  not_so : (w : Verdict) → (P → ⊥) → rest w → First P v rest w

abbrev pub Ruled : List Row → Mbr → Bool → ℕ → Bool → ℕ → ℕ → Verdict → Type 0
Ruled rows m active n write start count =
    -- "Start + count, as whole numbers, above N: refused"
    First (n < start + count) W.Refused
    -- "Count 0: disk"
    (First (count ≡ 0) W.Disk
    -- "Locking inactive: disk"
    (First (active ≡ false) W.Disk
    -- "Shadow on: a read wholly below sector 262,144 comes from the shadow"
    (First (On m × (write ≡ false) × (start + count ≤ 262144)) W.Shadow
    -- "a read partly below and a write touching it are refused"
    (First (On m × (start < 262144)) W.Refused
    -- "Otherwise disk exactly if no touched sector's owner is enabled and locked for that direction"
    (First (Open rows write start count) W.Disk
    -- "else refused"
    (λ v. (v ≡ W.Refused) × Locked rows write start count))))))

-- the verdict is the one that the chain gives, and the chain gives no other
pub record MediaAsSaid : Type 0 where
  pub rules : (rows : List Row) (m : Mbr) (active : Bool) (n : ℕ) (write : Bool) (start count : ℕ) → 1 ≤ length rows → Fit rows n
      → Ruled rows m active n write start count (media_of rows m active n write start count)
  pub only : (rows : List Row) (m : Mbr) (active : Bool) (n : ℕ) (write : Bool) (start count : ℕ) (v : Verdict) → 1 ≤ length rows → Fit rows n
      → Ruled rows m active n write start count v → media_of rows m active n write start count ≡ v
