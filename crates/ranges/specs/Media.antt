-- The media question: "its verdict is the first of these that applies".
use Rattle.std.specs.Prelude.{ℕ, ◌+◌, Bool, not, ◌&&◌, cond, List, leb, ltb, eqb}
use Rattle.ranges.specs.declared.Row.{Row}
use Rattle.ranges.specs.declared.Mbr.{Mbr}
use Rattle.ranges.specs.declared.Verdict.{Verdict}
use Rattle.ranges.specs.declared.Verdict.TheVariants as W
use Rattle.ranges.specs.Decides.{all}
use Rattle.ranges.specs.Row.{row_at}
use Rattle.ranges.specs.Owner.{owner_of}

-- the first sector past the shadow
abbrev pub shadow_end : ℕ
shadow_end = 262144

-- enabled and locked for the direction
unfoldable pub barred_b : Row → Bool → Bool
barred_b r write = cond write (r.write_enabled && r.write_locked) (r.read_enabled && r.read_locked)

-- no touched sector's owner is enabled and locked for the direction
unfoldable pub clear_b : List Row → Bool → ℕ → ℕ → Bool
clear_b rows write start count = all (λ i. not (barred_b (row_at rows (owner_of rows (start + i))) write)) count

-- the shadow is on and the transfer touches it
abbrev pub shadowed : Mbr → ℕ → Bool
shadowed m start = m.enable && (not m.done && ltb start shadow_end)

-- a read wholly below the border comes from the shadow, any other transfer that touches it is refused
unfoldable pub shadow_of : Bool → ℕ → ℕ → Verdict
shadow_of write start count = cond (not write && leb (start + count) shadow_end) W.Shadow W.Refused

unfoldable pub media_of : List Row → Mbr → Bool → ℕ → Bool → ℕ → ℕ → Verdict
media_of rows m active n write start count =
    cond (ltb n (start + count)) W.Refused
    (cond (eqb count 0) W.Disk
    (cond (not active) W.Disk
    (cond (shadowed m start) (shadow_of write start count)
    (cond (clear_b rows write start count) W.Disk
    W.Refused))))
