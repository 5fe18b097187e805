-- The first byte as 256 rows, and the first byte again from what it says: two tests, computed at each byte.
use Prim.Native.Nat.{ℕ, ◌+◌, ◌≤◌, ◌<◌}
use mathlib.Core.Path.{◌≡◌}
use mathlib.Core.Bool.{Bool, true, false, ◌&&◌}
use mathlib.Core.Logic.{◌⊎◌}
use lib.ListN.{get_or}
use lib.Dec.{T, ltb, eqb, eqb→eq}
use borrow.Author.Tests.{ltb-true}
use Rattle.token.specs.declared.Lead.{Lead}
use Rattle.token.specs.declared.Lead.TheVariants as L
use Rattle.token.specs.Bytes.{within}
use Rattle.token.specs.Token.{lead_of, is_control}
use Rattle.token.specs.Exact.{first_bytes, FirstByte}
use Rattle.token.proofs.Leads.{same, same-is, both, all, all-at, is_true}
use Rattle.token.proofs.Round.{control-range}

rows : T (all (λ b. same (lead_of b) (get_or first_bytes b L.Broken)) 256)
unfolding lead_of within is_control
rows = tt

pub first_byte_lem : FirstByte
first_byte_lem b h = same-is (lead_of b) (get_or first_bytes b L.Broken) (all-at (λ b. same (lead_of b) (get_or first_bytes b L.Broken)) 256 b rows h)

-- ---- what b is, where it says so
abbrev pub Byte : ℕ → Lead → Type 0
Byte b L.Tiny = b < 0x40
Byte b (L.Short false n) = b ≡ 0x80 + n
Byte b (L.Short true n) = (b ≡ 0xa0 + n) × (n < 16)
Byte b (L.Medium false h) = (b ≡ 0xc0 + h) × (h < 8)
Byte b (L.Medium true h) = (b ≡ 0xd0 + h) × (h < 8)
Byte b (L.Long false) = b ≡ 0xe0
Byte b (L.Long true) = b ≡ 0xe2
Byte b L.Control = ((0xf0 ≤ b) × (b ≤ 0xf3)) ⊎ ((0xf8 ≤ b) × (b ≤ 0xfc))
Byte b L.Empty = b ≡ 0xff
Byte b L.Broken = Unit {0}

abbrev fits : ℕ → Lead → Bool
fits b L.Tiny = ltb b 0x40
fits b (L.Short false n) = eqb b (0x80 + n)
fits b (L.Short true n) = eqb b (0xa0 + n) && ltb n 16
fits b (L.Medium false h) = eqb b (0xc0 + h) && ltb h 8
fits b (L.Medium true h) = eqb b (0xd0 + h) && ltb h 8
fits b (L.Long false) = eqb b 0xe0
fits b (L.Long true) = eqb b 0xe2
fits b L.Control = is_control b
fits b L.Empty = eqb b 0xff
fits b L.Broken = true

rows_back : T (all (λ b. fits b (lead_of b)) 256)
unfolding lead_of within is_control
rows_back = tt

byte-and-less : (b c n m : ℕ) → T (eqb b c && ltb n m) → (b ≡ c) × (n < m)
byte-and-less b c n m h = let k = both (eqb b c) (ltb n m) h in (eqb→eq b c k.0, ltb-true n m (is_true (ltb n m) k.1))

fit : (b : ℕ) (k : Lead) → T (fits b k) → Byte b k
fit b L.Tiny h = ltb-true b 0x40 (is_true (ltb b 0x40) h)
fit b (L.Short false n) h = eqb→eq b (0x80 + n) h
fit b (L.Short true n) h = byte-and-less b (0xa0 + n) n 16 h
fit b (L.Medium false n) h = byte-and-less b (0xc0 + n) n 8 h
fit b (L.Medium true n) h = byte-and-less b (0xd0 + n) n 8 h
fit b (L.Long false) h = eqb→eq b 0xe0 h
fit b (L.Long true) h = eqb→eq b 0xe2 h
fit b L.Control h = control-range b (is_true (is_control b) h)
fit b L.Empty h = eqb→eq b 0xff h
fit b L.Broken h = tt

pub byte_of : (b : ℕ) → b < 256 → Byte b (lead_of b)
byte_of b h = fit b (lead_of b) (all-at (λ b. fits b (lead_of b)) 256 b rows_back h)
