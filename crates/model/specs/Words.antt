-- The access rows in document 01's words: who may have which column of which object, and which methods an object has.
use Rattle.std.specs.Prelude.{ℕ, ◌≤◌, ◌<◌, ◌≡◌, true, false, List, [], ◌∷◌, ◌≢◌, ◌⊎◌, get_or}
use Rattle.ranges.specs.Decides.{Decides}
use Rattle.model.specs.Types.{Session, Object}
use Rattle.model.specs.declared.Object.TheVariants as O
use Rattle.model.specs.Uids.{object_in}
use Rattle.model.specs.Access.{in_table, allowed, allowed_column}

-- one of these numbers
abbrev pub OneOf : ℕ → List ℕ → Type 0
OneOf c [] = ⊥
OneOf c (x ∷ l) = (c ≡ x) ⊎ OneOf c l

abbrev pub Proved : Session → ℕ → Type 0
Proved s r = get_or s.proved r false ≡ true

abbrev pub Sid : Session → Type 0
Sid s = Proved s 0

-- "Admins means any of Admin1-4 proved"
abbrev pub Admins : Session → Type 0
Admins s = (r : ℕ) × (1 ≤ r) × (r ≤ 4) × Proved s r

-- Get: these columns of an object may be told
abbrev pub MayGet : Session → Object → ℕ → Type 0
MayGet s O.PinSid c = Sid s × OneOf c (0 ∷ 5 ∷ 6 ∷ 7 ∷ [])
MayGet s O.PinMsid c = OneOf c (0 ∷ 3 ∷ [])
MayGet s O.TperInfo c = OneOf c (0 ∷ 8 ∷ [])
MayGet s O.SpAdmin c = OneOf c (0 ∷ 6 ∷ [])
MayGet s O.SpLocking c = OneOf c (0 ∷ 6 ∷ [])
MayGet s O.ThisSp c = ⊥
MayGet s (O.Authority r) c = Admins s × OneOf c (0 ∷ 5 ∷ [])
MayGet s (O.Pin r) c = Admins s × OneOf c (0 ∷ 5 ∷ 6 ∷ 7 ∷ [])
MayGet s (O.Range k) c = (c ≡ 0) ⊎ (Admins s × OneOf c (3 ∷ 4 ∷ 5 ∷ 6 ∷ 7 ∷ 8 ∷ 9 ∷ []))
MayGet s O.MbrControl c = OneOf c (0 ∷ 1 ∷ 2 ∷ 3 ∷ [])
MayGet s O.Nothing c = ⊥

-- Set: "not on Admin1", "a user's also by that user", "global 5-9"
abbrev pub MaySet : Session → Object → ℕ → Type 0
MaySet s O.PinSid c = Sid s × (c ≡ 3)
MaySet s O.PinMsid c = ⊥
MaySet s O.TperInfo c = Sid s × (c ≡ 8)
MaySet s O.SpAdmin c = ⊥
MaySet s O.SpLocking c = ⊥
MaySet s O.ThisSp c = ⊥
MaySet s (O.Authority r) c = (r ≢ 1) × Admins s × (c ≡ 5)
MaySet s (O.Pin r) c = (Admins s ⊎ ((4 < r) × Proved s r)) × (c ≡ 3)
MaySet s (O.Range k) c = Admins s × (((k ≢ 0) × OneOf c (3 ∷ 4 ∷ [])) ⊎ OneOf c (5 ∷ 6 ∷ 7 ∷ 8 ∷ 9 ∷ []))
MaySet s O.MbrControl c = Admins s × OneOf c (1 ∷ 2 ∷ 3 ∷ [])
MaySet s O.Nothing c = ⊥

-- the methods: 16 Get, 17 Set, 1C Authenticate, 11 RevertSP, 202 Revert, 203 Activate
abbrev pub Has : Session → Object → ℕ → Type 0
Has s O.PinSid m = OneOf m (0x16 ∷ 0x17 ∷ [])
Has s O.PinMsid m = m ≡ 0x16
Has s O.TperInfo m = OneOf m (0x16 ∷ 0x17 ∷ [])
Has s O.SpAdmin m = OneOf m (0x16 ∷ 0x202 ∷ [])
Has s O.SpLocking m = OneOf m (0x16 ∷ 0x202 ∷ 0x203 ∷ [])
Has s O.ThisSp m = (m ≡ 0x1c) ⊎ ((s.locking ≡ true) × (m ≡ 0x11))
Has s (O.Authority r) m = (m ≡ 0x16) ⊎ ((r ≢ 1) × (m ≡ 0x17))
Has s (O.Pin r) m = OneOf m (0x16 ∷ 0x17 ∷ [])
Has s (O.Range k) m = OneOf m (0x16 ∷ 0x17 ∷ [])
Has s O.MbrControl m = OneOf m (0x16 ∷ 0x17 ∷ [])
Has s O.Nothing m = ⊥

-- the table says the same, for what a UID names in the session's SP
pub record AccessAsSaid : Type 0 where
  pub pairs : (s : Session) (u m : ℕ) → Decides (in_table s (object_in s.locking u) m) (Has s (object_in s.locking u) m)
  pub gets : (s : Session) (u c : ℕ) → c < 20 → Decides (allowed_column s (object_in s.locking u) 0x16 c) (MayGet s (object_in s.locking u) c)
  pub sets : (s : Session) (u c : ℕ) → c < 20 → Decides (allowed_column s (object_in s.locking u) 0x17 c) (MaySet s (object_in s.locking u) c)
  pub activates : (s : Session) → s.locking ≡ false → Decides (allowed s O.SpLocking 0x203) (Sid s)
  pub reverts : (s : Session) → s.locking ≡ false → Decides (allowed s O.SpAdmin 0x202) (Sid s) × Decides (allowed s O.SpLocking 0x202) (Sid s)
  pub revert_sps : (s : Session) → s.locking ≡ true → Decides (allowed s O.ThisSp 0x11) (Admins s)
  -- "ThisSP: Authenticate Anybody", in both SPs
  pub authenticates : (s : Session) → Decides (allowed s O.ThisSp 0x1c) (Unit {0})
  -- and no column past 19
  pub past : (s : Session) (o : Object) (m c : ℕ) → 20 ≤ c → allowed_column s o m c ≡ false
