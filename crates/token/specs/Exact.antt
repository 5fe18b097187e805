-- Exactly which bytes are which token, in document 01's figures and in both directions.
use Rattle.std.specs.Prelude.{ℕ, zero, suc, ◌+◌, ◌*◌, ◌^◌, ◌≤◌, ◌<◌, ◌≡◌, false, true, List, [], ◌∷◌, ◌++◌, ◌⊎◌, length, take, drop, get_or, replicate}
use Rattle.token.specs.declared.Lead.{Lead}
use Rattle.token.specs.declared.Lead.TheVariants as L
use Rattle.token.specs.declared.Token.{Token}
use Rattle.token.specs.declared.Token.TheVariants as K
use Rattle.token.specs.Token.{lead_of, token_at}

-- ---- the first byte, as 256 rows
-- one row for each length below n
abbrev pub lengths : (ℕ → Lead) → ℕ → List Lead
lengths f zero = []
lengths f (suc n) = lengths f n ++ (f n ∷ [])

abbrev pub first_bytes : List Lead
first_bytes =
    replicate 64 L.Tiny  -- 00-3F tiny atom, its own value
    ++ replicate 64 L.Broken  -- 40-7F
    ++ lengths (L.Short false) 16  -- 80-8F short, integer
    ++ replicate 16 L.Broken  -- 90-9F signed
    ++ lengths (L.Short true) 16  -- A0-AF short, bytes
    ++ replicate 16 L.Broken  -- B0-BF signed
    ++ lengths (L.Medium false) 8  -- C0-C7 medium, integer
    ++ replicate 8 L.Broken  -- C8-CF signed
    ++ lengths (L.Medium true) 8  -- D0-D7 medium, bytes
    ++ replicate 8 L.Broken  -- D8-DF signed
    ++ (L.Long false ∷ L.Broken ∷ L.Long true ∷ L.Broken ∷ [])  -- E0-E3 long, integer and bytes, each with its signed form
    ++ replicate 12 L.Broken  -- E4-EF
    ++ replicate 4 L.Control  -- F0 start list, F1 end list, F2 start name, F3 end name
    ++ replicate 4 L.Broken  -- F4-F7
    ++ replicate 5 L.Control  -- F8 call, F9 end of data, FA end of session, FB start transaction, FC end transaction
    ++ replicate 2 L.Broken  -- FD, FE
    ++ (L.Empty ∷ [])  -- FF

abbrev pub FirstByte : Type 0
FirstByte = (b : ℕ) → b < 256 → lead_of b ≡ get_or first_bytes b L.Broken

-- ---- what a token says
-- the number that bytes make, the first worth the most
unfoldable pub worth : List ℕ → ℕ
worth [] = 0
worth (b ∷ bs) = b * 256 ^ length bs + worth bs

pub data Word : Type 0 where
  int : ℕ → Word
  bytes : List ℕ → Word
  control : ℕ → Word

-- "An integer of 0 or more than 8 bytes is broken"
abbrev pub IntSize : List ℕ → Type 0
IntSize bs = (1 ≤ length bs) × (length bs ≤ 8)

-- the bytes of one token, and what it says
pub data Form : List ℕ → Word → Type 0 where
  tiny : (b : ℕ) → b < 0x40 → Form (b ∷ []) (int b)
  short_int : (bs : List ℕ) → IntSize bs → Form ((0x80 + length bs) ∷ bs) (int (worth bs))
  short_bytes : (bs : List ℕ) → length bs ≤ 15 → Form ((0xa0 + length bs) ∷ bs) (bytes bs)
  medium_int : (h x : ℕ) (bs : List ℕ) → h < 8 → length bs ≡ h * 256 + x → IntSize bs → Form ((0xc0 + h) ∷ x ∷ bs) (int (worth bs))
  medium_bytes : (h x : ℕ) (bs : List ℕ) → h < 8 → length bs ≡ h * 256 + x → Form ((0xd0 + h) ∷ x ∷ bs) (bytes bs)
  long_int : (x y z : ℕ) (bs : List ℕ) → length bs ≡ x * 65536 + y * 256 + z → IntSize bs → Form (0xe0 ∷ x ∷ y ∷ z ∷ bs) (int (worth bs))
  long_bytes : (x y z : ℕ) (bs : List ℕ) → length bs ≡ x * 65536 + y * 256 + z → Form (0xe2 ∷ x ∷ y ∷ z ∷ bs) (bytes bs)
  mark : (c : ℕ) → ((0xf0 ≤ c) × (c ≤ 0xf3)) ⊎ ((0xf8 ≤ c) × (c ≤ 0xfc)) → Form (c ∷ []) (control c)

-- the token t of s says w and ends at q
abbrev pub Reads : List ℕ → Word → ℕ → Token → Type 0
Reads s (int v) q t = t ≡ K.Int v q
Reads s (bytes bs) q t = (p : ℕ) × (t ≡ K.Bytes p (length bs) q) × (take (length bs) (drop p s) ≡ bs)
Reads s (control c) q t = t ≡ K.Control c q

-- from p on stand n empty tokens and then one that says w and ends at q
pub record Stands (s : List ℕ) (p : ℕ) (w : Word) (q : ℕ) : Type 0 where
  pub empties : ℕ
  pub token : List ℕ
  pub rest : List ℕ
  pub here : drop p s ≡ replicate empties 0xff ++ token ++ rest
  pub form : Form token w
  pub end : q ≡ p + empties + length token

-- what a token that was read says of the bytes from p on; broken is what is left
abbrev pub Stood : List ℕ → ℕ → Token → Type 0
Stood s p (K.Int v q) = Stands s p (int v) q
Stood s p (K.Bytes b n q) = Stands s p (bytes (take n (drop b s))) q × (b + n ≡ q)
Stood s p (K.Control c q) = Stands s p (control c) q
Stood s p K.End = (n : ℕ) × (drop p s ≡ replicate n 0xff)
Stood s p K.Broken = Unit {0}

pub record TokensAsSaid : Type 0 where
  -- what has the form of a token is read as what it says, whatever stands around it
  pub taken : (s : List ℕ) (p : ℕ) (w : Word) (q : ℕ) → Stands s p w q → Reads s w q (token_at s p)
  -- and nothing else is read
  pub only : (s : List ℕ) (p : ℕ) → ((i : ℕ) → get_or s i 0 < 256) → Stood s p (token_at s p)
  -- where nothing but empty tokens stands, nothing is read, and that is no broken token
  pub ends : (s : List ℕ) (p n : ℕ) → drop p s ≡ replicate n 0xff → token_at s p ≡ K.End
