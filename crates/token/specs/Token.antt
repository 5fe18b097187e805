-- What stands at a place of the input: the token, its value or its place, and where the next one starts.
use Rattle.std.specs.Prelude.{ℕ, ◌+◌, ◌*◌, ◌/◌, ◌%◌, List, [], ◌∷◌, Bool, true, false, ◌&&◌, ◌||◌, cond, length, take, drop, leb, eqb}
use Rattle.token.specs.declared.Lead.{Lead}
use Rattle.token.specs.declared.Lead.TheVariants as L
use Rattle.token.specs.declared.Token.{Token}
use Rattle.token.specs.declared.Token.TheVariants as K
use Rattle.token.specs.Bytes.{within, be_val}

-- the bit of b that has the weight k
abbrev pub bit : ℕ → ℕ → Bool
bit k b = eqb (b / k % 2) 1

-- F0 start list, F1 end list, F2 start name, F3 end name, F8 call, F9 end of data, FA end of session, FB start transaction, FC end transaction
unfoldable pub is_control : ℕ → Bool
is_control b = within 0xf0 0xf3 b || within 0xf8 0xfc b

-- "The first byte decides by ranges": 10BSnnnn, 110BSnnn, 111000BS; B set means bytes, "S must be 0"
unfoldable pub lead_of : ℕ → Lead
lead_of b =
    cond (within 0x00 0x3f b) L.Tiny
    (cond (within 0x80 0xbf b) (cond (bit 16 b) L.Broken (L.Short (bit 32 b) (b % 16)))
    (cond (within 0xc0 0xdf b) (cond (bit 8 b) L.Broken (L.Medium (bit 16 b) (b % 8)))
    (cond (within 0xe0 0xe3 b) (cond (bit 1 b) L.Broken (L.Long (bit 2 b)))
    (cond (is_control b) L.Control
    (cond (eqb b 0xff) L.Empty
    L.Broken)))))

-- the atom of n bytes at the head of l, which starts at p: "an integer of 0 or more than 8 bytes is broken"
unfoldable pub atom_of : Bool → ℕ → ℕ → List ℕ → Token
atom_of true n p l = cond (leb n (length l)) (K.Bytes p n (p + n)) K.Broken
atom_of false n p l = cond (within 1 8 n && leb n (length l)) (K.Int (be_val 0 (take n l)) (p + n)) K.Broken

-- one more length byte
unfoldable pub medium_of : Bool → ℕ → ℕ → List ℕ → Token
medium_of k h p [] = K.Broken
medium_of k h p (x ∷ l) = atom_of k (h * 256 + x) (p + 1) l

-- three length bytes
unfoldable pub long_of : Bool → ℕ → List ℕ → Token
long_of k p [] = K.Broken
long_of k p (x ∷ []) = K.Broken
long_of k p (x ∷ y ∷ []) = K.Broken
long_of k p (x ∷ y ∷ z ∷ l) = atom_of k (x * 65536 + y * 256 + z) (p + 3) l

-- by the first byte b, which says k: l is what follows it and starts at p, and t the token there
unfoldable pub form_of : Lead → ℕ → ℕ → List ℕ → Token → Token
form_of L.Tiny b p l t = K.Int b p
form_of (L.Short k n) b p l t = atom_of k n p l
form_of (L.Medium k h) b p l t = medium_of k h p l
form_of (L.Long k) b p l t = long_of k p l
form_of L.Control b p l t = K.Control b p
form_of L.Empty b p l t = t
form_of L.Broken b p l t = K.Broken

-- the token at the head of l, which starts at p: "FF is skipped"
unfoldable pub token_of : ℕ → List ℕ → Token
token_of p [] = K.End
token_of p (b ∷ l) = form_of (lead_of b) b (p + 1) l (token_of (p + 1) l)

-- the token at a place of s
abbrev pub token_at : List ℕ → ℕ → Token
token_at s at = token_of at (drop at s)
