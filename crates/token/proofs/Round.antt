-- What is written is read back: the token where an integer, bytes or a control token stands.
use Prim.Native.Nat.{ℕ, suc, ◌+◌, ◌-◌, ◌*◌, ◌/◌, ◌%◌, ◌^◌, ◌≤◌, ◌<◌}
use mathlib.Core.Path.{◌≡◌, refl, sym, ◌∙◌}
use mathlib.Core.List.{List, ◌∷◌, ◌++◌, append_assoc}
use mathlib.Core.Bool.{Bool, true, false, ◌&&◌, ◌||◌}
use mathlib.Core.Logic.{◌⊎◌, inl, inr, ⊎_elim}
use native.Mathlib.Omega.{arith}
use native.Mathlib.Nat.{div-lt_iff_lt-mul, div-add-mod', div-div-eq-div-mul}
use lib.ListN.{length, take, drop, length-append}
use lib.Seq.{take_at, drop-drop, drop-append_seam}
use lib.Dec.{leb, lit<, lit≤}
use borrow.Author.Tests.{leb-true}
use Rattle.std.proofs.lemmas.Bool.{false_from_ne_true}
use Rattle.token.specs.declared.Lead.TheVariants as L
use Rattle.token.specs.declared.Token.TheVariants as K
use Rattle.token.specs.Bytes.{within, be_of}
use Rattle.token.specs.Token.{is_control, lead_of, atom_of, medium_of, long_of, form_of, token_of}
use Rattle.token.specs.Write.{size_of, enc_int, head_of, enc_bytes}
use Rattle.token.proofs.Laws.{lt-or-le, be-val}
use Rattle.token.proofs.Leads.{tiny, short_int, short_bytes, medium_bytes, long_bytes, control-low, control-high, control-is}
use Rattle.token.proofs.Tokens.{atom-int, atom-bytes}
use Rattle.token.proofs.Writes.{be-length}
use Rattle.token.proofs.Forms.{enc-tiny, enc-short, sized, head-one, head-two, head-four}

-- ---- numbers
long-size : (n : ℕ) → n / 65536 * 65536 + n / 256 % 256 * 256 + n % 256 ≡ n
long-size n =
    let a = div-add-mod' n 256 in
    let b = div-add-mod' (n / 256) 256 in
    let c : n / 65536 ≡ n / 256 / 256 = sym (div-div-eq-div-mul n 256 256) in
    omega arith

-- ---- the token at the head of a list, by what its first byte says
module _ (p b : ℕ) (r : List ℕ) where
  pub is-tiny : lead_of b ≡ L.Tiny → token_of p (b ∷ r) ≡ K.Int b (p + 1)
  unfolding token_of form_of
  is-tiny e = rw e

  pub is-short : (k : Bool) (n : ℕ) → lead_of b ≡ L.Short k n → token_of p (b ∷ r) ≡ atom_of k n (p + 1) r
  unfolding token_of form_of
  is-short k n e = rw e

  pub is_control_lem : lead_of b ≡ L.Control → token_of p (b ∷ r) ≡ K.Control b (p + 1)
  unfolding token_of form_of
  is_control_lem e = rw e

  pub is-medium : (k : Bool) (h x : ℕ) → lead_of b ≡ L.Medium k h → token_of p (b ∷ x ∷ r) ≡ atom_of k (h * 256 + x) (p + 1 + 1) r
  unfolding token_of form_of medium_of
  is-medium k h x e = rw e

  pub is-long : (k : Bool) (x y z : ℕ) → lead_of b ≡ L.Long k → token_of p (b ∷ x ∷ y ∷ z ∷ r) ≡ atom_of k (x * 65536 + y * 256 + z) (p + 1 + 3) r
  unfolding token_of form_of long_of
  is-long k x y z e = rw e

-- ---- an integer
pub read_int : (v p : ℕ) (r : List ℕ) → v < 2 ^ 64 → token_of p (enc_int v ++ r) ≡ K.Int v (p + length (enc_int v))
read_int v p r h = ⊎_elim
    (λ (k : v < 64). rw (enc-tiny v k) (is-tiny p v r (tiny v (omega arith) (omega arith))))
    (λ (k : 64 ≤ v). rw (enc-short v k) (many (size_of v) (sized v).0 (sized v).1 ((sized v).2 h)))
    (lt-or-le v 64)
  where
    many : (n : ℕ) → 1 ≤ n → n ≤ 8 → v < 256 ^ n → token_of p ((0x80 + n) ∷ (be_of n v ++ r)) ≡ K.Int v (p + suc (length (be_of n v)))
    many n l u z =
        let w : 0x80 + n - 0x80 ≡ n = omega arith in
        let q : p + 1 + n ≡ p + suc (length (be_of n v)) = omega (arith, be-length n v) in
        is-short p (0x80 + n) (be_of n v ++ r) false n (rw w at (short_int (0x80 + n) (omega arith) (omega arith)))
        ∙ atom-int n (p + 1) (be_of n v ++ r) (omega (arith, length-append (be_of n v) r, be-length n v)) l u
        ∙ rw (take_at (be_of n v) r n (be-length n v), be-val n v z, q)

-- ---- bytes: what stands before them says how many there are
read_head : (n p : ℕ) (r : List ℕ) → token_of p (head_of n ++ r) ≡ atom_of true n (p + length (head_of n)) r
read_head n p r = ⊎_elim
    (λ (k : n < 16). rw (head-one n k) (one k))
    (λ (k : 16 ≤ n). ⊎_elim (λ (l : n < 2048). rw (head-two n k l) (two l)) (λ (l : 2048 ≤ n). rw (head-four n l) four) (lt-or-le n 2048))
    (lt-or-le n 16)
  where
    one : n < 16 → token_of p ((0xa0 + n) ∷ r) ≡ atom_of true n (p + 1) r
    one k =
        let w : 0xa0 + n - 0xa0 ≡ n = omega arith in
        is-short p (0xa0 + n) r true n (rw w at (short_bytes (0xa0 + n) (omega arith) (omega arith)))

    two : n < 2048 → token_of p ((0xd0 + n / 256) ∷ (n % 256) ∷ r) ≡ atom_of true n (p + 2) r
    two k =
        let f : n / 256 < 8 = (div-lt_iff_lt-mul {k = 256} {x = n} {y = 8} (lit< tt)).1 k in
        let w : 0xd0 + n / 256 - 0xd0 ≡ n / 256 = omega arith in
        let q : p + 1 + 1 ≡ p + 2 = omega arith in
        is-medium p (0xd0 + n / 256) r true (n / 256) (n % 256) (rw w at (medium_bytes (0xd0 + n / 256) (omega arith) (omega arith)))
        ∙ rw (div-add-mod' n 256, q)

    four : token_of p (0xe2 ∷ (n / 65536) ∷ (n / 256 % 256) ∷ (n % 256) ∷ r) ≡ atom_of true n (p + 4) r
    four =
        let q : p + 1 + 3 ≡ p + 4 = omega arith in
        is-long p 0xe2 r true (n / 65536) (n / 256 % 256) (n % 256) (long_bytes 0xe2 (lit≤ tt) (lit≤ tt)) ∙ rw (long-size n, q)

pub read-bytes : (bs : List ℕ) (p : ℕ) (r : List ℕ) → token_of p (enc_bytes bs ++ r) ≡ K.Bytes (p + length (head_of (length bs))) (length bs) (p + length (enc_bytes bs))
unfolding enc_bytes
read-bytes bs p r =
    let h : ℕ = length (head_of (length bs)) in
    let q : p + h + length bs ≡ p + length (head_of (length bs) ++ bs) = simp length-append (omega arith) in
    rw append_assoc
    (read_head (length bs) p (bs ++ r) ∙ atom-bytes (length bs) (p + h) (bs ++ r) (omega (arith, length-append bs r)) ∙ rw q)

-- ---- a control token
pub range : (lo hi b : ℕ) → within lo hi b ≡ true → (lo ≤ b) × (b ≤ hi)
unfolding within
range lo hi b = go (leb lo b) (leb b hi) refl refl
  where
    go : (t u : Bool) → leb lo b ≡ t → leb b hi ≡ u → (t && u) ≡ true → (lo ≤ b) × (b ≤ hi)
    go true true d e h = (leb-true lo b d, leb-true b hi e)
    go true false d e h = absurd (let z : ◌≡◌ {A = Bool} false true = h in let y : ◌≡◌ {A = ℕ} 0 1 = cc in omega arith)
    go false u d e h = absurd (let z : ◌≡◌ {A = Bool} false true = h in let y : ◌≡◌ {A = ℕ} 0 1 = cc in omega arith)

-- which control tokens there are
pub control-range : (b : ℕ) → is_control b ≡ true → ((0xf0 ≤ b) × (b ≤ 0xf3)) ⊎ ((0xf8 ≤ b) × (b ≤ 0xfc))
unfolding is_control
control-range b = go (within 0xf0 0xf3 b) refl
  where
    go : (t : Bool) → within 0xf0 0xf3 b ≡ t → (t || within 0xf8 0xfc b) ≡ true → ((0xf0 ≤ b) × (b ≤ 0xf3)) ⊎ ((0xf8 ≤ b) × (b ≤ 0xfc))
    go true e h = inl (range 0xf0 0xf3 b e)
    go false e h = inr (range 0xf8 0xfc b h)

pub range-control : (b : ℕ) → ((0xf0 ≤ b) × (b ≤ 0xf3)) ⊎ ((0xf8 ≤ b) × (b ≤ 0xfc)) → lead_of b ≡ L.Control
range-control b (inl h) = control-low b h.0 h.1
range-control b (inr h) = control-high b h.0 h.1

pub lead-control : (b : ℕ) → is_control b ≡ true → lead_of b ≡ L.Control
lead-control b h = range-control b (control-range b h)

pub not-control : (b : ℕ) → (lead_of b ≡ L.Control → ⊥) → is_control b ≡ false
not-control b h = false_from_ne_true (is_control b) (λ e. h (lead-control b e))

-- which codes are control tokens
pub ruleset marks = (control-is, lead-control)

pub read-control : (b p : ℕ) (r : List ℕ) → is_control b ≡ true → token_of p (b ∷ r) ≡ K.Control b (p + 1)
read-control b p r h = is_control_lem p b r (lead-control b h)

-- ---- at a place of the input
pub here : (a x b : List ℕ) → drop (length a) (a ++ x ++ b) ≡ x ++ b
here a x b = rw append_assoc (drop-append_seam a (x ++ b))

pub bytes-there : (a b bs : List ℕ) → take (length bs) (drop (length a + length (head_of (length bs))) (a ++ enc_bytes bs ++ b)) ≡ bs
unfolding enc_bytes
bytes-there a b bs =
    let h : List ℕ = head_of (length bs) in
    rw (← drop-drop (length h) (length a) (a ++ (h ++ bs) ++ b), here a (h ++ bs) b, append_assoc h bs b, drop-append_seam h (bs ++ b))
    (take_at bs b (length bs) refl)
