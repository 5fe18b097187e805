-- A value as the row of its tokens, and where a row stands in a source of tokens.
use Prim.Native.Nat.{ℕ, zero, suc}
use mathlib.Core.Path.{◌≡◌, refl}
use mathlib.Core.List.{List, [], ◌∷◌, ◌++◌}
use Rattle.token.specs.declared.Token.{Token}
use Rattle.token.specs.declared.Token.TheVariants as K
use Rattle.value.specs.Value.{Atom, int, bytes, Value, atom, list, named, Values, none, more}

pub data Tok : Type 0 where
  leaf : Atom → Tok
  mark : ℕ → Tok

-- with the next one at q
abbrev pub atom_to : Atom → ℕ → Token
atom_to (int v) q = K.Int v q
atom_to (bytes p n) q = K.Bytes p n q

abbrev pub tok_to : Tok → ℕ → Token
tok_to (leaf a) q = atom_to a q
tok_to (mark c) q = K.Control c q

unfoldable mutual
  pub toks : Value → List Tok
  toks (atom a) = leaf a ∷ []
  toks (list p vs) = mark 0xf0 ∷ toks_all vs
  toks (named a v) = mark 0xf2 ∷ leaf a ∷ (toks v ++ (mark 0xf3 ∷ []))

  pub toks_all : Values → List Tok
  toks_all none = mark 0xf1 ∷ []
  toks_all (more v vs) = toks v ++ toks_all vs

-- lists and named values nest to d at most
abbrev mutual
  pub Nests : Value → ℕ → Type 0
  Nests (atom a) d = Unit {0}
  Nests (list p vs) zero = ⊥
  Nests (list p vs) (suc d) = AllNest vs d
  Nests (named a v) zero = ⊥
  Nests (named a v) (suc d) = Nests v d

  pub AllNest : Values → ℕ → Type 0
  AllNest none d = Unit {0}
  AllNest (more v vs) d = Nests v d × AllNest vs d

-- from p to q stand the tokens xs
abbrev pub Row : (ℕ → Token) → ℕ → List Tok → ℕ → Type 0
Row tok p [] q = p ≡ q
Row tok p (x ∷ xs) q = (r : ℕ) × (tok p ≡ tok_to x r) × Row tok r xs q

module _ (tok : ℕ → Token) where
  pub join : (p r q : ℕ) (xs ys : List Tok) → Row tok p xs r → Row tok r ys q → Row tok p (xs ++ ys) q
  join p r q [] ys e w = rw e w
  join p r q (x ∷ xs) ys u w = (u.0, u.1, join u.0 r q xs ys u.2 w)

  pub split : (p q : ℕ) (xs ys : List Tok) → Row tok p (xs ++ ys) q → (r : ℕ) × Row tok p xs r × Row tok r ys q
  split p q [] ys u = (p, refl, u)
  split p q (x ∷ xs) ys u = let h = split u.0 q xs ys u.2 in (h.0, (u.0, u.1, h.1), h.2)

-- a property of every token of a row
abbrev pub All : (Tok → Type 0) → List Tok → Type 0
All P [] = Unit {0}
All P (x ∷ xs) = P x × All P xs

module _ (P : Tok → Type 0) where
  pub all_join : (xs ys : List Tok) → All P xs → All P ys → All P (xs ++ ys)
  all_join [] ys h k = k
  all_join (x ∷ xs) ys h k = (h.0, all_join xs ys h.1 k)

  pub all_split : (xs ys : List Tok) → All P (xs ++ ys) → All P xs × All P ys
  all_split [] ys h = (tt, h)
  all_split (x ∷ xs) ys h = let k = all_split xs ys h.1 in ((h.0, k.0), k.1)

  pub row-all : (tok : ℕ → Token) → ((p r : ℕ) (x : Tok) → tok p ≡ tok_to x r → P x) → (p q : ℕ) (xs : List Tok) → Row tok p xs q → All P xs
  row-all tok f p q [] u = tt
  row-all tok f p q (x ∷ xs) u = (f p u.0 x u.1, row-all tok f u.0 q xs u.2)
