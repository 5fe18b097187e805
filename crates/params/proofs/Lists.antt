-- Get and Set: the list that is their one parameter, read where it stands.
use Prim.Native.Nat.{ℕ}
use mathlib.Core.Path.{◌≡◌, refl, sym, ◌∙◌}
use mathlib.Core.List.{List}
use mathlib.Core.Bool.{Bool, true, false, cond}
use Rattle.token.proofs.Laws.{and-f}
use Rattle.std.specs.Prelude.{Option, None, Result, Ok}
use Rattle.value.specs.Value.{int, bytes, Value, atom, list, named, Values, none, more}
use Rattle.value.specs.Read.{Out, ok, bad, values_at}
use Rattle.item.specs.declared.Slot.{Slot}
use Rattle.item.specs.declared.Slot.TheVariants as S
use Rattle.item.specs.Item.{slot_of, step_at}
use Rattle.item.proofs.Read.{Inner, inside}
use Rattle.params.specs.declared.Offence.{Offence}
use Rattle.params.specs.declared.Columns.{Columns}
use Rattle.params.specs.declared.Block.{Block}
use Rattle.params.specs.declared.Taken.{Taken}
use Rattle.params.specs.Names.{names, inner, optional, beyond, nothing, given}
use Rattle.params.specs.Columns.{empty, free, put_items}
use Rattle.params.specs.Params.{no_columns, block_of, block_in, get_of, columns_in, values_in, set_of}
use Rattle.params.specs.Steps.{first_of, taken_of}
use Rattle.params.proofs.Taking.{First, Took, first-at, take_at, given-taken, given-last}

either_way : {A : Type 0} (b : Bool) (z : A) → cond b z z ≡ z
either_way true z = refl
either_way false z = refl

given-free : (x : Slot) → (x ≡ S.Absent → ⊥) → free x ≡ false
unfolding free
given-free S.Absent h = absurd (h refl)
given-free (S.Int v) h = refl
given-free (S.Bytes p n) h = refl
given-free (S.List p) h = refl
given-free S.Named h = refl

-- f of the place of a list
unfoldable listed : {A : Type 0} → (ℕ → A) → A → Slot → A
listed f z S.Absent = z
listed f z (S.Int v) = z
listed f z (S.Bytes p n) = z
listed f z (S.List p) = f p
listed f z S.Named = z

not_listed : {A : Type 0} (f : ℕ → A) (z : A) (x : Slot) → ((p : ℕ) → x ≡ S.List p → ⊥) → listed f z x ≡ z
unfolding listed
not_listed f z S.Absent h = refl
not_listed f z (S.Int v) h = refl
not_listed f z (S.Bytes p n) h = refl
not_listed f z (S.List p) h = absurd (h p refl)
not_listed f z S.Named h = refl

-- ---- a cell block, by the values of the list that it is
abbrev blocks : ℕ → Values → Option Block
blocks p vs = block_in (list p vs)

block-not : (x y : Slot) → block_of x y false ≡ None
unfolding block_of
block-not x y = simp and-f

pub cells_are : (s : List ℕ) (p : ℕ) {a b : Taken} {w : Bool} → a ≡ taken_of 3 p (step_at s 14 p) → b ≡ taken_of 4 a.next (step_at s 14 a.next) → w ≡ given false nothing (values_at s 14 b.next)
    → block_of a.slot b.slot w ≡ given None (λ vs. block_in (list p vs)) (values_at s 14 p)
unfolding block_in
cells_are s p {a} {b} {w} f g e =
    sym (given-taken None (λ x vs. block_of x (optional 4 vs) (nothing (beyond 4 vs))) s 14 3 a.slot (values_at s 14 p) (values_at s 14 a.next) (take_at s 14 3 p f)
    ∙ given-taken None (λ y vs. block_of a.slot y (nothing vs)) s 14 4 b.slot (values_at s 14 a.next) (values_at s 14 b.next) (take_at s 14 4 a.next g)
    ∙ given-last None (block_of a.slot b.slot) (values_at s 14 b.next) w (block-not a.slot b.slot) e)

-- ---- Get
abbrev block_at : List ℕ → ℕ → Option Block
block_at s p = given None (blocks p) (values_at s 14 p)

block_in_lem : (s : List ℕ) (v : Value) (q : ℕ) → Inner s 15 v q → block_in v ≡ listed (block_at s) None (slot_of v)
unfolding block_in listed slot_of given
block_in_lem s (atom (int n)) q i = refl
block_in_lem s (atom (bytes p n)) q i = refl
block_in_lem s (list p vs) q i = rw i
block_in_lem s (named a v) q i = refl

get-one : (v : Value) (vs : Values) → get_of (more v vs) ≡ cond (nothing vs) (block_in v) None
unfolding get_of nothing
get-one v none = refl
get-one v (more w vs) = refl

get-is : (s : List ℕ) (x : Slot) (o o' : Out Values) → First s 15 x o o' → cond (given false nothing o') (listed (block_at s) None x) None ≡ given None get_of o
unfolding given nothing get_of listed
get-is s x (ok none q) o' f = rw (f.0, f.1)
get-is s x (ok (more v vs) q) o' f = rw (f.0, f.1) (sym (get-one v vs ∙ rw (block_in_lem s v f.2.0 f.2.1)))
get-is s x bad o' f = rw f

module _ (s : List ℕ) (p : ℕ) {a : Taken} (f : a ≡ first_of p (step_at s 15 p)) where
  get_at : cond (given false nothing (values_at s 15 a.next)) (listed (block_at s) None a.slot) None ≡ given None get_of (values_at s 15 p)
  get_at = get-is s a.slot (values_at s 15 p) (values_at s 15 a.next) (first-at s 15 p f)

  pub get_list : (q : ℕ) → given false nothing (values_at s 15 a.next) ≡ true → a.slot ≡ S.List q → given None (blocks q) (values_at s 14 q) ≡ given None get_of (values_at s 15 p)
  unfolding listed
  get_list q h k = rw (h, k) at get_at

  pub get_other : ((q : ℕ) → a.slot ≡ S.List q → ⊥) → None ≡ given None get_of (values_at s 15 p)
  get_other k = rw (not_listed (block_at s) None a.slot k, either_way {A = Option Block} (given false nothing (values_at s 15 a.next)) None) at get_at

  pub get_more : given false nothing (values_at s 15 a.next) ≡ false → None ≡ given None get_of (values_at s 15 p)
  get_more h = rw h at get_at

-- ---- Set
abbrev columns_at : List ℕ → Slot → Result Columns Offence
columns_at s x = cond (free x) (Ok empty) (listed (λ p. given no_columns (put_items (Ok empty)) (values_at s 13 p)) no_columns x)

columns-in : (s : List ℕ) (v : Value) (q : ℕ) → Inner s 14 v q → columns_in v ≡ columns_at s (slot_of v)
unfolding columns_in listed slot_of given free
columns-in s (atom (int n)) q i = refl
columns-in s (atom (bytes p n)) q i = refl
columns-in s (list p vs) q i = rw i
columns-in s (named a v) q i = refl

values-in : (s : List ℕ) (v : Value) (q : ℕ) → names 1 v ≡ true → Inner s 15 v q → values_in v ≡ columns_at s (inner v)
unfolding names values_in inner
values-in s (atom a) q h i = absurd cc
values-in s (list p vs) q h i = absurd cc
values-in s (named (int n) v) q h i = rw h (columns-in s v i.1 (inside s 14 i.0 i.2))
values-in s (named (bytes p n) v) q h i = absurd cc

no-values : (v : Value) → names 1 v ≡ false → values_in v ≡ no_columns
unfolding names values_in
no-values (atom a) h = refl
no-values (list p vs) h = refl
no-values (named (int n) v) h = rw h
no-values (named (bytes p n) v) h = refl

set-one : (v : Value) (vs : Values) → set_of (more v vs) ≡ cond (nothing vs) (values_in v) no_columns
unfolding set_of nothing
set-one v none = refl
set-one v (more w vs) = refl

set_more : (s : List ℕ) (v : Value) (vs : Values) (q r : ℕ) (t : Bool) → names 1 v ≡ t → Inner s 15 v r
    → cond (nothing (cond t vs (more v vs))) (columns_at s (cond t (inner v) S.Absent)) no_columns ≡ set_of (more v vs)
unfolding nothing
set_more s v vs q r true h i = sym (set-one v vs ∙ rw (values-in s v r h i))
set_more s v vs q r false h i = sym (set-one v vs ∙ rw (no-values v h) (either_way (nothing vs) no_columns))

set_is : (s : List ℕ) (x : Slot) (o o' : Out Values) → Took s 15 1 x o o' → cond (given false nothing o') (columns_at s x) no_columns ≡ given no_columns set_of o
unfolding given nothing set_of free optional beyond
set_is s x (ok none q) o' f = rw (f.0, f.1)
set_is s x (ok (more v vs) q) o' f = rw (f.0, f.1) (set_more s v vs q f.2.0 (names 1 v) refl f.2.1)
set_is s x bad o' f = rw f

module _ (s : List ℕ) (p : ℕ) {a : Taken} (f : a ≡ taken_of 1 p (step_at s 15 p)) where
  set_at : cond (given false nothing (values_at s 15 a.next)) (columns_at s a.slot) no_columns ≡ given no_columns set_of (values_at s 15 p)
  set_at = set_is s a.slot (values_at s 15 p) (values_at s 15 a.next) (take_at s 15 1 p f)

  pub set_nothing : given false nothing (values_at s 15 a.next) ≡ true → a.slot ≡ S.Absent → Ok empty ≡ given no_columns set_of (values_at s 15 p)
  unfolding free
  set_nothing h k = rw (h, k) at set_at

  pub set_list : (q : ℕ) → given false nothing (values_at s 15 a.next) ≡ true → a.slot ≡ S.List q → given no_columns (put_items (Ok empty)) (values_at s 13 q) ≡ given no_columns set_of (values_at s 15 p)
  unfolding free listed
  set_list q h k = rw (h, k) at set_at

  pub set_other : (a.slot ≡ S.Absent → ⊥) → ((q : ℕ) → a.slot ≡ S.List q → ⊥) → no_columns ≡ given no_columns set_of (values_at s 15 p)
  set_other h k =
      rw (given-free a.slot h, not_listed (λ q. given no_columns (put_items (Ok empty)) (values_at s 13 q)) no_columns a.slot k, either_way (given false nothing (values_at s 15 a.next)) no_columns) at set_at

  pub set_beside : given false nothing (values_at s 15 a.next) ≡ false → no_columns ≡ given no_columns set_of (values_at s 15 p)
  set_beside h = rw h at set_at
