-- Set: columns that are distinct are taken, each into its slot, and no other slot is filled.
use Prim.Native.Nat.{ℕ, zero, suc, ◌<◌}
use mathlib.Core.Path.{◌≡◌, refl, ◌∙◌, ap}
use lib.ListN.{length, get_or, set, replicate, length-set}
use lib.Seq.{get_or-set_same, get_or-set_other}
use native.Mathlib.Omega.{arith}
use Rattle.std.specs.Prelude.{Ok}
use Rattle.value.specs.Value.{int, bytes, Value, atom, list, named, Values, none, more}
use Rattle.item.specs.declared.Slot.TheVariants as S
use Rattle.item.specs.Item.{slot_of}
use Rattle.params.specs.declared.Columns.{Columns}
use Rattle.params.specs.Columns.{column_at, empty, free, put_item, put_items}
use Rattle.params.specs.Params.{columns_in, values_in, set_of}
use Rattle.params.specs.Exact as E
use Rattle.params.specs.Exact.{name, kept, Gives, Distinct, Lists, Holds}
use Rattle.params.proofs.Putting.{put-new}

same-slot : (v : Value) → slot_of v ≡ kept v
unfolding slot_of
same-slot (atom (int v)) = refl
same-slot (atom (bytes p n)) = refl
same-slot (list p vs) = refl
same-slot (named a v) = refl

all_alike : {A : Type 0} (n c : ℕ) (a : A) → get_or (replicate n a) c a ≡ a
all_alike zero c a = refl
all_alike (suc n) zero a = refl
all_alike (suc n) (suc c) a = all_alike n c a

pub no-gift : {A : Type 0} {c : ℕ} {v : Value} → Gives c v none → A
no-gift g = elim g [ ]

-- t with v for column c
abbrev pub with : Columns → ℕ → Value → Columns
with t c v = record { rows = set t.rows c (slot_of v) }

-- t can take vs: it has 20 slots, and those that vs gives are empty
pub record Ready (t : Columns) (vs : Values) : Type 0 where
  pub many : length t.rows ≡ 20
  pub empty : (c : ℕ) (v : Value) → Gives c v vs → column_at t c ≡ S.Absent

-- u is t with the columns of vs
pub record Filled (t : Columns) (vs : Values) (u : Columns) : Type 0 where
  pub many : length u.rows ≡ 20
  pub given : (c : ℕ) (v : Value) → Gives c v vs → column_at u c ≡ kept v
  pub others : (c : ℕ) → ((v : Value) → Gives c v vs → ⊥) → column_at u c ≡ column_at t c

module _ (t : Columns) (c : ℕ) (v : Value) where
  pub put-column : c < length t.rows → column_at (with t c v) c ≡ slot_of v
  put-column l = get_or-set_same t.rows c _ S.Absent l

  pub put_other : (d : ℕ) → (d ≡ c → ⊥) → column_at (with t c v) d ≡ column_at t d
  put_other d n = get_or-set_other t.rows c d _ S.Absent n

  put_item_lem : c < 20 → column_at t c ≡ S.Absent → put_item t (name c v) ≡ Ok (with t c v)
  unfolding put_item free
  put_item_lem l e = put-new t c c (slot_of v) refl l (ap free e)

  module _ (vs : Values) (l : c < 20) (once : (w : Value) → Gives c w vs → ⊥) (r : Ready t (more (name c v) vs)) where
    other : (d : ℕ) (w : Value) → Gives d w vs → d ≡ c → ⊥
    other d w g e = once w (rw e at g)

    ready-more : Ready (with t c v) vs
    ready-more = record {
      many = length-set t.rows c _ ∙ r.many;
      empty = λ d w g. put_other d (other d w g) ∙ r.empty d w (E.later _ _ g);
    }

    fill_more : (u : Columns) → Filled (with t c v) vs u → Filled t (more (name c v) vs) u
    fill_more u f = record {
      many = f.many;
      given = fill-given;
      others = λ d h. f.others d (λ w g. h w (E.later _ _ g)) ∙ put_other d (λ e. h v (rw e (E.here vs)));
    }
      where
        fill-given : (d : ℕ) (w : Value) → Gives d w (more (name c v) vs) → column_at u d ≡ kept w
        fill-given d w (E.here _) = f.others c once ∙ put-column (omega (arith, r.many)) ∙ same-slot v
        fill-given d w (E.later _ _ g) = f.given d w g

filled : (t : Columns) {vs : Values} → Distinct vs → Ready t vs → (u : Columns) × (put_items (Ok t) vs ≡ Ok u) × Filled t vs u
unfolding put_items
filled t E.empty r = (t, refl, record { many = r.many; given = λ c v g. no-gift g; others = λ c h. refl })
filled t (E.and c v vs l once d) r =
    let f = filled (with t c v) d (ready-more t c v vs l once r) in
    (f.0, rw (put_item_lem t c v l (r.empty c v (E.here vs))) f.1, fill_more t c v vs l once r f.0 f.2)

all_held : {ws : Values} → Distinct ws → (t : Columns) × (put_items (Ok empty) ws ≡ Ok t) × Holds ws t
all_held d =
    let none_yet : (c : ℕ) → column_at empty c ≡ S.Absent = λ c. all_alike 20 c S.Absent in
    let f = filled empty d (record { many = refl; empty = λ c _ _. none_yet c }) in
    (f.0, f.1, record { many = f.2.many; given = f.2.given; absent = λ c h. f.2.others c h ∙ none_yet c })

pub set_is : (vs ws : Values) → Lists vs ws → Distinct ws → (t : Columns) × (set_of vs ≡ Ok t) × Holds ws t
unfolding set_of values_in columns_in put_items
set_is _ _ E.left_out d = all_held d
set_is _ _ (E.values p ws) d = all_held d
