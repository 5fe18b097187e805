-- Set: what is taken is a list of distinct columns.
use Prim.Native.Nat.{ℕ, ◌<◌}
use mathlib.Core.Path.{◌≡◌, refl, sym, ◌∙◌, ap}
use mathlib.Core.Bool.{Bool, true, false, cond, true≢false}
use lib.ListN.{length, length-set}
use lib.Dec.{ltb, eqb}
use native.Mathlib.Omega.{arith}
use borrow.Author.Tests.{ltb-true, eqb-true}
use Rattle.std.specs.Prelude.{Result, Ok, Err, IfOk}
use Rattle.value.specs.Value.{int, bytes, Value, atom, list, named, Values, none, more}
use Rattle.item.specs.declared.Slot.{Slot}
use Rattle.item.specs.declared.Slot.TheVariants as S
use Rattle.item.specs.Item.{slot_of}
use Rattle.params.specs.declared.Offence.{Offence}
use Rattle.params.specs.declared.Offence.TheVariants as O
use Rattle.params.specs.declared.Columns.{Columns}
use Rattle.params.specs.Columns.{column_at, empty, free, put_column, put_item, put_items}
use Rattle.params.specs.Params.{no_columns, columns_in, values_in, set_of}
use Rattle.params.specs.Exact as E
use Rattle.params.specs.Exact.{name, one, Gives, Distinct, Lists}
use Rattle.params.proofs.ExactSet.{no-gift, with, Ready, put-column, put_other}

-- a slot that holds a value is not free
full : (v : Value) → free (slot_of v) ≡ false
unfolding free slot_of
full (atom (int v)) = refl
full (atom (bytes p n)) = refl
full (list p vs) = refl
full (named a v) = refl

-- what `put_item` takes
data Put (t : Columns) : Value → Columns → Type 0 where
  put : (c : ℕ) (v : Value) → c < 20 → column_at t c ≡ S.Absent → Put t (name c v) (with t c v)

is_free : (x : Slot) → free x ≡ true → x ≡ S.Absent
unfolding free
is_free S.Absent e = refl
is_free (S.Int v) e = absurd cc
is_free (S.Bytes p n) e = absurd cc
is_free (S.List p) e = absurd cc
is_free S.Named e = absurd cc

column-put : (t : Columns) (c : ℕ) (v : Value) (a b : Bool) → ltb c 20 ≡ a → free (column_at t c) ≡ b
    → IfOk (cond a (cond b (Ok (with t c v)) (Err O.Repeated)) (Err O.Unknown)) (Put t (name c v))
column-put t c v true true l f = put c v (ltb-true c 20 l) (is_free _ f)
column-put t c v true false l f = tt
column-put t c v false b l f = tt

item-put : (t : Columns) (v : Value) → IfOk (put_item t v) (Put t v)
unfolding put_item put_column
item-put t (atom a) = tt
item-put t (list p vs) = tt
item-put t (named (int c) v) = column-put t c v _ _ refl refl
item-put t (named (bytes p n) v) = tt

-- once a column has offended it stays so
stays : (e : Offence) (vs : Values) → put_items (Err e) vs ≡ Err e
unfolding put_items
stays e none = refl
stays e (more v vs) = stays e vs

-- what the others find empty was so before, and so was the slot of the first
empty-before : (t : Columns) (c : ℕ) (v : Value) (vs : Values) → column_at t c ≡ S.Absent → ((w : Value) → Gives c w vs → ⊥)
    → ((d : ℕ) (w : Value) → Gives d w vs → column_at (with t c v) d ≡ S.Absent)
    → (d : ℕ) (w : Value) → Gives d w (more (name c v) vs) → column_at t d ≡ S.Absent
empty-before t c v vs a once h d w (E.here _) = a
empty-before t c v vs a once h d w (E.later _ _ g) = sym (put_other t c v d (λ e. once w (rw e at g))) ∙ h d w g

-- one value before others that are distinct
distinct_more : {t u : Columns} {v : Value} (vs : Values) → Put t v u → length t.rows ≡ 20
    → (length u.rows ≡ 20 → Distinct vs × Ready u vs) → Distinct (more v vs) × Ready t (more v vs)
unfolding free
distinct_more {t} vs (put c v l a) m f =
    let d = f (length-set t.rows c _ ∙ m) in
    let once : (w : Value) → Gives c w vs → ⊥ = λ w h.
    true≢false (sym (ap free (d.1.empty c w h)) ∙ ap free (put-column t c v (omega arith)) ∙ full v) in
    (E.and c v vs l once d.0, record { many = m; empty = empty-before t c v vs a once d.1.empty })

distinct_next : {t : Columns} {v : Value} (vs : Values) (u : Columns) (r : Result Columns Offence) → IfOk r (Put t v) → length t.rows ≡ 20 → put_items r vs ≡ Ok u
    → ((w : Columns) → length w.rows ≡ 20 → put_items (Ok w) vs ≡ Ok u → Distinct vs × Ready w vs) → Distinct (more v vs) × Ready t (more v vs)
distinct_next vs u (Ok w) p m e f = distinct_more vs p m (λ k. f w k e)
distinct_next vs u (Err o) p m e f = absurd (cc (stays o vs))

distinct_of : (t : Columns) (vs : Values) (u : Columns) → length t.rows ≡ 20 → put_items (Ok t) vs ≡ Ok u → Distinct vs × Ready t vs
unfolding put_items
distinct_of t none u m e = (E.empty, record { many = m; empty = λ c v g. no-gift g })
distinct_of t (more v vs) u m e = distinct_next vs u (put_item t v) (item-put t v) m e (λ w k h. distinct_of w vs u k h)

values-only : (n : ℕ) (v : Value) (t : Columns) (b : Bool) → eqb n 1 ≡ b → cond b (columns_in v) no_columns ≡ Ok t → (ws : Values) × Lists (one (name n v)) ws × Distinct ws
unfolding columns_in
values-only n (atom a) t true h e = absurd cc
values-only n (list p vs) t true h e = (vs, rw (eqb-true n 1 h) (E.values p vs), (distinct_of empty vs t refl e).0)
values-only n (named a v) t true h e = absurd cc
values-only n v t false h e = absurd cc

pub set_only : (vs : Values) (t : Columns) → set_of vs ≡ Ok t → (ws : Values) × Lists vs ws × Distinct ws
unfolding set_of values_in
set_only none t e = (none, E.left_out, E.empty)
set_only (more (atom a) none) t e = absurd cc
set_only (more (list p vs) none) t e = absurd cc
set_only (more (named (int n) v) none) t e = values-only n v t (eqb n 1) refl e
set_only (more (named (bytes p n) v) none) t e = absurd cc
set_only (more v (more w vs)) t e = absurd cc
