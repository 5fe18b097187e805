-- The columns of a Set: one column put, and one step along their list.
use Prim.Native.Nat.{ℕ, ◌≤◌, ◌<◌}
use mathlib.Core.Path.{◌≡◌, refl}
use mathlib.Core.List.{List}
use mathlib.Core.Bool.{true}
use lib.ListN.{length, set}
use borrow.Author.Tests.{lt-ltb}
use Rattle.std.specs.Prelude.{Result, Ok, Err, MatchResult}
use Rattle.std.specs.Result.{result_and}
use Rattle.value.specs.Value.{int, bytes, Value, atom, list, named, Values, more}
use Rattle.value.specs.Read.{Out, ok, bad, then, values_at}
use Rattle.value.specs.Laws.{EndsBy}
use Rattle.value.proofs.Inside.{value-inside}
use Rattle.item.specs.declared.Slot.{Slot}
use Rattle.item.specs.declared.Item.{Item}
use Rattle.item.specs.declared.Item.TheVariants as I
use Rattle.item.specs.Item.{item_of, step_at}
use Rattle.item.proofs.Steps.{by-step}
use Rattle.params.specs.declared.Offence.{Offence}
use Rattle.params.specs.declared.Columns.{Columns}
use Rattle.params.specs.Names.{given}
use Rattle.params.specs.Columns.{column_count, column_at, free, put_column, put_item, unless_refused, put_items}
use Rattle.params.specs.Params.{no_columns}

-- ---- one column, with its index i
module _ (t : Columns) (i c : ℕ) (x : Slot) (e : i ≡ c) where
  pub put-new : i < column_count → free (column_at t i) ≡ true → put_column t c x ≡ Ok (record { rows = set t.rows i x })
  unfolding put_column
  put-new h k = rw (← e, lt-ltb i column_count h, k)

-- ---- the columns that t and the values o make
abbrev pub made : Result Columns Offence → Out Values → Result Columns Offence
made t o = given no_columns (put_items t) o

-- what a step at p says of them
abbrev Onward : List ℕ → ℕ → ℕ → Result Columns Offence → Result Columns Offence → Type 0
Onward s p q t u = (made t (values_at s 13 p) ≡ made u (values_at s 13 q)) × (p < q) × (q ≤ length s)

abbrev pub Walks : List ℕ → ℕ → Result Columns Offence → Item → Type 0
Walks s p t (I.Shut q) = made t (values_at s 13 p) ≡ t
Walks s p t (I.Plain x q) = Onward s p q t (unless_refused t (λ u. no_columns))
Walks s p t (I.Named n x q) = Onward s p q t (unless_refused t (λ u. put_column u n x))
Walks s p t I.Broken = made t (values_at s 13 p) ≡ no_columns

-- what `and_then` makes, and what `and` makes of an offence
pub put_next : (t r : Result Columns Offence) (f : Columns → Result Columns Offence) → MatchResult t (λ u. r ≡ f u) (λ e. r ≡ Err e) → r ≡ unless_refused t f
put_next (Ok u) r f h = h
put_next (Err e) r f h = h

pub put_broken : (t : Result Columns Offence) → result_and t no_columns ≡ unless_refused t (λ u. no_columns)
put_broken (Ok u) = refl
put_broken (Err e) = refl

made_more : (t : Result Columns Offence) (v : Value) (o : Out Values) → made t (then o (λ vs r. ok (more v vs) r)) ≡ made (unless_refused t (λ u. put_item u v)) o
unfolding given then put_items
made_more t v (ok vs r) = refl
made_more t v bad = refl

item-walks : (s : List ℕ) (p q : ℕ) (t : Result Columns Offence) (v : Value) → Onward s p q t (unless_refused t (λ u. put_item u v)) → Walks s p t (item_of v q)
unfolding item_of put_item
item-walks s p q t (atom a) h = h
item-walks s p q t (list b vs) h = h
item-walks s p q t (named (int n) v) h = h
item-walks s p q t (named (bytes b n) v) h = h

pub walks : (s : List ℕ) (p : ℕ) (t : Result Columns Offence) (i : Item) → i ≡ step_at s 13 p → Walks s p t i
unfolding given put_items
walks s p t i e = rw e (by-step (Walks s p t) s 13 p
    (λ q h. rw h)
    (λ v q k f.
    let a : EndsBy p (length s) (ok v q) = rw k at (value-inside s 13 p) in
    item-walks s p q t v (rw f (made_more t v (values_at s 13 q)), a.0, a.1))
    (λ h. rw h))
