-- What a step says of the whole list.
use Rattle.std.specs.Prelude.{ℕ, ◌≡◌, List}
use Rattle.value.specs.Value.{Value, Values, none, more}
use Rattle.value.specs.Read.{Out, ok, bad, then, values_at}
use Rattle.item.specs.declared.Item.{Item}
use Rattle.item.specs.declared.Item.TheVariants as I
use Rattle.item.specs.Item.{item_of, step_at}

-- v and then the values at q
abbrev pub Follows : List ℕ → ℕ → Out Values → Value → ℕ → Type 0
Follows s d o v q = o ≡ then (values_at s d q) (λ vs r. ok (more v vs) r)

-- the values o of a list, by what the step i finds at their place
abbrev pub Found : List ℕ → ℕ → Out Values → Item → Type 0
Found s d o (I.Shut q) = o ≡ ok none q
Found s d o (I.Plain x q) = (v : Value) × (item_of v q ≡ I.Plain x q) × Follows s d o v q
Found s d o (I.Named n x q) = (v : Value) × (item_of v q ≡ I.Named n x q) × Follows s d o v q
Found s d o I.Broken = o ≡ bad

abbrev pub Step : Type 0
Step = (s : List ℕ) (d p : ℕ) → Found s d (values_at s d p) (step_at s d p)
