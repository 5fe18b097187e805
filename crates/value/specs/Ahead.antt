-- How far a token reaches: what each source of tokens promises of them.
use Rattle.std.specs.Prelude.{ℕ, ◌≤◌, ◌<◌}
use Rattle.token.specs.declared.Token.{Token}
use Rattle.token.specs.declared.Token.TheVariants as K
use Rattle.value.specs.Value.{Atom, int, bytes}

-- nothing more
abbrev pub Any : {A : Type 0} → ℕ → ℕ → A → Type 0
Any p q a = Unit {0}

-- a token that is read at p ends past p and not past n, and P says more of its atom
abbrev pub Has : (ℕ → ℕ → Atom → Type 0) → ℕ → ℕ → Token → Type 0
Has P p n (K.Int v q) = (p < q) × (q ≤ n) × P p q (int v)
Has P p n (K.Bytes b m q) = (p < q) × (q ≤ n) × P p q (bytes b m)
Has P p n (K.Control c q) = (p < q) × (q ≤ n)
Has P p n K.End = Unit {0}
Has P p n K.Broken = Unit {0}

pub has-any : (P : ℕ → ℕ → Atom → Type 0) (p n : ℕ) (t : Token) → Has P p n t → Has Any p n t
has-any P p n (K.Int v q) h = (h.0, h.1, tt)
has-any P p n (K.Bytes b m q) h = (h.0, h.1, tt)
has-any P p n (K.Control c q) h = h
has-any P p n K.End h = tt
has-any P p n K.Broken h = tt
