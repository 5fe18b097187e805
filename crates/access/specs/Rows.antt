-- Rows by their UIDs, and what the access rows say.
use Rattle.std.specs.Prelude.{ℕ, ◌+◌, ◌≡◌, ◌&&◌, ◌||◌, cond}
use Rattle.std.specs.Int.Bits.{bit_or}
use Rattle.model.specs.declared.Access.{Access}
use Rattle.model.specs.declared.Object.{Object}
use Rattle.model.specs.declared.Session.{Session}
use Rattle.model.specs.Record.{admin_count, user_count}
use Rattle.model.specs.Uids.{nth}
use Rattle.model.specs.Access.{is_for, holds, has_column, in_table, allowed, allowed_column}
use Rattle.access.specs.declared.Found.{Found}

-- the row that u is past admin or past user, an admin's or a user's
abbrev pub row_past : {A : Type 0} → ℕ → ℕ → ℕ → (ℕ → A) → A → A
row_past admin user u f z = nth admin admin_count u f (nth user user_count u (λ k. f (admin_count + k)) z)

-- what a row says of a kind and a method, with what the others say
abbrev pub with_row : Session → ℕ → ℕ → ℕ → Access → Found → Found
with_row s k own m a f = record {
  listed = is_for k m a || f.listed;
  held = (is_for k m a && holds s own a.who) || f.held;
  columns = cond (is_for k m a && holds s own a.who) (bit_or a.columns f.columns) f.columns;
}

-- the table's word: the pair is in it, a row holds for the session, and each column that such a row has
pub record TableSays (s : Session) (o : Object) (m : ℕ) (f : Found) : Type 0 where
  pub listed : f.listed ≡ in_table s o m
  pub held : f.held ≡ allowed s o m
  pub columns : (c : ℕ) → has_column f.columns c ≡ allowed_column s o m c
