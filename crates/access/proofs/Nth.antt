-- What a UID names by how far it is past a base, from what `past` and `row_past` answer.
use Prim.Native.Nat.{ℕ, ◌+◌, ◌-◌, ◌≤◌, ◌<◌}
use mathlib.Core.Path.{◌≡◌, refl, sym, ap, ◌∙◌}
use mathlib.Core.Bool.{Bool, true, false, cond}
use mathlib.Core.Logic.{⊎_elim}
use native.Mathlib.Omega.{arith}
use Rattle.std.specs.Prelude.{Option, Some, None}
use Rattle.token.specs.Bytes.{within}
use Rattle.token.proofs.Laws.{above, lt-or-le}
use Rattle.model.specs.Record.{admin_count, user_count}
use Rattle.model.specs.Uids.{nth}
use Rattle.access.specs.Rows.{row_past}

-- f of the number that is answered, and z where there is none
abbrev told : {A : Type 0} → (ℕ → A) → A → Option ℕ → A
told f z (Some k) = f k
told f z None = z

module _ (base count u : ℕ) where
  nth-by : {A : Type 0} (f : ℕ → A) (z : A) → nth base count u f z ≡ told f z (nth base count u Some None)
  nth-by f z = go (within (base + 1) (base + count) u)
    where
      go : (b : Bool) → cond b (f (u - base)) z ≡ told f z (cond b (Some (u - base)) None)
      go true = refl
      go false = refl

  pub nth-none : None ≡ nth base count u Some None → {A : Type 0} (f : ℕ → A) (z : A) → nth base count u f z ≡ z
  nth-none e f z = nth-by f z ∙ ap (told f z) (sym e)

  pub nth-some : (k : ℕ) → Some k ≡ nth base count u Some None → {A : Type 0} (f : ℕ → A) (z : A) → nth base count u f z ≡ f k
  nth-some k e f z = nth-by f z ∙ ap (told f z) (sym e)

  pub nth-least : (k : ℕ) → Some k ≡ nth base count u Some None → k ≤ count
  nth-least k e = ⊎_elim over among (lt-or-le count (u - base))
    where
      over : count < u - base → k ≤ count
      over h =
          let d : Some k ≡ None = e ∙ rw (above (base + 1) (base + count) u (omega arith)) in
          let n = ap (told {A = ℕ} (λ i. 1) 0) d in
          absurd (omega arith)

      at-most : (b : Bool) → cond b (u - base) 0 ≤ u - base
      at-most true = omega arith
      at-most false = omega arith

      among : u - base ≤ count → k ≤ count
      among h =
          let d : k ≡ cond (within (base + 1) (base + count) u) (u - base) 0 = ap (told (λ i. i) 0) e ∙ sym (nth-by (λ i. i) 0) in
          let m = at-most (within (base + 1) (base + count) u) in
          omega arith

-- and so for the two bases of a row
module _ (admin user u : ℕ) where
  row-by : {A : Type 0} (f : ℕ → A) (z : A) → row_past admin user u f z ≡ told f z (row_past admin user u Some None)
  row-by f z = go (within (admin + 1) (admin + admin_count) u) (within (user + 1) (user + user_count) u)
    where
      go : (a b : Bool) → cond a (f (u - admin)) (cond b (f (admin_count + (u - user))) z) ≡ told f z (cond a (Some (u - admin)) (cond b (Some (admin_count + (u - user))) None))
      go true b = refl
      go false true = refl
      go false false = refl

  pub row-none : None ≡ row_past admin user u Some None → {A : Type 0} (f : ℕ → A) (z : A) → row_past admin user u f z ≡ z
  row-none e f z = row-by f z ∙ ap (told f z) (sym e)

  pub row-some : (r : ℕ) → Some r ≡ row_past admin user u Some None → {A : Type 0} (f : ℕ → A) (z : A) → row_past admin user u f z ≡ f r
  row-some r e f z = row-by f z ∙ ap (told f z) (sym e)
