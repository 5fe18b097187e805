-- StartSession, Authenticate and a set of reset types: the parameters one after the other.
use Prim.Native.Nat.{ℕ}
use mathlib.Core.Path.{◌≡◌, refl, sym, ◌∙◌}
use mathlib.Core.List.{List}
use mathlib.Core.Bool.{Bool, true, false, ◌&&◌, ◌||◌, cond}
use lib.Dec.{eqb}
use Rattle.token.proofs.Laws.{and-f}
use Rattle.std.specs.Prelude.{Option, Some, None}
use Rattle.std.specs.Bool.{then_some}
use Rattle.value.specs.Value.{Values, none, more}
use Rattle.value.specs.Read.{Out, ok, bad, values_at}
use Rattle.item.specs.declared.Slot.{Slot}
use Rattle.item.specs.declared.Slot.TheVariants as S
use Rattle.item.specs.Item.{step_at}
use Rattle.params.specs.declared.Start.{Start}
use Rattle.params.specs.declared.Taken.{Taken}
use Rattle.params.specs.declared.Resets.{Resets}
use Rattle.params.specs.declared.Resets.TheVariants as X
use Rattle.params.specs.Names.{optional, beyond, nothing, given, is_int, is_uid, int_of}
use Rattle.params.specs.Params.{start_from, start_of, proof_from, proof_of, resets_of, resets_at}
use Rattle.params.specs.Steps.{first_of, taken_of}
use Rattle.params.proofs.Taking.{First, Took, first-at, take_at, headed, given-same, given-first, given-taken, given-last}

-- ---- StartSession
abbrev options_of : List ℕ → Slot → Slot → Slot → Values → Option Start
options_of s a b c vs = start_from s a b c (optional 0 vs) (optional 3 (beyond 0 vs)) (nothing (beyond 3 (beyond 0 vs)))

start-heads : (s : List ℕ) (vs : Values) → start_of s vs ≡ headed None (λ a. headed None (λ b. headed None (options_of s a b))) vs
unfolding start_of headed
start-heads s none = refl
start-heads s (more a none) = refl
start-heads s (more a (more b none)) = refl
start-heads s (more a (more b (more c vs))) = refl

no_write : (s : List ℕ) (a b d e : Slot) (w : Bool) → start_from s a b S.Absent d e w ≡ None
unfolding start_from is_int
no_write s a b d e w = simp and-f

not-whole : (s : List ℕ) (a b c d e : Slot) → start_from s a b c d e false ≡ None
unfolding start_from
not-whole s a b c d e = simp and-f

start-whole : (s : List ℕ) (a b c d e : Slot) (o o₁ o₂ o₃ o₄ o₅ : Out Values) (w : Bool)
    → First s 15 a o o₁ → First s 15 b o₁ o₂ → First s 15 c o₂ o₃ → Took s 15 0 d o₃ o₄ → Took s 15 3 e o₄ o₅ → w ≡ given false nothing o₅
    → start_from s a b c d e w ≡ given None (start_of s) o
unfolding headed
start-whole s a b c d e o o₁ o₂ o₃ o₄ o₅ w f g h i j k =
    sym (given-same None (start_of s) _ o (start-heads s)
    ∙ given-first None (λ a. headed None (λ b. headed None (options_of s a b))) s 15 a o o₁ refl f
    ∙ given-first None (λ b. headed None (options_of s a b)) s 15 b o₁ o₂ refl g
    ∙ given-first None (options_of s a b) s 15 c o₂ o₃ (no_write s a b _ _ _) h
    ∙ given-taken None (λ d vs. start_from s a b c d (optional 3 vs) (nothing (beyond 3 vs))) s 15 0 d o₃ o₄ i
    ∙ given-taken None (λ e vs. start_from s a b c d e (nothing vs)) s 15 3 e o₄ o₅ j
    ∙ given-last None (start_from s a b c d e) o₅ w (not-whole s a b c d e) k)

pub start_is : (s : List ℕ) (p : ℕ) {a b c d e : Taken} {w : Bool}
    → a ≡ first_of p (step_at s 15 p) → b ≡ first_of a.next (step_at s 15 a.next) → c ≡ first_of b.next (step_at s 15 b.next)
    → d ≡ taken_of 0 c.next (step_at s 15 c.next) → e ≡ taken_of 3 d.next (step_at s 15 d.next) → w ≡ given false nothing (values_at s 15 e.next)
    → start_from s a.slot b.slot c.slot d.slot e.slot w ≡ given None (start_of s) (values_at s 15 p)
start_is s p {a} {b} {c} {d} {e} {w} f g h i j k =
    start-whole s a.slot b.slot c.slot d.slot e.slot (values_at s 15 p) (values_at s 15 a.next) (values_at s 15 b.next) (values_at s 15 c.next) (values_at s 15 d.next) (values_at s 15 e.next) w
    (first-at s 15 p f) (first-at s 15 a.next g) (first-at s 15 b.next h) (take_at s 15 0 c.next i) (take_at s 15 3 d.next j) k

-- ---- Authenticate
proof-heads : (s : List ℕ) (vs : Values) → proof_of s vs ≡ headed None (λ a vs. proof_from s a (optional 0 vs) (nothing (beyond 0 vs))) vs
unfolding proof_of headed
proof-heads s none = refl
proof-heads s (more a vs) = refl

no-authority : (s : List ℕ) (b : Slot) (w : Bool) → proof_from s S.Absent b w ≡ None
unfolding proof_from is_uid
no-authority s b w = refl

proof-not-whole : (s : List ℕ) (a b : Slot) → proof_from s a b false ≡ None
unfolding proof_from
proof-not-whole s a b = simp and-f

pub proof_is : (s : List ℕ) (p : ℕ) {a b : Taken} {w : Bool} → a ≡ first_of p (step_at s 15 p) → b ≡ taken_of 0 a.next (step_at s 15 a.next) → w ≡ given false nothing (values_at s 15 b.next)
    → proof_from s a.slot b.slot w ≡ given None (proof_of s) (values_at s 15 p)
proof_is s p {a} {b} {w} f g h =
    sym (given-same None (proof_of s) _ (values_at s 15 p) (proof-heads s)
    ∙ given-first None (λ a vs. proof_from s a (optional 0 vs) (nothing (beyond 0 vs))) s 15 a.slot (values_at s 15 p) (values_at s 15 a.next) (no-authority s _ _) (first-at s 15 p f)
    ∙ given-taken None (λ b vs. proof_from s a.slot b (nothing vs)) s 15 0 b.slot (values_at s 15 a.next) (values_at s 15 b.next) (take_at s 15 0 a.next g)
    ∙ given-last None (proof_from s a.slot b.slot) (values_at s 15 b.next) w (proof-not-whole s a.slot b.slot) h)

-- ---- a set of reset types: x is the integer n
abbrev the : ℕ → Slot → Bool
the n x = is_int x && eqb (int_of x) n

resets-are : (s : List ℕ) (x y : Slot) (o o₁ o₂ : Out Values) → First s 0 x o o₁ → First s 0 y o₁ o₂
    → cond (given false nothing o₁) (cond (the 0 x) (Some X.Power) None) (cond (given false nothing o₂) (cond ((the 0 x && the 3 y) || (the 3 x && the 0 y)) (Some X.Program) None) None) ≡ given None resets_of o
unfolding given nothing resets_of is_int
resets-are s x y (ok none q) o₁ o₂ f g = rw (f.0, f.1)
resets-are s x y (ok (more v none) q) o₁ o₂ f g = rw (f.0, f.1)
resets-are s x y (ok (more v (more w none)) q) o₁ o₂ f g =
    let i : First s 0 y (ok (more w none) q) o₂ = rw f.1 at g in
    rw (f.1, f.0, i.0, i.1)
resets-are s x y (ok (more v (more w (more u vs))) q) o₁ o₂ f g =
    let i : First s 0 y (ok (more w (more u vs)) q) o₂ = rw f.1 at g in
    rw (f.1, i.1)
resets-are s x y bad o₁ o₂ f g =
    let i : First s 0 y bad o₂ = rw f at g in
    rw (f, i)

some_if : (x : Resets) (b : Bool) → then_some b x ≡ cond b (Some x) None
some_if x true = refl
some_if x false = refl

module _ (s : List ℕ) (p : ℕ) {a : Taken} (f : a ≡ first_of p (step_at s 0 p)) where
  pub resets_one : given false nothing (values_at s 0 a.next) ≡ true → then_some (the 0 a.slot) X.Power ≡ resets_at s p
  resets_one h =
      some_if X.Power (the 0 a.slot)
      ∙ rw h at (resets-are s a.slot _ (values_at s 0 p) (values_at s 0 a.next) _ (first-at s 0 p f) (first-at s 0 a.next refl))

  module _ {c : Taken} (h : given false nothing (values_at s 0 a.next) ≡ false) (g : c ≡ first_of a.next (step_at s 0 a.next)) where
    pub resets_two : given false nothing (values_at s 0 c.next) ≡ true → then_some ((the 0 a.slot && the 3 c.slot) || (the 3 a.slot && the 0 c.slot)) X.Program ≡ resets_at s p
    resets_two k =
        some_if X.Program _
        ∙ rw (h, k) at (resets-are s a.slot c.slot (values_at s 0 p) (values_at s 0 a.next) (values_at s 0 c.next) (first-at s 0 p f) (first-at s 0 a.next g))

    pub resets_many : given false nothing (values_at s 0 c.next) ≡ false → None ≡ resets_at s p
    resets_many k = rw (h, k) at (resets-are s a.slot c.slot (values_at s 0 p) (values_at s 0 a.next) (values_at s 0 c.next) (first-at s 0 p f) (first-at s 0 a.next g))
