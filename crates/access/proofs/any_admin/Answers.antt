-- `any_admin` meets its contract: the admins stand behind SID.
use Prim.Native.Nat.{ℕ, zero, suc, ◌+◌, ◌<◌}
use mathlib.Core.Path.{◌≡◌, refl, ◌∙◌}
use native.Mathlib.Numerals.{add-one}
use native.Mathlib.Omega.{arith}
use borrow.Author.Rules.{rules}
use lib.ListN.{length, take, drop, get_or, length-drop}
use lib.Seq.{get_or-drop}
use mathlib.Core.Bool.{false, ◌||◌}
use Rattle.std.proofs.Math.Bool.{or_comm}
use Rattle.std.specs.List.{list_any}
use Rattle.std.proofs.lemmas.List.Folds.{list_any_more}
use Rattle.model.specs.declared.Session.{Session}
use Rattle.model.specs.Record.{proved_at}
use Rattle.model.specs.Access.{any_proved}
use Rattle.access.proofs.any_admin.Goals as goal

first : (s : Session) (n : ℕ) → n < length s.proved → list_any (λ on. on) (take n (drop 1 s.proved)) ≡ any_proved s n
unfolding any_proved
first s zero h = refl
first s (suc n) h =
    let inside : n < length (drop 1 s.proved) = simp length-drop (omega arith) in
    let more : list_any (λ on. on) (take (n + 1) (drop 1 s.proved)) ≡ list_any (λ on. on) (take n (drop 1 s.proved)) || get_or (drop 1 s.proved) n false = list_any_more (λ on. on) (drop 1 s.proved) n false inside in
    let next = rw add-one at more in
    let i : 1 + n ≡ suc n = omega arith in
    next ∙ rw (first s n (omega arith), get_or-drop 1 s.proved n false, i) (or_comm (any_proved s n) (proved_at s (suc n)))

pub returns : goal.returns
returns c =
    let many : length c.args.s.proved ≡ 13 = search rules in
    let asked : c.any.result ≡ list_any (λ on. on) (take 4 (drop 1 c.args.s.proved)) = search rules in
    asked ∙ first c.args.s 4 (omega arith)
