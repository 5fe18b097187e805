-- StartSession, Authenticate, Get and a set of reset types: what is taken has the shape that is said, and each such shape is taken.
use Prim.Native.Nat.{ℕ, ◌<◌, ◌^◌}
use mathlib.Core.Path.{◌≡◌, refl}
use mathlib.Core.Bool.{Bool, true, ◌&&◌}
use mathlib.Core.List.{List}
use mathlib.Core.Logic.{⊎_elim}
use borrow.Author.Tests.{lt-ltb, ltb-true}
use Rattle.token.specs.Bytes.{number_at}
use Rattle.token.proofs.Writes.{cond-all}
use Rattle.std.specs.Prelude.{Option, Some, None, IfSome}
use Rattle.std.proofs.lemmas.Bool.{and_parts, or_cases}
use Rattle.std.proofs.lemmas.Option.{MatchOption-at_some}
use Rattle.value.specs.Value.{Value, atom, list, named, Values, none, more}
use Rattle.item.specs.declared.Slot.{Slot}
use Rattle.item.specs.declared.Slot.TheVariants as S
use Rattle.item.specs.Item.{slot_of}
use Rattle.params.specs.declared.Start.{Start}
use Rattle.params.specs.declared.Proof.{Proof}
use Rattle.params.specs.declared.Block.{Block}
use Rattle.params.specs.declared.Resets.{Resets}
use Rattle.params.specs.declared.Resets.TheVariants as X
use Rattle.params.specs.Names.{names, inner, optional, beyond, nothing, is_int, is_bytes, is_uid, or_left_out, int_of, uid_of}
use Rattle.params.specs.Params.{is_the, block_of, block_in, get_of, start_from, start_of, proof_from, proof_of, resets_of}
use Rattle.params.specs.Exact as E
use Rattle.params.specs.Exact.{number, text, name, one, Options, Starts, Proves, Blocks, Sets}
use Rattle.params.proofs.ExactKinds.{by_int, by_bytes, by-uid, by-the, Optional, left_out, here, optional-is, ended}

-- ---- StartSession
options-are : {vs ws : Values} {x y : Slot} → Optional 0 is_bytes vs x ws → Optional 3 is_uid ws y none → Options vs x y
unfolding slot_of
options-are (left_out _) (left_out _) = E.neither
options-are (left_out _) (here v _ e) = by-uid (λ v. Options (one (name 3 v)) S.Absent (slot_of v)) E.authority v e
options-are (here v _ e) (left_out _) = by_bytes (λ v. Options (one (name 0 v)) (slot_of v) S.Absent) E.challenge v e
options-are (here v _ e) (here w _ f) =
    by_bytes (λ v. Options (more (name 0 v) (one (name 3 w))) (slot_of v) (slot_of w))
    (λ p n. by-uid (λ w. Options (more (name 0 (text p n)) (one (name 3 w))) (S.Bytes p n) (slot_of w)) (E.both p n) w f) v e

pub start_is : (s : List ℕ) (vs : Values) (t : Start) → Starts s vs t → start_of s vs ≡ Some t
unfolding start_of start_from slot_of optional beyond names inner nothing is_int is_bytes is_uid or_left_out int_of uid_of
start_is s _ _ (E.asked h p w _ _ _ l E.neither) = rw (lt-ltb h 0x100000000 l)
start_is s _ _ (E.asked h p w _ _ _ l (E.challenge q n)) = rw (lt-ltb h 0x100000000 l)
start_is s _ _ (E.asked h p w _ _ _ l (E.authority r)) = rw (lt-ltb h 0x100000000 l)
start_is s _ _ (E.asked h p w _ _ _ l (E.both q n r)) = rw (lt-ltb h 0x100000000 l)

-- a property of both answers, with every test that was passed
start-by : (P : Option Start → Type 0) (s : List ℕ) (a b c d e : Slot) (last : Bool) → P None
    → (is_int a ≡ true → int_of a < 2 ^ 32 → is_uid b ≡ true → is_int c ≡ true → or_left_out is_bytes d ≡ true → or_left_out is_uid e ≡ true → last ≡ true
    → P (Some (record { hsn = record { 0 = int_of a }; sp = uid_of s b; write = int_of c; challenge = d; authority = e })))
    → P (start_from s a b c d e last)
unfolding start_from
start-by P s a b c d e last z f =
    cond-all P _ _ _
    (λ t.
    let t₁ = and_parts _ _ t in
    let t₂ = and_parts _ _ t₁.0 in
    let t₃ = and_parts _ _ t₁.1 in
    let t₄ = and_parts _ _ t₃.1 in
    let t₅ = and_parts _ _ t₄.1 in
    let t₆ = and_parts _ _ t₅.1 in
    f t₂.0 (ltb-true _ _ t₂.1) t₃.0 t₄.0 t₅.0 t₆.0 t₆.1)
    (λ _. z)

start_read : (s : List ℕ) (vs : Values) → IfSome (start_of s vs) (Starts s vs)
unfolding start_of slot_of int_of uid_of
start_read s none = tt
start_read s (more a none) = tt
start_read s (more a (more b none)) = tt
start_read s (more a (more b (more c vs))) =
    let x : Slot = optional 0 vs in
    let y : Slot = optional 3 (beyond 0 vs) in
    start-by (λ o. IfSome o (Starts s (more a (more b (more c vs))))) s (slot_of a) (slot_of b) (slot_of c) x y _ tt
    (λ i l u w d e g.
    by_int (λ a. int_of (slot_of a) < 2 ^ 32 → Starts s (more a (more b (more c vs))) (record { hsn = record { 0 = int_of (slot_of a) }; sp = uid_of s (slot_of b); write = int_of (slot_of c); challenge = x; authority = y }))
    (λ h l. by-uid (λ b. Starts s (more (number h) (more b (more c vs))) (record { hsn = record { 0 = h }; sp = uid_of s (slot_of b); write = int_of (slot_of c); challenge = x; authority = y }))
    (λ p. by_int (λ c. Starts s (more (number h) (more (text p 8) (more c vs))) (record { hsn = record { 0 = h }; sp = number_at s p 8; write = int_of (slot_of c); challenge = x; authority = y }))
    (λ w. E.asked h p w vs x y l (options-are (optional-is 0 is_bytes vs d) (ended 3 is_uid (beyond 0 vs) e g)))
    c w) b u) a i l)

pub start_only : (s : List ℕ) (vs : Values) (t : Start) → start_of s vs ≡ Some t → Starts s vs t
start_only s vs t e = MatchOption-at_some _ (Starts s vs) t e (start_read s vs)

-- ---- Authenticate
pub proof-is : (s : List ℕ) (vs : Values) (t : Proof) → Proves s vs t → proof_of s vs ≡ Some t
unfolding proof_of proof_from slot_of optional beyond names inner nothing is_bytes is_uid or_left_out uid_of
proof-is s _ _ (E.bare p) = refl
proof-is s _ _ (E.proof p q n) = refl

proof-option : (s : List ℕ) (p : ℕ) {vs : Values} {x : Slot} → Optional 0 is_bytes vs x none → Proves s (more (text p 8) vs) (record { authority = number_at s p 8; proof = x })
unfolding slot_of
proof-option s p (left_out _) = E.bare p
proof-option s p (here v _ e) = by_bytes (λ v. Proves s (more (text p 8) (one (name 0 v))) (record { authority = number_at s p 8; proof = slot_of v })) (E.proof p) v e

proof_read : (s : List ℕ) (vs : Values) → IfSome (proof_of s vs) (Proves s vs)
unfolding proof_of proof_from slot_of uid_of
proof_read s none = tt
proof_read s (more a vs) =
    cond-all (λ o. IfSome o (Proves s (more a vs))) _ _ _
    (λ t.
    let t₁ = and_parts _ _ t in
    let t₂ = and_parts _ _ t₁.1 in
    by-uid (λ a. Proves s (more a vs) (record { authority = uid_of s (slot_of a); proof = optional 0 vs }))
    (λ p. proof-option s p (ended 0 is_bytes vs t₂.0 t₂.1)) a t₁.0)
    (λ _. tt)

pub proof_only : (s : List ℕ) (vs : Values) (t : Proof) → proof_of s vs ≡ Some t → Proves s vs t
proof_only s vs t e = MatchOption-at_some _ (Proves s vs) t e (proof_read s vs)

-- ---- Get
pub get-is : (vs : Values) (b : Block) → Blocks vs b → get_of vs ≡ Some b
unfolding get_of block_in block_of slot_of optional beyond names inner nothing is_int or_left_out
get-is _ _ (E.neither p) = refl
get-is _ _ (E.from p a) = refl
get-is _ _ (E.to p b) = refl
get-is _ _ (E.both p a b) = refl

ends-are : (p : ℕ) {vs ws : Values} {x y : Slot} → Optional 3 is_int vs x ws → Optional 4 is_int ws y none → Blocks (one (list p vs)) (record { start = x; end = y })
unfolding slot_of
ends-are p (left_out _) (left_out _) = E.neither p
ends-are p (left_out _) (here v _ e) = by_int (λ v. Blocks (one (list p (one (name 4 v)))) (record { start = S.Absent; end = slot_of v })) (E.to p) v e
ends-are p (here v _ e) (left_out _) = by_int (λ v. Blocks (one (list p (one (name 3 v)))) (record { start = slot_of v; end = S.Absent })) (E.from p) v e
ends-are p (here v _ e) (here w _ f) =
    by_int (λ v. Blocks (one (list p (more (name 3 v) (one (name 4 w))))) (record { start = slot_of v; end = slot_of w }))
    (λ a. by_int (λ w. Blocks (one (list p (more (name 3 (number a)) (one (name 4 w))))) (record { start = S.Int a; end = slot_of w })) (E.both p a) w f) v e

get_read : (vs : Values) → IfSome (get_of vs) (Blocks vs)
unfolding get_of block_in block_of
get_read none = tt
get_read (more (atom a) none) = tt
get_read (more (list p vs) none) =
    cond-all (λ o. IfSome o (Blocks (one (list p vs)))) _ _ _
    (λ t.
    let t₁ = and_parts _ _ t in
    let t₂ = and_parts _ _ t₁.1 in
    ends-are p (optional-is 3 is_int vs t₁.0) (ended 4 is_int (beyond 3 vs) t₂.0 t₂.1))
    (λ _. tt)
get_read (more (named a v) none) = tt
get_read (more v (more w vs)) = tt

pub get_only : (vs : Values) (b : Block) → get_of vs ≡ Some b → Blocks vs b
get_only vs b e = MatchOption-at_some _ (Blocks vs) b e (get_read vs)

-- ---- a set of reset types
pub resets-are : (vs : Values) (x : Resets) → Sets vs x → resets_of vs ≡ Some x
unfolding resets_of slot_of is_int int_of
resets-are _ _ E.power = refl
resets-are _ _ E.program = refl
resets-are _ _ E.turned = refl

both-the : (a b : ℕ) → Sets (more (number a) (one (number b))) X.Program → (v w : Value) → is_the a v ≡ true → is_the b w ≡ true → Sets (more v (one w)) X.Program
both-the a b z v w e f =
    by-the (λ v. Sets (more v (one w)) X.Program) a (by-the (λ w. Sets (more (number a) (one w)) X.Program) b z w f) v e

resets_read : (vs : Values) → IfSome (resets_of vs) (Sets vs)
unfolding resets_of
resets_read none = tt
resets_read (more v none) = cond-all (λ o. IfSome o (Sets (one v))) (is_the 0 v) (Some X.Power) None (by-the (λ v. Sets (one v) X.Power) 0 E.power v) (λ _. tt)
resets_read (more v (more w none)) =
    cond-all (λ o. IfSome o (Sets (more v (one w)))) _ (Some X.Program) None
    (λ t. ⊎_elim
    (λ h. let b = and_parts (is_the 0 v) _ h in both-the 0 3 E.program v w b.0 b.1)
    (λ h. let b = and_parts (is_the 3 v) _ h in both-the 3 0 E.turned v w b.0 b.1)
    (or_cases (is_the 0 v && is_the 3 w) _ t))
    (λ _. tt)
resets_read (more v (more w (more x vs))) = tt

pub resets_only : (vs : Values) (x : Resets) → resets_of vs ≡ Some x → Sets vs x
resets_only vs x e = MatchOption-at_some _ (Sets vs) x e (resets_read vs)
