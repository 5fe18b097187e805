-- What the parameters and methods of a call name, and what a call changes.
use Rattle.std.specs.Prelude.{Option, Some, None}
use Prim.Native.Nat.{ℕ}
use mathlib.Core.Path.{◌≡◌, refl, sym, ◌∙◌}
use mathlib.Core.Bool.{Bool, true, false, ◌||◌}
use mathlib.Core.List.{List, [], ◌∷◌}
use mathlib.Core.Logic.{◌≢◌, ◌⊎◌, inl, inr, ⊎_elim}
use native.Mathlib.Omega.{arith}
use borrow.Author.Tests.{eqb-true}
use lib.Dec.{leb, eqb}
use Rattle.payload.specs.declared.Payload.TheVariants as P
use Rattle.payload.specs.Payload.{payload_at}
use Rattle.value.specs.Read.{values_at}
use Rattle.item.specs.declared.Slot.{Slot}
use Rattle.item.specs.declared.Slot.TheVariants as S
use Rattle.params.specs.declared.Columns.{Columns}
use Rattle.params.specs.Names.{given, uid_of}
use Rattle.params.specs.Columns.{column_at}
use Rattle.params.specs.Params.{start_of}
use Rattle.model.specs.Types.{Hsn, Session, Card, Object, Change}
use Rattle.model.specs.declared.Object.TheVariants as O
use Rattle.model.specs.declared.Who.TheVariants as W
use Rattle.model.specs.declared.Change.TheVariants as C
use Rattle.model.specs.Record as R
use Rattle.model.specs.Uids as U
use Rattle.model.specs.Judge as J
use Rattle.model.specs.Step.{Event}
use Rattle.model.specs.Words.{OneOf, Has}
use Rattle.model.specs.Wants.{Over32}
use Rattle.model.specs.Packets.{Start, Changes}
use Rattle.model.proofs.Faults.{not_short}
use Rattle.model.proofs.Asked.{Begun, Last}
use Rattle.ranges.proofs.Decide.{dec-imp}
use Rattle.model.proofs.Soundness.{dec-on}
use Rattle.model.proofs.Cases.{never}
use Rattle.std.proofs.lemmas.Bool.{or_cases, cases_Bool}

-- ---- the parameters
pub is-short : (x : Slot) → leb (J.count_of x) R.pin_bytes ≡ true → Over32 x → ⊥
is-short x e = (not_short x).fails (rw e refl)

pub signer-names : (s : List ℕ) (locking : Bool) (x : Slot) (r : ℕ) → J.signer s locking x ≡ W.Row r → U.who_in locking (uid_of s x) ≡ W.Row r
unfolding J.signer
signer-names s locking S.Absent r e = absurd cc
signer-names s locking (S.Int v) r e = absurd cc
signer-names s locking (S.Bytes p n) r e = e
signer-names s locking (S.List p) r e = absurd cc
signer-names s locking S.Named r e = absurd cc

-- ---- the methods
one_of_two : (a b m : ℕ) → OneOf m (a ∷ b ∷ []) → m ≢ a → m ≢ b → ⊥
one_of_two a b m (inl e) p q = p e
one_of_two a b m (inr (inl e)) p q = q e
one_of_two a b m (inr (inr e)) p q = e

-- and only ThisSP has Authenticate
not-two : (a b m : ℕ) → OneOf m (a ∷ b ∷ []) → m ≡ U.authenticate_method → a ≢ U.authenticate_method → b ≢ U.authenticate_method → ⊥
not-two a b m x e p q = one_of_two a b m x (λ h. p (sym h ∙ e)) (λ h. q (sym h ∙ e))

pub has-this : (s : Session) (o : Object) (m : ℕ) → m ≡ U.authenticate_method → Has s o m → o ≡ O.ThisSp
has-this s O.PinSid m e x = absurd (not-two _ _ m x e (λ z. omega arith) (λ z. omega arith))
has-this s O.PinMsid m e x = absurd (omega arith)
has-this s O.TperInfo m e x = absurd (not-two _ _ m x e (λ z. omega arith) (λ z. omega arith))
has-this s O.SpAdmin m e x = absurd (not-two _ _ m x e (λ z. omega arith) (λ z. omega arith))
has-this s O.SpLocking m e (inl x) = absurd (omega arith)
has-this s O.SpLocking m e (inr x) = absurd (not-two _ _ m x e (λ z. omega arith) (λ z. omega arith))
has-this s O.ThisSp m e x = refl
has-this s (O.Authority r) m e (inl x) = absurd (omega arith)
has-this s (O.Authority r) m e (inr x) = absurd (omega (arith, x.1))
has-this s (O.Pin r) m e x = absurd (not-two _ _ m x e (λ z. omega arith) (λ z. omega arith))
has-this s (O.Range k) m e x = absurd (not-two _ _ m x e (λ z. omega arith) (λ z. omega arith))
has-this s O.MbrControl m e x = absurd (not-two _ _ m x e (λ z. omega arith) (λ z. omega arith))
has-this s O.Nothing m e x = absurd x

-- the method that is left is RevertSP
pub last-method : (s : Session) (o : Object) (m : ℕ) → Last m → Has s o m → m ≡ U.revert_sp_method
last-method s O.PinSid m l x = absurd (one_of_two _ _ m x l.get l.set)
last-method s O.PinMsid m l x = absurd (l.get x)
last-method s O.TperInfo m l x = absurd (one_of_two _ _ m x l.get l.set)
last-method s O.SpAdmin m l x = absurd (one_of_two _ _ m x l.get l.revert)
last-method s O.SpLocking m l (inl x) = absurd (l.get x)
last-method s O.SpLocking m l (inr x) = absurd (one_of_two _ _ m x l.revert l.activate)
last-method s O.ThisSp m l (inl x) = absurd (l.authenticate x)
last-method s O.ThisSp m l (inr x) = x.1
last-method s (O.Authority r) m l (inl x) = absurd (l.get x)
last-method s (O.Authority r) m l (inr x) = absurd (l.set x.1)
last-method s (O.Pin r) m l x = absurd (one_of_two _ _ m x l.get l.set)
last-method s (O.Range k) m l x = absurd (one_of_two _ _ m x l.get l.set)
last-method s O.MbrControl m l x = absurd (one_of_two _ _ m x l.get l.set)
last-method s O.Nothing m l x = absurd x

-- ---- what a Set, an Activate and a Revert change
module _ (k : Card) (e : Event) (s : List ℕ) where
  pin-change : (r : ℕ) (x : Slot) → ((p n : ℕ) → x ≡ S.Bytes p n → Changes k e s (C.PutPin r p n)) → Changes k e s (J.pin_change r x)
  unfolding J.pin_change
  pin-change r S.Absent f = tt
  pin-change r (S.Int v) f = tt
  pin-change r (S.Bytes p n) f = f p n refl
  pin-change r (S.List p) f = tt
  pin-change r S.Named f = tt

  flag-change : (f : Bool → Change) (x : Option Bool) → ((on : Bool) → Changes k e s (f on)) → Changes k e s (J.flag_change f x)
  unfolding J.flag_change
  flag-change f None h = tt
  flag-change f (Some on) h = h on

  pub set-changes : (t : Columns) (o : Object)
      → ((r p n : ℕ) → ((o ≡ O.PinSid) × (r ≡ 0)) ⊎ (o ≡ O.Pin r) → column_at t 3 ≡ S.Bytes p n → Changes k e s (C.PutPin r p n))
      → Changes k e s (J.change_in s t o)
  unfolding J.change_in
  set-changes t O.PinSid f = pin-change 0 (column_at t 3) (λ p n. f 0 p n (inl (refl, refl)))
  set-changes t O.PinMsid f = tt
  set-changes t O.TperInfo f = flag-change _ _ (λ on. tt)
  set-changes t O.SpAdmin f = tt
  set-changes t O.SpLocking f = tt
  set-changes t O.ThisSp f = tt
  set-changes t (O.Authority r) f = flag-change _ _ (λ on. tt)
  set-changes t (O.Pin r) f = pin-change r (column_at t 3) (λ p n. f r p n (inr refl))
  set-changes t (O.Range i) f = tt
  set-changes t O.MbrControl f = tt
  set-changes t O.Nothing f = tt

  pub revert-changes : (o : Object) → (o ≡ O.SpAdmin → Changes k e s C.RevertAdmin) → (o ≡ O.SpLocking → Changes k e s C.RevertLocking) → Changes k e s (J.revert_of o)
  unfolding J.revert_of
  revert-changes O.PinSid f g = tt
  revert-changes O.PinMsid f g = tt
  revert-changes O.TperInfo f g = tt
  revert-changes O.SpAdmin f g = f refl
  revert-changes O.SpLocking f g = g refl
  revert-changes O.ThisSp f g = tt
  revert-changes (O.Authority r) f g = tt
  revert-changes (O.Pin r) f g = tt
  revert-changes (O.Range i) f g = tt
  revert-changes O.MbrControl f g = tt
  revert-changes O.Nothing f g = tt

-- ---- a StartSession
which-sp : (sp : ℕ) → (eqb sp U.admin_sp || eqb sp U.locking_sp) ≡ true
    → ((eqb sp U.locking_sp ≡ false) × (sp ≡ U.admin_sp)) ⊎ ((eqb sp U.locking_sp ≡ true) × (sp ≡ U.locking_sp))
which-sp sp h =
    ⊎_elim (λ e. inr (e, eqb-true _ _ e))
    (λ e. inl (e, eqb-true _ _ (⊎_elim (λ a. a) (never e) (or_cases (eqb sp U.admin_sp) _ h))))
    (cases_Bool (eqb sp U.locking_sp))

pub start-of : (k : Card) (s : List ℕ) (p params : ℕ) (host : Hsn) (sp : ℕ) (x who : Slot) → payload_at s p ≡ P.Call U.manager_uid U.start_session params
    → Begun k.cells (given None (start_of s) (values_at s 15 params)) host sp x who
    → Start k.cells.tables.active (eqb sp U.locking_sp) host x who s p
start-of k s p params host sp x who call b =
    record { params = params; sp = sp; call = call; asks = b.asked; names = which-sp sp b.known; on = (dec-imp (eqb sp U.locking_sp) _ (dec-on _) (dec-on _)).holds b.on }
