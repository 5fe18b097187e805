-- A Get lists exactly the columns that may be told, each with its cell's value.
use Prim.Native.Nat.{ℕ, zero, suc, ◌+◌, ◌-◌, ◌≤◌, ◌<◌}
use mathlib.Core.Path.{◌≡◌, refl, ap, sym, subst}
use mathlib.Core.Bool.{Bool, true, false, cond}
use mathlib.Core.List.{[], ◌∷◌}
use mathlib.Core.Logic.{◌⊎◌, inl, inr, ⊎_elim}
use native.Mathlib.Omega.{arith}
use lib.Dec.{eqb}
use Rattle.token.specs.Bytes.{be_of}
use Rattle.value.specs.Plain.{Plain, Plains, bytes, atom}
use Rattle.ranges.specs.Decides.{Decides}
use Rattle.ranges.specs.Row.{row_at}
use Rattle.ranges.proofs.Decide.{is_false}
use Rattle.model.specs.Types.{Row, Mbr, Card, Object}
use Rattle.model.specs.declared.Object.TheVariants as O
use Rattle.model.specs.Record.{enabled_at}
use Rattle.model.specs.Uids as U
use Rattle.model.specs.Access.{allowed_column}
use Rattle.model.specs.Answer as A
use Rattle.model.specs.Answer.{cell_past0, told}
use Rattle.model.specs.Words.{OneOf, MayGet}
use Rattle.model.specs.Literals.{last_of}
use Rattle.model.specs.Effects as F
use Rattle.model.specs.Effects.{Entry, Listed}
use Rattle.model.proofs.Cases.{cond_ind}
use Rattle.model.proofs.Accessed.{access-as-said}
use Rattle.model.proofs.Soundness.{dec-eq}
use Rattle.model.proofs.Figures.{object-ind, back}

-- ---- the values
bit-same : (b : Bool) → A.flag b ≡ F.bit b
bit-same true = refl
bit-same false = refl

resets-same : (b : Bool) → A.resets b ≡ F.resets b
resets-same true = refl
resets-same false = refl

life-same : (b : Bool) → A.number (cond b 9 8) ≡ F.life_cycle b
life-same true = refl
life-same false = refl

-- one of the columns past 0, with its value
abbrev Past : Card → Object → ℕ → Type 0
Past j o c = (1 ≤ c) × Entry c (cell_past0 j.cells o c) (F.cells_past0 j o)

module _ (j : Card) (c : ℕ) where
  -- the first, the second, .. of a table
  pin-cells : (r : ℕ) → OneOf c (5 ∷ 6 ∷ 7 ∷ []) → (1 ≤ c) × Entry c (A.pin_cell j.cells r c) (F.pin_cells j r)
  pin-cells r =
      ⊎_elim (λ e. rw e (omega arith, inl (refl, refl))) (⊎_elim (λ e. rw e (omega arith, inr (inl (refl, refl))))
      (⊎_elim (λ e. rw e (omega arith, inr (inr (inl (refl, refl))))) absurd))

  row-cells : (x : Row) → OneOf c (3 ∷ 4 ∷ 5 ∷ 6 ∷ 7 ∷ 8 ∷ 9 ∷ []) → (1 ≤ c) × Entry c (A.range_cell x c) (F.row_cells x)
  row-cells x =
      ⊎_elim (λ e. rw e (omega arith, inl (refl, refl)))
      (⊎_elim (λ e. rw e (omega arith, inr (inl (refl, refl))))
      (⊎_elim (λ e. rw e (omega arith, inr (inr (inl (refl, bit-same x.read_enabled)))))
      (⊎_elim (λ e. rw e (omega arith, inr (inr (inr (inl (refl, bit-same x.write_enabled))))))
      (⊎_elim (λ e. rw e (omega arith, inr (inr (inr (inr (inl (refl, bit-same x.read_locked)))))))
      (⊎_elim (λ e. rw e (omega arith, inr (inr (inr (inr (inr (inl (refl, bit-same x.write_locked))))))))
      (⊎_elim (λ e. rw e (omega arith, inr (inr (inr (inr (inr (inr (inl (refl, resets-same x.lock_on_program))))))))) absurd))))))

  mbr-cells : (m : Mbr) → OneOf c (1 ∷ 2 ∷ 3 ∷ []) → (1 ≤ c) × Entry c (A.mbr_cell m c) (F.mbr_cells m)
  mbr-cells m =
      ⊎_elim (λ e. rw e (omega arith, inl (refl, bit-same m.enable))) (⊎_elim (λ e. rw e (omega arith, inr (inl (refl, bit-same m.done))))
      (⊎_elim (λ e. rw e (omega arith, inr (inr (inl (refl, resets-same m.done_on_program))))) absurd))

  -- a table of one cell
  one_cell : (x : ℕ) (v w : Plain) → 1 ≤ x → v ≡ w → OneOf c (x ∷ []) → (1 ≤ c) × Entry c v (F.at x w ∷ [])
  one_cell x v w l h = ⊎_elim (λ (e : c ≡ x). (omega arith, inl (e, h))) absurd

  past : (o : Object) → MayGet j.cells.session o c → (c ≡ 0) ⊎ Past j o c
  unfolding cell_past0
  past O.PinSid h = ⊎_elim inl (λ x. inr (pin-cells 0 x)) h.1
  past O.PinMsid h = ⊎_elim inl (λ x. inr (one_cell 3 _ _ (omega arith) refl x)) h
  past O.TperInfo h = ⊎_elim inl (λ x. inr (one_cell 8 _ _ (omega arith) (bit-same j.cells.tables.resettable) x)) h
  past O.SpAdmin h = ⊎_elim inl (λ x. inr (one_cell 6 _ _ (omega arith) refl x)) h
  past O.SpLocking h = ⊎_elim inl (λ x. inr (one_cell 6 _ _ (omega arith) (life-same j.cells.tables.active) x)) h
  past O.ThisSp h = absurd h
  past (O.Authority r) h = ⊎_elim inl (λ x. inr (one_cell 5 _ _ (omega arith) (bit-same (enabled_at j.cells.tables r)) x)) h.1
  past (O.Pin r) h = ⊎_elim inl (λ x. inr (pin-cells r x)) h.1
  past (O.Range i) h = ⊎_elim inl (λ x. inr (row-cells (row_at j.cells.tables.rows i) x.1)) h
  past O.MbrControl h = ⊎_elim inl (λ x. inr (mbr-cells j.cells.tables.mbr x)) h
  past O.Nothing h = absurd h

  entry : (u : ℕ) (o : Object) → U.uid_of o ≡ u → MayGet j.cells.session o c → Entry c (A.cell j.cells o c) (F.at 0 (atom (bytes (be_of 8 u))) ∷ F.cells_past0 j o)
  entry u o e h =
      ⊎_elim (λ z. inl (z, rw z (ap (λ x. atom (bytes (be_of 8 x))) e)))
      (λ p.
      let l : 1 ≤ c = p.0 in
      let same : A.cell j.cells o c ≡ cell_past0 j.cells o c = rw (is_false (eqb c 0) (dec-eq c 0) (λ (e : c ≡ 0). omega arith)) in
      inr (subst (λ (v : Plain). Entry c v (F.cells_past0 j o)) (sym same) p.1)) (past o h)

-- ---- the list
module _ (j : Card) (u : ℕ) (o : Object) (uid : (c : ℕ) → MayGet j.cells.session o c → U.uid_of o ≡ u)
    (may : (c : ℕ) → c < 20 → Decides (allowed_column j.cells.session o 0x16 c) (MayGet j.cells.session o c)) where
  listed : (n c : ℕ) → ((i : ℕ) → i < n → c + i < 20) → Listed j u o n c (told j.cells o n c)
  unfolding told
  listed zero c h = refl
  listed (suc n) c h =
      let l : c < 20 = low in
      let rest = listed n (c + 1) (λ i m. let p : c + suc i < 20 = h (suc i) (omega arith) in omega arith) in
      cond_ind (λ (x : Plains). Listed j u o (suc n) c x) _ _ _
      (λ e. let m = (may c l).holds e in inl (m, (A.cell j.cells o c, told j.cells o n (c + 1), entry j c u o (uid c m) m, rest, refl)))
      (λ e. inr ((may c l).fails e, rest))
    where
      low : c < 20
      low = let p : c + 0 < 20 = h 0 (omega arith) in omega arith

last-low : (o : Object) → last_of o < 20
last-low O.PinSid = omega arith
last-low O.PinMsid = omega arith
last-low O.TperInfo = omega arith
last-low O.SpAdmin = omega arith
last-low O.SpLocking = omega arith
last-low O.ThisSp = omega arith
last-low (O.Authority r) = omega arith
last-low (O.Pin r) = omega arith
last-low (O.Range k) = omega arith
last-low O.MbrControl = omega arith
last-low O.Nothing = omega arith

-- what a Get of an object tells, up to a column that is known
pub tells : (j : Card) (u : ℕ) → let o = U.object_in j.cells.session.locking u in (first last : ℕ) → last ≤ last_of o
    → Listed j u o (last + 1 - first) first (told j.cells o (last + 1 - first) first)
tells j u first last l =
    let o = U.object_in j.cells.session.locking u in
    let m : last_of o < 20 = last-low o in
    listed j u o
    (λ c. object-ind (λ o. MayGet j.cells.session o c → U.uid_of o ≡ u) u absurd j.cells.session.locking (λ o n _. back _ u o n))
    (access-as-said.gets j.cells.session u) (last + 1 - first) first (λ i (p : i < last + 1 - first). omega arith)
