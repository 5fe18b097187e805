-- The one walk through the checks of every method, against its row of faults.
use Rattle.std.specs.Prelude.{Option, Some, None, Result, Ok, Err}
use Prim.Native.Nat.{ℕ, ◌≤◌, ◌<◌}
use mathlib.Core.Path.{◌≡◌, refl, sym, ◌∙◌, ap, subst}
use mathlib.Core.Bool.{true, false, not, ◌&&◌}
use mathlib.Core.List.{List}
use mathlib.Core.Logic.{inl, inr, ⊎_elim}
use native.Mathlib.Omega.{arith}
use borrow.Author.Tests.{not-false}
use lib.Dec.{leb, ltb}
use lib.ListN.{length}
use Rattle.ranges.specs.Decides.{Decides}
use Rattle.ranges.proofs.Decide.{is_false, map, dec-not, dec-lt}
use Rattle.item.specs.declared.Slot.{Slot}
use Rattle.item.specs.declared.Slot.TheVariants as S
use Rattle.value.specs.Value.{Values}
use Rattle.value.specs.Read.{Out}
use Rattle.params.specs.declared.Columns.{Columns}
use Rattle.params.specs.declared.Offence.{Offence}
use Rattle.params.specs.declared.Block.{Block}
use Rattle.params.specs.Names.{given, nothing}
use Rattle.params.specs.Columns.{column_at}
use Rattle.model.specs.Types.{Cells, Card, Object, Who, Status, Change, Decision, Judged}
use Rattle.model.specs.declared.Object.TheVariants as O
use Rattle.model.specs.declared.Who.TheVariants as W
use Rattle.model.specs.declared.Status.TheVariants as E
use Rattle.model.specs.declared.Change.TheVariants as C
use Rattle.model.specs.declared.Decision.TheVariants as D
use Rattle.model.specs.declared.Judged.TheVariants.{Settled}
use Rattle.model.specs.Record as R
use Rattle.model.specs.Access.{in_table, allowed, allowed_column, last_column}
use Rattle.model.specs.Judge as J
use Rattle.model.specs.Vault.{decided, matches, part}
use Rattle.model.specs.Answer.{status_number}
use Rattle.model.specs.Laws.{SoundRecord}
use Rattle.model.specs.Words.{MaySet, Has}
use Rattle.model.specs.Literals.{last_of}
use Rattle.model.specs.Wants as N
use Rattle.model.specs.Wants.{When, Ruled}
use Rattle.model.specs.Calls.{Ways, got_by, put_by}
use Rattle.model.proofs.Cases.{cond_ind}
use Rattle.model.proofs.Soundness.{dec-on, dec-off, stable}
use Rattle.model.proofs.Faults as F
use Rattle.model.proofs.Faults.{look}
use Rattle.model.proofs.Standing.{not-values}

-- ---- what was decided, as the ways in which a call ends
abbrev pub Refused : Decision → ℕ → Type 0
Refused d st = (x : Status) × (d ≡ D.Refuse x) × (status_number x ≡ st)

-- the row of an authority is there
abbrev pub Rowed : Who → Type 0
Rowed w = (r : ℕ) → w ≡ W.Row r → r < 13

abbrev pub decision : Cells → List ℕ → Object → Decision → Ways
decision c s o d = record {
  refused = Refused d;
  got = λ first last. (last ≤ last_of o) × (d ≡ D.Told o first last);
  put = λ t. (J.values_ok c s t o ≡ true) × (d ≡ D.Done (J.change_in s t o));
  denied = d ≡ D.Denied;
  wrong = λ w. (r : ℕ) × (w ≡ W.Row r) × (r < 13) × (R.tries_at c r < 5) × (d ≡ D.Mistaken r);
  proved = λ w. Rowed w × (d ≡ D.Proved w);
  activated = d ≡ D.Done (J.activate_on c.tables);
  reverted = d ≡ D.Done (J.revert_of o);
  reverted_sp = d ≡ D.Done C.RevertSp;
}

-- the statuses of refusals
pub unauthorised : Refused (D.Refuse E.NotAuthorized) 0x01
unfolding status_number
unauthorised = (E.NotAuthorized, refl, refl)

pub invalid : Refused (D.Refuse E.InvalidParameter) 0x0c
unfolding status_number
invalid = (E.InvalidParameter, refl, refl)

pub locked_out : Refused (D.Refuse E.LockedOut) 0x12
unfolding status_number
locked_out = (E.LockedOut, refl, refl)

pub failed : Refused (D.Refuse E.Fail) 0x3f
unfolding status_number
failed = (E.Fail, refl, refl)

-- nothing is looked for
pub idle : {X R : Type 0} → R → When ⊥ X R
idle r = inr (λ x. x, r)

module _ (k : Card) (s : List ℕ) where
  abbrev pub of : Judged → Decision
  of j = decided k.vault s j

  module _ (o : Object) where
    abbrev pub Get : Option Block → Decision → Type 0
    Get x d = let e = decision k.cells s o d in Ruled (N.get_faults k o x) e.refused (e.refused 0x01) (e.refused 0x01) (got_by e o x)

    abbrev pub judged_block : ℕ → ℕ → ℕ → Judged
    judged_block n a b =
        J.need (leb a n && leb b n) (D.Refuse E.InvalidParameter) (J.need (leb a b) (D.Refuse E.InvalidParameter) (Settled (D.Told o a b)))

    in_block : (b : Block) → J.judge_get o (Some b) ≡ judged_block (last_of o) (N.or 0 b.start) (N.or (last_of o) b.end)
    unfolding J.judge_get
    in_block b = simp (F.last-of o, F.bound-or 0 b.start, F.bound-or (last_of o) b.end)

    pub got : (x : Option Block) → Decides (in_table k.cells.session o 0x16) (Has k.cells.session o 0x16)
        → Get x (of (J.need (in_table k.cells.session o 0x16) (D.Refuse E.NotAuthorized) (J.judge_get o x)))
    unfolding J.judge_get decided
    got None t =
        look (λ j. Get None (of j)) _ _ _ (dec-not _ t) (λ n. inl (n, unauthorised)) λ h.
        inr (h, idle (inl (tt, invalid)))
    got (Some b) t =
        let n = last_of o in
        let x = N.or 0 b.start in
        let y = N.or (last_of o) b.end in
        look (λ j. Get (Some b) (of j)) _ _ _ (dec-not _ t) (λ n. inl (n, unauthorised)) λ h.
        subst (λ (j : Judged). Get (Some b) (of j)) (sym (in_block b))
        (look (λ j. Get (Some b) (of j)) _ _ (J.need (leb x y) (D.Refuse E.InvalidParameter) (Settled (D.Told o x y)))
        (F.not-and (leb x n) (leb y n) (F.not-le x n) (F.not-le y n))
        (λ f. inr (h, idle (inl (⊎_elim inl (λ q. inr (inl q)) f, invalid)))) λ g.
        look (λ j. Get (Some b) (of j)) (leb x y) _ _ (F.not-le x y)
        (λ f. inr (h, idle (inl (inr (inr f), invalid)))) λ u.
        inr (h, idle (inr (⊎_elim (λ q. g (inl q)) (⊎_elim (λ q. g (inr q)) u), idle (idle (idle (idle (idle (let w : n < y → ⊥ = λ q. g (inr q) in omega arith, refl)))))))))

    -- ---- Set
    abbrev pub Set : Result Columns Offence → Decision → Type 0
    Set x d = let e = decision k.cells s o d in Ruled (N.set_faults k s o x) e.refused (e.refused 0x01) (e.refused 0x01) (put_by e x)

    -- "global 5-9"
    not-global : (i : ℕ) → i < 5 → MaySet k.cells.session (O.Range 0) i → ⊥
    not-global i l m =
        ⊎_elim (λ p. p.0 refl)
        (⊎_elim (λ (e : i ≡ 5). omega arith) (⊎_elim (λ (e : i ≡ 6). omega arith) (⊎_elim (λ (e : i ≡ 7). omega arith)
        (⊎_elim (λ (e : i ≡ 8). omega arith) (⊎_elim (λ (e : i ≡ 9). omega arith) absurd))))) m.1

    spared : (t : Columns) → (N.SomeGiven t (λ i. MaySet k.cells.session o i → ⊥) → ⊥) → o ≡ O.Range 0 → (i : ℕ) → i < 5 → column_at t i ≡ S.Absent
    spared t h e i l = stable _ (F.free-decides (column_at t i)) (λ n. h (i, omega arith, n, λ m. not-global i l (rw e at m)))

    pub put : (x : Result Columns Offence) → Decides (in_table k.cells.session o 0x17) (Has k.cells.session o 0x17)
        → ((i : ℕ) → i < 20 → Decides (allowed_column k.cells.session o 0x17 i) (MaySet k.cells.session o i))
        → ((i : ℕ) → o ≡ O.Range i → i < length k.cells.tables.rows)
        → Set x (of (J.need (in_table k.cells.session o 0x17) (D.Refuse E.NotAuthorized) (J.judge_set k.cells s o x)))
    unfolding J.judge_set decided
    put (Err e) pair may there =
        look (λ j. Set (Err e) (of j)) _ _ _ (dec-not _ pair) (λ n. inl (n, unauthorised)) λ h.
        inr (h, idle (inl (tt, invalid)))
    put (Ok t) pair may there =
        look (λ j. Set (Ok t) (of j)) _ _ _ (dec-not _ pair) (λ n. inl (n, unauthorised)) λ h.
        look (λ j. Set (Ok t) (of j)) _ _ _ (F.not-given t (λ i. leb i (last_column o)) (λ i. last_of o < i) (λ i _. rw (F.last-of o) (F.not-le i (last_of o))))
        (λ f. inr (h, idle (inl (f, invalid)))) λ c.
        look (λ j. Set (Ok t) (of j)) _ _ _ (F.not-given t (allowed_column k.cells.session o 0x17) (λ i. MaySet k.cells.session o i → ⊥) (λ i l. dec-not _ (may i l)))
        (λ f. inr (h, idle (inr (c, inl (f, unauthorised))))) λ w.
        let global : (i : ℕ) → o ≡ O.Range i → i ≡ 0 → (column_at t 3 ≡ S.Absent) × (column_at t 4 ≡ S.Absent) =
        λ i e z. let g = spared t w (e ∙ ap (λ (x : ℕ). O.Range x) z) in (g 3 (omega arith), g 4 (omega arith)) in
        let values = not-values k.cells s t o (λ i e. (there i e, global i e)) in
        look (λ j. Set (Ok t) (of j)) _ _ _ values
        (λ f. inr (h, idle (inr (c, inr (w, inl (f, invalid)))))) λ v.
        inr (h, idle (inr (c, inr (w, inr (v, idle (idle (idle (not-false _ (is_false _ values v), refl))))))))

    -- ---- Activate, Revert, RevertSP
    abbrev pub Bare : ℕ → Out Values → Type 0 → Change → Decision → Type 0
    Bare m vs May x d = Ruled (N.bare_faults k o m vs May) (Refused d) (Refused d 0x01) (Refused d 0x01) (d ≡ D.Done x)

    pub bare : (m : ℕ) (vs : Out Values) (May : Type 0) (x : Change) → Decides (in_table k.cells.session o m) (Has k.cells.session o m)
        → (Has k.cells.session o m → Decides (allowed k.cells.session o m) May)
        → Bare m vs May x (of (J.need (in_table k.cells.session o m) (D.Refuse E.NotAuthorized) (J.judge_bare k.cells o m (given false nothing vs) x)))
    unfolding J.judge_bare decided
    bare m vs May x pair may =
        look (λ j. Bare m vs May x (of j)) _ _ _ (dec-not _ pair) (λ n. inl (n, unauthorised)) λ h.
        look (λ j. Bare m vs May x (of j)) _ _ _ (dec-off (given false nothing vs)) (λ f. inr (h, idle (inl (f, invalid)))) λ g.
        look (λ j. Bare m vs May x (of j)) _ _ _ (dec-not _ (may (stable _ pair h))) (λ f. inr (h, idle (inr (g, inl (f, unauthorised))))) λ w.
        look (λ j. Bare m vs May x (of j)) _ _ _ (F.not-not _ (dec-on k.cells.undo.live)) (λ f. inr (h, idle (inr (g, inr (w, idle (inl (f, failed))))))) λ z.
        inr (h, idle (inr (g, inr (w, idle (inr (z, idle (idle refl)))))))

  -- ---- PINs: "class or disabled; Tries = 5; PIN differs"
  module _ (e : J.Ends) (x : Slot) (B X Y Z Ri : Decision → Type 0) (Wr : Decision → Type 0) where
    abbrev pub Compared : Who → Decision → Type 0
    Compared w d =
        When (N.Barred k.cells w) (B d)
        (When ⊥ (X d) (When ⊥ (Y d) (When (N.Full k.cells w) (Z d) (When (N.Differs k (N.bytes_in s x) w) (Wr d) (Ri d)))))

    full : (r : ℕ) → R.tries_at k.cells r ≤ 5 → Decides (not (ltb (R.tries_at k.cells r) 5)) (N.Full k.cells (W.Row r))
    full r m =
        map (λ (h : R.tries_at k.cells r < 5 → ⊥). omega arith) (λ (z : R.tries_at k.cells r ≡ 5) (l : R.tries_at k.cells r < 5). omega arith)
        (dec-not _ (dec-lt (R.tries_at k.cells r) 5))

    pub compared : SoundRecord k → (w : Who) → (N.Unheard w → ⊥) → B e.barred → Z e.full
        → ((r : ℕ) → w ≡ W.Row r → R.tries_at k.cells r < 5 → Wr (e.wrong r)) → Ri (e.right w)
        → Compared w (of (J.judge_who k.cells e w x))
    unfolding J.judge_who decided
    compared sound W.Unknown u b z wr ri = absurd (u tt)
    compared sound W.Anybody u b z wr ri = idle (idle (idle (idle (idle ri))))
    compared sound W.Class u b z wr ri = inl (tt, b)
    compared sound (W.Row r) u b z wr ri =
        look (λ j. Compared (W.Row r) (of j)) (R.enabled_at k.cells.tables r) _ _ (dec-off _) (λ f. inl (f, b)) λ h.
        look (λ j. Compared (W.Row r) (of j)) (ltb (R.tries_at k.cells r) 5) _ _ (full r (sound.tries r)) (λ f. inr (h, idle (idle (inl (f, z))))) λ g.
        cond_ind (Compared (W.Row r)) (matches k.vault r (part s (J.place_of x) (J.count_of x))) _ _
        (λ q. inr (h, idle (idle (inr (g, inr (λ n. n ((F.same-decides _ _).holds q ∙ F.bytes-in s x), ri))))))
        (λ q. inr (h, idle (idle (inr (g, inl (λ n. (F.same-decides _ _).fails q (n ∙ sym (F.bytes-in s x)), wr r refl (below r g)))))))
      where
        below : (r : ℕ) → (N.Full k.cells (W.Row r) → ⊥) → R.tries_at k.cells r < 5
        below r g = omega (arith, g, sound.tries r)
