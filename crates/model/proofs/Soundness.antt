-- The test `sound` decides document 01's clauses of soundness, one by one.
use Prim.Native.Nat.{ℕ, ◌≤◌, ◌<◌}
use mathlib.Core.Path.{◌≡◌, refl, sym, ◌∙◌, ap}
use mathlib.Core.Bool.{Bool, true, false, not, cond, true≢false}
use mathlib.Core.List.{List}
use mathlib.Core.Logic.{⊎_elim}
use native.Mathlib.Omega.{arith}
use borrow.Author.Tests.{eqb-true, eqb-false}
use lib.Dec.{eqb}
use lib.ListN.{length, get_or, replicate, length-replicate, get_or-eq_default, get_or-replicate}
use lib.Seq.{ext_get_or}
use Rattle.ranges.specs.Decides.{Decides}
use Rattle.ranges.specs.Row.{row_count, no_row, row_at}
use Rattle.ranges.proofs.Decide.{le-or-lt, map, from-true, from_false, dec-le, dec-lt, dec-and, dec-imp, dec-all}
use Rattle.ranges.proofs.Fitted.{fit-decides}
use Rattle.model.specs.Types.{Row, Mbr, Tables, PinRow, Session, Cells, Secret, Vault}
use Rattle.model.specs.Record as R
use Rattle.model.specs.Sound.{tables_ok, tries_ok, session_ok, secret_ok, secrets_ok, blank_row, blank_mbr, blank_tables, blank_secrets, undo_ok, sound}
use Rattle.model.specs.Laws.{SoundTables, SoundSession, SoundSecret, SoundSecrets, SoundDecided}

-- ---- more Bools that decide
pub dec-eq : (m n : ℕ) → Decides (eqb m n) (m ≡ n)
dec-eq m n = record { holds = eqb-true m n; fails = eqb-false m n }

pub dec-on : (b : Bool) → Decides b (b ≡ true)
dec-on true = from-true refl refl
dec-on false = from_false refl (λ e. true≢false (sym e))

pub dec-off : (b : Bool) → Decides (not b) (b ≡ false)
dec-off true = from_false refl true≢false
dec-off false = from-true refl refl

-- what cannot fail holds
pub stable : {P : Type 0} (b : Bool) → Decides b P → ((P → ⊥) → ⊥) → P
stable true d f = d.holds refl
stable false d f = absurd (f (d.fails refl))

pub dec-cond : {P Q : Type 0} (a x y : Bool) → Decides x P → Decides y Q → Decides (cond a x y) ((a ≡ true → P) × (a ≡ false → Q))
dec-cond true x y p q = map (λ h. ((λ _. h), (λ e. absurd (true≢false e)))) (λ h. h.0 refl) p
dec-cond false x y p q = map (λ h. ((λ e. absurd (true≢false (sym e))), (λ _. h))) (λ h. h.1 refl) q

-- neither a nor b
dec-neither : {Q : Type 0} (a b : Bool) → Decides (not b) Q → Decides (not (cond a true b)) ((a ≡ false) × Q)
dec-neither true b q = from_false refl (λ h. true≢false h.0)
dec-neither false b q = map (λ h. (refl, h)) (λ h. h.1) q

-- a list of n cells that are each x is n times x
alike : {A : Type 0} (n : ℕ) (x d : A) (l : List A) → length l ≡ n → ((i : ℕ) → i < n → get_or l i d ≡ x) → l ≡ replicate n x
alike n x d l long h =
    ext_get_or d l (replicate n x) (long ∙ sym (length-replicate n x)) (λ i m. h i (omega arith) ∙ sym (get_or-replicate n i x d (omega arith)))

same-cell : {A : Type 0} (n : ℕ) (x d : A) (l : List A) → l ≡ replicate n x → (i : ℕ) → i < n → get_or l i d ≡ x
same-cell n x d l e i m = rw e (get_or-replicate n i x d m)

-- what holds of the cells that are there, and of the default, holds at every index
pub everywhere : {A : Type 0} (P : ℕ → A → Type 0) (n : ℕ) (d : A) (l : List A) → length l ≡ n → ((i : ℕ) → P i d)
    → ((i : ℕ) → i < n → P i (get_or l i d)) → (i : ℕ) → P i (get_or l i d)
everywhere P n d l long z h i = ⊎_elim (λ m. rw (get_or-eq_default l d {n = i} (omega arith)) (z i)) (h i) (le-or-lt n i)

-- ---- tables
pub tables-decides : (n : ℕ) (t : Tables) → Decides (tables_ok n t) (SoundTables n t)
unfolding tables_ok
tables-decides n t =
    map
    (λ p. record { rows = p.0; authorities = p.1.0; sid = p.1.1.0; global = (p.1.1.1.0, p.1.1.1.1.0); fit = p.1.1.1.1.1 })
    (λ h. (h.rows, (h.authorities, (h.sid, (h.global.0, (h.global.1, h.fit))))))
    (dec-and _ _ (dec-eq _ _) (dec-and _ _ (dec-eq _ _) (dec-and _ _ (dec-on _) (dec-and _ _ (dec-eq _ _) (dec-and _ _ (dec-eq _ _) (fit-decides t.rows n))))))

-- ---- try counters
abbrev pub Tries : List PinRow → Type 0
Tries l = (length l ≡ R.pin_count) × ((r : ℕ) → (R.pin_row_at l r).tries ≤ 5)

tries-decides : (l : List PinRow) → Decides (tries_ok l) (Tries l)
unfolding tries_ok
tries-decides l =
    map
    (λ p. (p.0, everywhere (λ i x. x.tries ≤ 5) R.pin_count _ l p.0 (λ i. omega arith) p.1))
    (λ h. (h.0, (λ r m. h.1 r)))
    (dec-and _ _ (dec-eq _ _) (dec-all _ _ (λ r. dec-le _ 5) R.pin_count))

-- ---- the session
abbrev Empty : Session → Type 0
Empty s = (s.locking ≡ false) × ((s.tsn.0 ≡ 0) × ((s.hsn.0 ≡ 0) × ((r : ℕ) → r < R.pin_count → R.proved_at s r ≡ false)))

empty-is : (s : Session) → length s.proved ≡ R.pin_count → s.live ≡ false → Empty s → s ≡ R.no_session
empty-is s long l e =
    let p : s.proved ≡ replicate R.pin_count false = alike R.pin_count false false s.proved long e.1.1.1 in
    λ i. record { live = l i; locking = e.0 i; tsn = record { 0 = e.1.0 i }; hsn = record { 0 = e.1.1.0 i }; proved = p i }

is-empty : (s : Session) → s ≡ R.no_session → Empty s
is-empty s e =
    (ap (λ x. x.locking) e, (ap (λ x. x.tsn.0) e, (ap (λ x. x.hsn.0) e, same-cell R.pin_count false false s.proved (ap (λ x. x.proved) e))))

pub session-decides : (t : Tables) (s : Session) → Decides (session_ok t s) (SoundSession t s)
unfolding session_ok
session-decides t s =
    map
    (λ p. record {
      many = p.0;
      tsn = λ l. (p.1.0 l).0;
      active = λ l. (p.1.0 l).1.0;
      known_admin = λ l a r m h. ((p.1.0 l).1.1 r m h).1 a;
      known_locking = λ l a r m h. ((p.1.0 l).1.1 r m h).0 a;
      none = λ l. empty-is s p.0 l (p.1.1 l);
    })
    (λ h. (h.many, ((λ l. (h.tsn l, (h.active l, (λ r m g. ((λ a. h.known_locking l a r m g), (λ a. h.known_admin l a r m g)))))), (λ l. is-empty s (h.none l)))))
    (dec-and _ _ (dec-eq _ _)
    (dec-cond s.live _ _
    (dec-and _ _ (dec-lt 0 _) (dec-and _ _ (dec-imp _ _ (dec-on _) (dec-on _)) (dec-all _ _ (λ r. dec-imp _ _ (dec-on _) (dec-cond s.locking _ _ (dec-le 1 r) (dec-eq r 0))) R.pin_count)))
    (dec-and _ _ (dec-off _) (dec-and _ _ (dec-eq _ _) (dec-and _ _ (dec-eq _ _) (dec-all _ _ (λ r. dec-off _) R.pin_count))))))

-- ---- PINs
secret-decides : (x : Secret) → Decides (secret_ok x) (SoundSecret x)
unfolding secret_ok
secret-decides x =
    map
    (λ p. record { len = p.0; many = p.1.0; after = everywhere (λ i v. x.len ≤ i → v ≡ 0) R.pin_bytes 0 x.bytes p.1.0 (λ i l. refl) p.1.1 })
    (λ h. (h.len, (h.many, (λ i m. h.after i))))
    (dec-and _ _ (dec-le _ _) (dec-and _ _ (dec-eq _ _) (dec-all _ _ (λ i. dec-imp _ _ (dec-le _ i) (dec-eq _ 0)) R.pin_bytes)))

pub secrets-decides : (l : List Secret) → Decides (secrets_ok l) (SoundSecrets l)
unfolding secrets_ok
secrets-decides l =
    map
    (λ p. record { many = p.0; each = p.1 })
    (λ h. (h.many, h.each))
    (dec-and _ _ (dec-eq _ _) (dec-all _ _ (λ r. secret-decides (R.secret_at l r)) R.pin_count))

-- ---- rollback copies that hold nothing
row-decides : (r : Row) → Decides (blank_row r) (r ≡ no_row)
unfolding blank_row
row-decides r =
    map
    (λ p i. record {
      start = p.0 i;
      length = p.1.0 i;
      read_enabled = p.1.1.0 i;
      write_enabled = p.1.1.1.0 i;
      read_locked = p.1.1.1.1.0 i;
      write_locked = p.1.1.1.1.1.0 i;
      lock_on_program = p.1.1.1.1.1.1 i;
    })
    (λ e. (ap (λ x. x.start) e, (ap (λ x. x.length) e, (ap (λ x. x.read_enabled) e, (ap (λ x. x.write_enabled) e, (ap (λ x. x.read_locked) e, (ap (λ x. x.write_locked) e, ap (λ x. x.lock_on_program) e)))))))
    (dec-and _ _ (dec-eq _ _) (dec-and _ _ (dec-eq _ _) (dec-neither _ _ (dec-neither _ _ (dec-neither _ _ (dec-neither _ _ (dec-off _)))))))

mbr-decides : (m : Mbr) → Decides (blank_mbr m) (m ≡ R.no_mbr)
unfolding blank_mbr
mbr-decides m =
    map
    (λ p i. record { enable = p.0 i; done = p.1.0 i; done_on_program = p.1.1 i })
    (λ e. (ap (λ x. x.enable) e, (ap (λ x. x.done) e, ap (λ x. x.done_on_program) e)))
    (dec-neither _ _ (dec-neither _ _ (dec-off _)))

blank-decides : (t : Tables) → Decides (blank_tables t) (t ≡ R.no_tables)
unfolding blank_tables
blank-decides t =
    map
    (λ p.
    let rows : t.rows ≡ replicate row_count no_row = alike row_count no_row no_row t.rows p.1.0 p.1.1.1.1.0 in
    let enabled : t.enabled ≡ replicate R.pin_count false = alike R.pin_count false false t.enabled p.1.1.0 p.1.1.1.1.1 in
    λ i. record { active = p.0.0 i; rows = rows i; mbr = p.1.1.1.0 i; enabled = enabled i; resettable = p.0.1 i })
    (λ e. (
      (ap (λ x. x.active) e, ap (λ x. x.resettable) e),
      (
        ap (λ x. length x.rows) e,
        (
          ap (λ x. length x.enabled) e,
          (
            ap (λ x. x.mbr) e,
            (same-cell row_count no_row no_row t.rows (ap (λ x. x.rows) e), same-cell R.pin_count false false t.enabled (ap (λ x. x.enabled) e)),
          ),
        ),
      ),
    ))
    (dec-and _ _ (dec-neither _ _ (dec-off _)) (dec-and _ _ (dec-eq _ _) (dec-and _ _ (dec-eq _ _) (dec-and _ _ (mbr-decides t.mbr)
    (dec-and _ _ (dec-all _ _ (λ i. row-decides (row_at t.rows i)) row_count) (dec-all _ _ (λ r. dec-off _) R.pin_count))))))

abbrev NoBytes : List Secret → Type 0
NoBytes l = (r : ℕ) → r < R.pin_count → (R.secret_at l r).len ≡ 0

blank-secrets : (l : List Secret) → Decides (blank_secrets l) (NoBytes l)
unfolding blank_secrets
blank-secrets l = dec-all _ _ (λ r. dec-eq _ 0) R.pin_count

no-secret : (x : Secret) → SoundSecret x → x.len ≡ 0 → x ≡ R.no_secret
no-secret x h e =
    let p : x.bytes ≡ replicate R.pin_bytes 0 = alike R.pin_bytes 0 0 x.bytes h.many (λ i m. h.after i (omega arith)) in
    λ i. record { bytes = p i; len = e i }

nothing-kept : (l : List Secret) → SoundSecrets l → NoBytes l → l ≡ R.no_secrets
nothing-kept l h e = alike R.pin_count R.no_secret _ l h.many (λ r m. no-secret (R.secret_at l r) (h.each r m) (e r m))

no_bytes : (l : List Secret) → l ≡ R.no_secrets → NoBytes l
no_bytes l e r m = ap (λ x. x.len) (same-cell R.pin_count R.no_secret _ l e r m)

-- ---- the record
abbrev Undone : Cells → Vault → Type 0
Undone c v =
    (c.undo.live ≡ true → (c.session.live ≡ true) × (SoundTables c.n c.undo.was × SoundSession c.undo.was c.session))
    × (c.undo.live ≡ false → (c.undo.was ≡ R.no_tables) × NoBytes v.kept)

undo-decides : (c : Cells) (v : Vault) → Decides (undo_ok c v) (Undone c v)
unfolding undo_ok
undo-decides c v =
    dec-cond c.undo.live _ _
    (dec-and _ _ (dec-on _) (dec-and _ _ (tables-decides c.n c.undo.was) (session-decides c.undo.was c.session)))
    (dec-and _ _ (blank-decides c.undo.was) (blank-secrets v.kept))

pub sound-decides : SoundDecided
unfolding sound
sound-decides k =
    map
    (λ p. record {
      size = p.0;
      msid = p.1.0;
      tables = p.1.1.0;
      pins = p.1.1.1.0.0;
      tries = p.1.1.1.0.1;
      next = p.1.1.1.1.0;
      session = p.1.1.1.1.1.0;
      live = p.1.1.1.1.1.1.0;
      kept = p.1.1.1.1.1.1.1.0;
      transaction = λ l. (p.1.1.1.1.1.1.1.1.0 l).0;
      was = λ l. (p.1.1.1.1.1.1.1.1.0 l).1;
      blank = λ l. ((p.1.1.1.1.1.1.1.1.1 l).0, nothing-kept k.vault.kept p.1.1.1.1.1.1.1.0 (p.1.1.1.1.1.1.1.1.1 l).1);
    })
    (λ h. (
      h.size,
      (
        h.msid,
        (
          h.tables,
          (
            (h.pins, h.tries),
            (
              h.next,
              (
                h.session,
                (
                  h.live,
                  (
                    h.kept,
                    ((λ l. (h.transaction l, h.was l)), (λ l. ((h.blank l).0, no_bytes k.vault.kept (h.blank l).1))),
                  ),
                ),
              ),
            ),
          ),
        ),
      ),
    ))
    (dec-and _ _ (dec-and _ _ (dec-le _ _) (dec-le _ _)) (dec-and _ _ (dec-eq _ _) (dec-and _ _ (tables-decides _ _) (dec-and _ _ (tries-decides _)
    (dec-and _ _ (dec-lt 0 _) (dec-and _ _ (session-decides _ _) (dec-and _ _ (secrets-decides _) (dec-and _ _ (secrets-decides _) (undo-decides k.cells k.vault)))))))))
