-- The parts of a record stay sound: tables, sessions and PINs, as each legal change leaves them.
use Rattle.std.proofs.lemmas.Bool.{and_parts}
use Rattle.std.specs.Prelude.{Option, Some, None, unwrap_or, is_none}
use Prim.Native.Nat.{ℕ, zero, suc, ◌-◌, ◌≤◌, ◌<◌}
use mathlib.Core.Path.{◌≡◌, refl, sym, ◌∙◌, ap}
use mathlib.Core.Bool.{Bool, true, false, true≢false}
use mathlib.Core.List.{List, [], ◌∷◌, ◌++◌}
use native.Mathlib.Omega.{arith}
use borrow.Author.Tests.{lt-ltb}
use lib.ListN.{length, get_or, set, drop, replicate, length-set, length-append, length-replicate, length-take, length-map, get_or-eq_default, get_or-replicate}
use lib.Seq.{get_or-set_other, get_or-append_right}
use lib.Dec.{ltb}
use Rattle.ranges.specs.Decides.{imp}
use Rattle.ranges.specs.Row.{row_count, no_row, row_at, Holds}
use Rattle.ranges.specs.Fit.{Fit, fit_b}
use Rattle.ranges.specs.Set.{keeps_span, edited_row, edited, set_ok}
use Rattle.ranges.specs.Reset.{locked_row, reset_rows}
use Rattle.ranges.specs.declared.Edit.{Edit}
use Rattle.ranges.proofs.Fitted.{fit-decides}
use Rattle.ranges.proofs.Mapped.{at_map, reset-fits}
use Rattle.model.specs.Types.{Tsn, Hsn, Row, Mbr, Tables, Session, Secret, Who, PinRow}
use Rattle.model.specs.Record as R
use Rattle.model.specs.Vault.{part}
use Rattle.model.specs.Apply as A
use Rattle.model.specs.Laws.{SoundTables, SoundSession, SoundSecret, SoundSecrets}
use Rattle.model.proofs.Legal as L
use Rattle.model.proofs.Legal.{KnownWho}
use Rattle.model.proofs.Cases.{never}

-- what holds of each cell and of what is put at i holds of each cell after it
pub stored : {A : Type 0} (P : ℕ → A → Type 0) (l : List A) (d : A) (i : ℕ) (a : A) → P i a → ((k : ℕ) → P k (get_or l k d))
    → (k : ℕ) → P k (get_or (set l i a) k d)
stored P [] d i a h f k = f k
stored P (x ∷ xs) d zero a h f zero = h
stored P (x ∷ xs) d zero a h f (suc k) = f (suc k)
stored P (x ∷ xs) d (suc i) a h f zero = f zero
stored P (x ∷ xs) d (suc i) a h f (suc k) = stored (λ m. P (suc m)) xs d i a h (λ m. f (suc m)) k

pub all_same : {A : Type 0} (F : A → Type 0) (n : ℕ) (a d : A) → F a → F d → (i : ℕ) → F (get_or (replicate n a) i d)
all_same F zero a d f g i = g
all_same F (suc n) a d f g zero = f
all_same F (suc n) a d f g (suc i) = all_same F n a d f g i

pub same-all : {A : Type 0} (n i : ℕ) (x : A) → get_or (replicate n x) i x ≡ x
same-all n i x = all_same (λ y. y ≡ x) n x x refl refl i

pub no-tries : (r : ℕ) → (R.pin_row_at R.no_tries r).tries ≡ 0
no-tries r = ap (λ (x : PinRow). x.tries) (same-all {A = PinRow} R.pin_count r (record { tries = 0 }))

-- ---- tables
abbrev Global : Row → Type 0
Global r = (r.start ≡ 0) × (r.length ≡ 0)

kept-number : (x : ℕ) (e : Option ℕ) → is_none e ≡ true → unwrap_or e x ≡ x
kept-number x None h = refl
kept-number x (Some v) h = absurd (true≢false (sym h))

kept-global : (r : Row) (e : Edit) → keeps_span e ≡ true → Global r → Global (edited_row r e)
unfolding edited_row
kept-global r e h g =
    let p = and_parts (is_none e.start) (is_none e.length) h in
    (kept-number r.start e.start p.0 ∙ g.0, kept-number r.length e.length p.1 ∙ g.1)

module _ (n : ℕ) (t : Tables) (h : SoundTables n t) where
  pub put-range : (k : ℕ) (e : Edit) → set_ok t.rows k e n ≡ true → SoundTables n (R.with_rows t (edited t.rows k e))
  unfolding set_ok
  put-range k e ok =
      let p = and_parts (ltb k (length t.rows)) _ ok in
      let q = and_parts (imp (ltb k 1) (keeps_span e)) (fit_b (edited t.rows k e) n) p.1 in
      let spared : k ≡ 0 → keeps_span e ≡ true = λ (z : k ≡ 0). rw (lt-ltb k 1 (omega arith)) at q.0 in
      record {
        rows = length-set t.rows k _ ∙ h.rows;
        authorities = h.authorities;
        sid = h.sid;
        global = stored (λ i r. i ≡ 0 → Global r) t.rows no_row k _ (λ z. kept-global _ e (spared z) (rw z h.global)) (λ i z. rw z h.global) 0 refl;
        fit = (fit-decides (edited t.rows k e) n).holds q.1;
      }

  pub put-enabled : (r : ℕ) (on : Bool) → 1 ≤ r → SoundTables n (R.with_enabled t r on)
  put-enabled r on l = record {
    rows = h.rows;
    authorities = length-set t.enabled r on ∙ h.authorities;
    sid = get_or-set_other t.enabled r 0 on false (λ e. omega arith) ∙ h.sid;
    global = h.global;
    fit = h.fit;
  }

  pub put-mbr : (m : Mbr) → SoundTables n (R.with_mbr t m)
  put-mbr m = record { rows = h.rows; authorities = h.authorities; sid = h.sid; global = h.global; fit = h.fit }

  pub put-resettable : (on : Bool) → SoundTables n (R.with_resettable t on)
  put-resettable on = record { rows = h.rows; authorities = h.authorities; sid = h.sid; global = h.global; fit = h.fit }

  pub put-active : (on : Bool) → SoundTables n (R.with_active t on)
  put-active on = record { rows = h.rows; authorities = h.authorities; sid = h.sid; global = h.global; fit = h.fit }

pub reset-long : (on : Bool) (l : List Row) → length (reset_rows on l) ≡ length l
unfolding reset_rows
reset-long true l = length-map l locked_row
reset-long false l = refl

reset-global : (on : Bool) (l : List Row) → 1 ≤ length l → Global (row_at l 0) → Global (row_at (reset_rows on l) 0)
unfolding reset_rows
reset-global true l m g = rw (at_map locked_row l 0 m) g
reset-global false l m g = g

pub relocked-sound : (n : ℕ) (t : Tables) → SoundTables n t → SoundTables n (A.relocked t)
relocked-sound n t h = record {
  rows = reset-long t.active t.rows ∙ h.rows;
  authorities = h.authorities;
  sid = h.sid;
  global = reset-global t.active t.rows (omega (arith, h.rows)) h.global;
  fit = reset-fits t.active t.rows n h.fit;
}

no-holds : (s : ℕ) → Holds no_row s → ⊥
no-holds s h = omega arith

blank-fit : (n : ℕ) → Fit (replicate row_count no_row) n
blank-fit n = record {
  ends = λ i o l. rw (same-all row_count i no_row) (omega arith);
  apart = λ i j o m l s x y. no-holds s (rw (same-all row_count i no_row) at x);
}

pub restored-sound : (n : ℕ) (t : Tables) → SoundTables n (R.restored_locking t)
restored-sound n t = record { rows = refl; authorities = refl; sid = refl; global = (refl, refl); fit = blank-fit n }

-- ---- sessions
pub no-session : (t : Tables) → SoundSession t R.no_session
no-session t = record { many = refl; tsn = never refl; active = never refl; known_admin = never refl; known_locking = never refl; none = λ _. refl }

-- other tables, active where a session to the Locking SP asks for it
pub re-tabled : (t u : Tables) (s : Session) → (s.locking ≡ true → t.active ≡ true → u.active ≡ true) → SoundSession t s → SoundSession u s
re-tabled t u s f h = record {
  many = h.many;
  tsn = h.tsn;
  active = λ l a. f a (h.active l a);
  known_admin = h.known_admin;
  known_locking = h.known_locking;
  none = h.none;
}

-- an authority that is known is proved
pub proved-session : (t : Tables) (s : Session) {w : Who} → s.live ≡ true → KnownWho s.locking w → SoundSession t s → SoundSession t (A.proved_session s w)
unfolding A.proving
proved-session t s l L.unknown h = h
proved-session t s l L.anybody h = h
proved-session t s l L.class h = h
proved-session t s l (L.row {r = r} k) h = record {
  many = length-set s.proved r true ∙ h.many;
  tsn = h.tsn;
  active = h.active;
  known_admin = λ l a. stored (λ i b. i < R.pin_count → b ≡ true → i ≡ 0) s.proved false r true (λ _ _. k.admin a) (h.known_admin l a);
  known_locking = λ l a. stored (λ i b. i < R.pin_count → b ≡ true → 1 ≤ i) s.proved false r true (λ _ _. k.other a) (h.known_locking l a);
  none = λ e. absurd (true≢false (sym l ∙ e));
}

-- nobody is proved yet
pub fresh-session : (t : Tables) (locking : Bool) (tsn : Tsn) (hsn : Hsn) → 1 ≤ tsn.0 → (locking ≡ true → t.active ≡ true)
    → SoundSession t (record { live = true; locking = locking; tsn = tsn; hsn = hsn; proved = replicate R.pin_count false })
fresh-session t locking tsn hsn l f = record {
  many = refl;
  tsn = λ _. l;
  active = λ _. f;
  known_admin = λ _ a r m h. nobody r m h;
  known_locking = λ _ a r m h. nobody r m h;
  none = λ e. absurd (true≢false e);
}
  where
    nobody : {P : Type 0} (r : ℕ) → r < R.pin_count → get_or (replicate R.pin_count false) r false ≡ true → P
    nobody r m h = never (get_or-replicate R.pin_count r false false m) h

-- ---- PINs
pub put-secret : (l : List Secret) (r : ℕ) (x : Secret) → SoundSecret x → SoundSecrets l → SoundSecrets (set l r x)
put-secret l r x g h = record {
  many = length-set l r x ∙ h.many;
  each = stored (λ i y. i < R.pin_count → SoundSecret y) l _ r x (λ _. g) h.each;
}

zeros-after : (p : List ℕ) (n i : ℕ) → length p ≤ i → get_or (p ++ replicate n 0) i 0 ≡ 0
zeros-after p n i l = get_or-append_right p (replicate n 0) i 0 l ∙ same-all n (i - length p) 0

pub secret-of : (p : List ℕ) → length p ≤ R.pin_bytes → SoundSecret (R.secret_of p)
secret-of p l = record {
  len = l;
  many = length-append p (replicate (R.pin_bytes - length p) 0) ∙ omega (arith, length-replicate {A = ℕ} (R.pin_bytes - length p) 0);
  after = zeros-after p (R.pin_bytes - length p);
}

pub part_of : (s : List ℕ) (p n : ℕ) → n ≤ R.pin_bytes → length (part s p n) ≤ R.pin_bytes
part_of s p n l = omega (arith, length-take n (drop p s))

pub no-secrets : SoundSecrets R.no_secrets
no-secrets = record {
  many = refl;
  each = λ r m. rw (get_or-replicate R.pin_count r R.no_secret _ m) (record { len = omega arith; many = refl; after = λ i l. same-all R.pin_bytes i 0 });
}

pub msid-secret : (msid : List ℕ) → length msid ≡ R.pin_bytes → SoundSecret (record { bytes = msid; len = R.pin_bytes })
msid-secret msid e = record { len = omega arith; many = e; after = λ i l. get_or-eq_default msid 0 {n = i} (omega arith) }
