-- Tries: counted from the events.
use Rattle.std.specs.Prelude.{ℕ, ◌+◌, ◌≤◌, ◌<◌, ◌≡◌, true, cond, List, [], ◌∷◌, eqb}
use Rattle.model.specs.Types.{Card}
use Rattle.model.specs.Record as R
use Rattle.model.specs.Sound.{sound}
use Rattle.model.specs.Step.{Event, next, run}
use Rattle.model.specs.Laws.{Made}
use Rattle.model.specs.Signs as S
use Rattle.model.specs.Signs.{Sign, query, sign, past, SignsOfPins}

-- wrong PINs given for row r since a right one, a Set of it, a restore of its SP or a power cycle; row 0 is the Admin SP's
unfoldable pub wrongs_after : ℕ → Sign → ℕ → ℕ
wrongs_after r S.opens n = n
wrongs_after r (S.enters q) n = cond (eqb q r) 0 n
wrongs_after r (S.proves q) n = cond (eqb q r) 0 n
wrongs_after r (S.misses q) n = cond (eqb q r) (n + 1) n
wrongs_after r (S.puts q b) n = cond (eqb q r) 0 n
wrongs_after r S.activates n = n
wrongs_after r S.reverts_locking n = cond (eqb 0 r) n 0
wrongs_after r S.reverts_sp n = cond (eqb 0 r) n 0
wrongs_after r S.reverts_admin n = 0
wrongs_after r S.begins n = n
wrongs_after r S.commits n = n
wrongs_after r S.abandons n = n
wrongs_after r S.ends n = n
wrongs_after r S.powers n = 0
wrongs_after r S.idles n = n

unfoldable pub wrongs : ℕ → List Sign → ℕ
wrongs r [] = 0
wrongs r (x ∷ old) = wrongs_after r x (wrongs r old)

pub record TriesCounted : Type 0 where
  pub signs : SignsOfPins
  -- what each event does to each counter
  pub step : (k : Card) (e : Event) (r : ℕ) → sound k ≡ true → R.tries_at (next k e).cells r ≡ wrongs_after r (sign k e) (R.tries_at k.cells r)
  -- so it is the number of wrong PINs since it was last set to 0, never above 5, and a sixth comparison never happens
  pub always : (n : ℕ) (msid : List ℕ) (es : List Event) (r : ℕ) → Made n msid
      → R.tries_at (run (R.factory_card n msid) es).cells r ≡ wrongs r (past (R.factory_card n msid) es [])
  pub few : (n : ℕ) (msid : List ℕ) (es : List Event) (r : ℕ) → Made n msid → wrongs r (past (R.factory_card n msid) es []) ≤ 5
  pub no_sixth : (n : ℕ) (msid : List ℕ) (es : List Event) (e : Event) (r : ℕ) (p : List ℕ) → Made n msid
      → query (run (R.factory_card n msid) es) e ≡ S.row r p → wrongs r (past (R.factory_card n msid) es []) < 5
