-- A StartSession on an SP that can be opened.
use Rattle.std.specs.Prelude.{ℕ, ◌≡◌, true, false, List, Some}
use Rattle.params.specs.declared.Start.{Start}
use Rattle.model.specs.declared.Cells.{Cells}
use Rattle.model.specs.Uids.{admin_sp, locking_sp}
use Rattle.model.specs.Judge.{need, judge_start}
use Rattle.judge.specs.Asked.{start_on}

module _ (c : Cells) (s : List ℕ) (t : Start) where
  pub on_locking : t.sp ≡ locking_sp → c.tables.active ≡ true → judge_start c s (Some t) ≡ start_on c s true t.hsn t.write t.challenge t.authority
  unfolding need judge_start start_on
  on_locking e a = simp (e, a)

  pub on_admin : t.sp ≡ admin_sp → judge_start c s (Some t) ≡ start_on c s false t.hsn t.write t.challenge t.authority
  unfolding need judge_start start_on
  on_admin e = simp e
