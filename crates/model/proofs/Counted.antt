-- After any run what stands is what the signs of its events tell: Tries, the session, and who is proved in it.
use Prim.Native.Nat.{ℕ}
use mathlib.Core.Path.{◌≡◌, refl, sym, ◌∙◌, ap}
use mathlib.Core.Bool.{false}
use mathlib.Core.List.{List, [], ◌∷◌}
use Rattle.model.specs.Types.{Cells, Card}
use Rattle.model.specs.Record as R
use Rattle.model.specs.Step.{Event, next, run}
use Rattle.model.specs.Laws.{SoundRecord, Made}
use Rattle.model.specs.Signs as S
use Rattle.model.specs.Tries.{wrongs_after, wrongs, TriesCounted}
use Rattle.model.specs.Proved.{open_after, proved_after, is_open, is_proved, ProvedAsTold}
use Rattle.model.proofs.Soundness.{sound-decides}
use Rattle.model.proofs.Parts.{same-all, no-tries}
use Rattle.model.proofs.Reached.{next-sound, factory-sound, run_sound}
use Rattle.model.proofs.Came.{where-asked, comes}
use Rattle.model.proofs.Verdicts.{signs-of-pins}
use Rattle.model.proofs.Compared.{compares}
use Rattle.model.proofs.Controls.{controls}
use Rattle.model.proofs.Opening.{opened}
use Rattle.model.proofs.Told.{Tells, told}

-- ---- a run
record Stands (r : ℕ) (c : Cells) (old : List S.Sign) : Type 0 where
  live : c.session.live ≡ is_open old
  proved : R.proved_at c.session r ≡ is_proved r old
  tries : R.tries_at c r ≡ wrongs r old

onward : (r : ℕ) (c d : Cells) (x : S.Sign) (old : List S.Sign) → Tells r c d x → Stands r c old → Stands r d (x ∷ old)
unfolding is_open is_proved wrongs
onward r c d x old t s = record {
  live = t.live ∙ ap (open_after x) s.live;
  proved = t.proved ∙ ap (proved_after r x) s.proved;
  tries = t.tries ∙ ap (wrongs_after r x) s.tries;
}

over : (r : ℕ) (k : Card) (es : List Event) (old : List S.Sign) → SoundRecord k → Stands r k.cells old → Stands r (run k es).cells (S.past k es old)
unfolding run S.past
over r k [] old h s = s
over r k (e ∷ es) old h s = over r (next k e) es (S.sign k e ∷ old) (next-sound k e h) (onward r _ _ (S.sign k e) old (told r k h e) s)

fresh : (r n : ℕ) (msid : List ℕ) → Stands r (R.factory_cells n msid) []
unfolding is_open is_proved wrongs
fresh r n msid = record {
  live = refl;
  proved = same-all R.pin_count r false;
  tries = no-tries r;
}

stands : (r n : ℕ) (msid : List ℕ) (es : List Event) → Made n msid → Stands r (run (R.factory_card n msid) es).cells (S.past (R.factory_card n msid) es [])
stands r n msid es m = over r (R.factory_card n msid) es [] (factory-sound n msid m) (fresh r n msid)

-- ---- the laws
pub tries-counted : TriesCounted
tries-counted = record {
  signs = signs-of-pins;
  step = λ k e r h. (told r k ((sound-decides k).holds h) e).tries;
  always = λ n msid es r m. (stands r n msid es m).tries;
  few = λ n msid es r m. rw (sym (stands r n msid es m).tries) ((run_sound _ es (factory-sound n msid m)).tries r);
  no_sixth = λ n msid es e r p m q. rw (sym (stands r n msid es m).tries) (where-asked _ e r p q).0.few;
}

pub proved-as-told : ProvedAsTold
proved-as-told = record {
  signs = signs-of-pins;
  only = λ k e r b q. (where-asked k e r b q).1;
  ready = λ k e r b q. let x = (where-asked k e r b q).0 in (x.enabled, x.few);
  always = compares;
  comes = comes;
  controls = controls;
  opened = opened;
  session = λ n msid es m. (stands 0 n msid es m).live;
  proved = λ n msid es r m. (stands r n msid es m).proved;
}
