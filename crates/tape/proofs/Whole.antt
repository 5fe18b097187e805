-- What the writer and the reader of a whole value answer and leave.
use Rattle.std.specs.Prelude.{Result, Ok, Err, Some, None}
use Prim.Native.Nat.{ℕ, ◌+◌, ◌*◌, ◌/◌, ◌≤◌, ◌<◌}
use mathlib.Core.Path.{◌≡◌, refl, sym, ◌∙◌}
use mathlib.Core.List.{List}
use native.Mathlib.Omega.{arith}
use lib.ListN.{length}
use lib.Dec.{leb}
use borrow.Author.Tests.{le-leb, lt-leb, leb-true, leb-false}
use Rattle.token.specs.declared.PutError.{PutError}
use Rattle.token.specs.declared.PutError.TheVariants as P
use Rattle.token.specs.Write.{put_end}
use Rattle.token.proofs.Writes.{cond-all, all-full}
use Rattle.value.specs.Value.{Value}
use Rattle.value.specs.Read.{Out, ok, bad, end_of}
use Rattle.value.specs.Plain.{plain_in}
use Rattle.tape.specs.declared.TookError.TheVariants as T
use Rattle.tape.specs.Write.{enc_value, wrote_end, wrote_all}
use Rattle.tape.specs.Words.{took_end, took_all}
use Rattle.tape.specs.Steps.{bytes_in, words_in}
use Rattle.tape.proofs.Flat.{no_end, took-end, took-all}

-- ---- the writer
module _ (bs d : List ℕ) (at : ℕ) where
  -- where it answers a place, there is room; where not, it leaves the buffer as it is
  abbrev pub Leaves : Result ℕ PutError → Out Value → Type 0
  Leaves (Ok z) o = at + length (bytes_in bs o) ≤ length d
  Leaves (Err e) o = d ≡ wrote_all bs d at o

  leaves-so : (o : Out Value) → Leaves (wrote_end bs (length d) at o) o
  unfolding wrote_end wrote_all bytes_in put_end
  leaves-so (ok v q) =
      let x : List ℕ = enc_value (plain_in bs v) in
      cond-all (λ (r : Result ℕ PutError). Leaves r (ok v q)) (leb (at + length x) (length d)) (Ok (at + length x)) (Err P.Full)
      (λ e. leb-true (at + length x) (length d) e) (λ e. sym (all-full d at x (leb-false (at + length x) (length d) e)))
  leaves-so bad = refl

  pub leaves : (r : Result ℕ PutError) (o : Out Value) → r ≡ wrote_end bs (length d) at o → Leaves r o
  leaves r o e = rw e (leaves-so o)

  pub wrote_none : (n : ℕ) (o : Out Value) → end_of o ≡ None → (Err P.Outside ≡ wrote_end bs n at o) × (d ≡ wrote_all bs d at o)
  unfolding wrote_end wrote_all end_of
  wrote_none n (ok v q) e = no_end (sym e)
  wrote_none n bad e = (refl, refl)

-- ---- the reader
module _ (t : List ℕ) (i : ℕ) (o : Out Value) where
  pub took-fits : (n m z : ℕ) → end_of o ≡ Some z → m * 3 ≡ length (words_in o) → i * 3 + length (words_in o) ≤ n → Ok (record { node = i + m; next = z }) ≡ took_end n i o
  took-fits n m z e c h =
      let k : length (words_in o) / 3 ≡ m = omega arith in
      sym (took-end i z n o e ∙ rw (le-leb (i * 3 + length (words_in o)) n h, k))

  pub took-full : (z : ℕ) → end_of o ≡ Some z → length t < i * 3 + length (words_in o) → (Err T.Full ≡ took_end (length t) i o) × (t ≡ took_all t i o)
  took-full z e h =
      (sym (took-end i z (length t) o e ∙ rw (lt-leb (i * 3 + length (words_in o)) (length t) h)), sym (took-all i z t o e ∙ all-full t (i * 3) (words_in o) h))

pub took-none : (t : List ℕ) (n i : ℕ) (o : Out Value) → end_of o ≡ None → (Err T.Broken ≡ took_end n i o) × (t ≡ took_all t i o)
unfolding took_end took_all end_of
took-none t n i (ok v q) e = no_end (sym e)
took-none t n i bad e = (refl, refl)
