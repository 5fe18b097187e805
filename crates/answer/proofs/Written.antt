-- Pieces put into a buffer: by stores, by another crate's writer, one behind another.
use Prim.Native.Nat.{ℕ, ◌+◌, ◌≤◌}
use mathlib.Core.Path.{◌≡◌, refl, sym, ◌∙◌}
use mathlib.Core.Bool.{Bool, true}
use mathlib.Core.List.{List, [], ◌∷◌, ◌++◌}
use native.Mathlib.Omega.{arith}
use native.Mathlib.Nat.{add-zero}
use lib.ListN.{length, set, length-append}
use lib.Seq.{take-length}
use borrow.Rule.Slice.PartMut.{put_mid}
use Rattle.std.proofs.lemmas.Slice.{put_mid-paste}
use Rattle.token.specs.Bytes.{over}
use Rattle.std.specs.Prelude.{Result}
use Rattle.std.specs.Result.{result_unwrap_or}
use Rattle.token.specs.declared.PutError.{PutError}
use Rattle.token.specs.Write.{put_end, put_all}
use Rattle.token.proofs.Writes.{join, over-sets, put-fits, all-fits}
use Rattle.tape.proofs.Walks.{over_none}
use Rattle.answer.specs.Pieces.{Wrote}

-- the same bytes in other words, within a looser bound
pub said : {m n at r : ℕ} {d y bs cs : List ℕ} → Wrote m d at bs r y → bs ≡ cs → m ≤ n → Wrote n d at cs r y
said w e h = rw (← e) (record { place = w.place; buffer = w.buffer; bound = omega arith })

-- one piece behind another
pub behind : {m n at k r : ℕ} {d x y bs cs : List ℕ} → Wrote m d at bs k x → Wrote n x k cs r y → at + m ≤ length d → Wrote (m + n) d at (bs ++ cs) r y
behind {m} {n} {at} {k} {r} {d} {x} {y} {bs} {cs} v w h = record {
  place = omega (arith, length-append bs cs);
  buffer = join d x y bs cs at k v.buffer w.buffer v.place (omega arith);
  bound = omega arith;
}

-- no bytes at all
pub nothing : (n at : ℕ) (d : List ℕ) → Wrote n d at [] at d
nothing n at d = record { place = sym (add-zero at); buffer = sym (over_none d at); bound = omega arith }

-- one store
pub stored : (d : List ℕ) (at b : ℕ) → at + 1 ≤ length d → Wrote 1 d at (b ∷ []) (at + 1) (set d at b)
stored d at b h = record { place = refl; buffer = over-sets d (b ∷ []) at h; bound = omega arith }

-- bytes copied to their place
pub copied : (d ys bs : List ℕ) (at k : ℕ) → ys ≡ bs → k ≡ length bs → Wrote (length bs) d at bs (at + length bs) (put_mid at k d ys)
unfolding over
copied d ys bs at k e h = record { place = refl; buffer = put_mid-paste at k d ys bs (length bs) e (sym h) refl ∙ rw take-length refl; bound = omega arith }

-- what another crate's writer put, where there was room
pub put : (ok : Bool) (n at r : ℕ) (d y bs : List ℕ) (p : Result ℕ PutError) → ok ≡ true → p ≡ put_end ok (length d) at bs → y ≡ put_all ok d at bs → r ≡ result_unwrap_or p at → length bs ≤ n → at + n ≤ length d
    → Wrote n d at bs r y
put ok n at r d y bs p o e f g h k =
    let room : at + length bs ≤ length d = omega arith in
    let end : r ≡ at + length bs = g ∙ rw (e, o, put-fits (length d) at bs room) in
    record { place = end; buffer = f ∙ rw o (all-fits d at bs room); bound = omega arith }
