-- What is kept of a line, where there is room and where there is none.
use Prim.Native.Nat.{ℕ, zero, suc, ◌+◌, ◌-◌, ◌≤◌, ◌<◌}
use mathlib.Core.Path.{◌≡◌, refl, sym, ap, ◌∙◌}
use mathlib.Core.Bool.{Bool, true, false, cond, not}
use mathlib.Core.List.{List, [], ◌∷◌, ◌++◌, append-nil}
use native.Mathlib.Omega.{arith}
use native.Mathlib.Nat.{add-zero, zero-add}
use Rattle.std.proofs.Common.{Option, None, Some, unwrap_or}
use Rattle.std.specs.Option.{MatchOption}
use Rattle.std.proofs.lemmas.List.Sums.{prefix_len_is}
use lib.ListN.{length, get_or, take, length-take, length-append, take-append-drop}
use Rattle.token.specs.Bytes.{over}
use Rattle.token.specs.Write.{put_all}
use Rattle.token.proofs.Writes.{over-length, over-over}
use Rattle.line.specs.Words.{first_of}
use Rattle.line.specs.Write.{put_end}
use Rattle.line.proofs.Walks.{first_is}
use Rattle.desk.proofs.Written.{put-there}
use Rattle.desk.specs.Cut.{is_feed, line_end, kept_end, kept, Pieces}

pub keeps : (d s t y : List ℕ) (len r : ℕ) → len ≤ length d → t ≡ take (length d - len) s → r ≡ put_end (length d) len t → y ≡ put_all true d len t
    → (r ≡ kept_end (length d) len s) × (y ≡ kept d len s)
unfolding kept_end kept
keeps d s t y len r h e p q =
    let w = put-there d t y len r p q (omega (arith, ap length e, length-take (length d - len) s)) in
    (w.0 ∙ rw e, w.1 ∙ rw e)

over_none : (d : List ℕ) (at : ℕ) → d ≡ over d at []
unfolding over
over_none d at = rw (append-nil, add-zero) (sym (take-append-drop at d))

pub full : (d s : List ℕ) (len : ℕ) → length d < len → (len ≡ kept_end (length d) len s) × (d ≡ kept d len s)
unfolding kept_end kept
full d s len h =
    let z : length d - len ≡ 0 = omega arith in
    rw z (omega arith, over_none d len)

-- what a search from the place a on found is the first feed, where no place lies before a
pub found-first : (s : List ℕ) (a : ℕ) (r : Option ℕ)
    → MatchOption r ((k : ℕ) → a ≤ k → k < length s → is_feed (get_or s k 0) ≡ false) (λ i. (a ≤ i) × (i < length s) × (is_feed (get_or s i 0) ≡ true) × ((k : ℕ) → a ≤ k → k < i → is_feed (get_or s k 0) ≡ false))
    → ((k : ℕ) → k < length s → a ≤ k) → line_end s ≡ unwrap_or r (length s)
found-first s a None m h =
    first_is is_feed 0 s ∙ zero-add _ ∙ prefix_len_is (λ b. not (is_feed b)) s (length s) 0 (omega arith) (λ k l. ap not (m k (h k l) l)) (λ l. absurd (omega arith))
found-first s a (Some i) m h =
    let g : i < length s = m.1 in
    first_is is_feed 0 s ∙ zero-add _ ∙ prefix_len_is (λ b. not (is_feed b)) s i 0 (omega arith) (λ k l. ap not (m.3 k (h k (omega arith)) l)) (λ l. ap not m.2)

-- ---- in pieces
goes_on : (a b : List ℕ) (p : ℕ) → first_of is_feed p a ≡ p + length a → first_of is_feed p (a ++ b) ≡ first_of is_feed (p + length a) b
unfolding first_of
goes_on [] b p e = rw add-zero
goes_on (x ∷ a) b p e = by (is_feed x) (goes_on a b (p + 1)) e
  where
    q : p + length (x ∷ a) ≡ p + 1 + length a
    q = omega arith

    by : (t : Bool) → (first_of is_feed (p + 1) a ≡ p + 1 + length a → first_of is_feed (p + 1) (a ++ b) ≡ first_of is_feed (p + 1 + length a) b)
        → cond t p (first_of is_feed (p + 1) a) ≡ p + length (x ∷ a) → cond t p (first_of is_feed (p + 1) (a ++ b)) ≡ first_of is_feed (p + length (x ∷ a)) b
    by true f z = absurd (omega arith)
    by false f z = rw q (f (z ∙ q))

-- counted from another place
moved : (k p : ℕ) (l : List ℕ) → first_of is_feed (k + p) l ≡ k + first_of is_feed p l
unfolding first_of
moved k p [] = refl
moved k p (x ∷ l) = by (is_feed x) (moved k (p + 1) l)
  where
    q : k + p + 1 ≡ k + (p + 1)
    q = omega arith

    by : (t : Bool) → first_of is_feed (k + (p + 1)) l ≡ k + first_of is_feed (p + 1) l → cond t (k + p) (first_of is_feed (k + p + 1) l) ≡ k + cond t p (first_of is_feed (p + 1) l)
    by true f = refl
    by false f = rw q f

-- what is taken of two lists, one behind the other
take-both : (k : ℕ) (a b : List ℕ) → take k a ++ take (k - length (take k a)) b ≡ take k (a ++ b)
take-both zero a b = refl
take-both (suc k) [] b = let z : suc k - 0 ≡ suc k = omega arith in rw z
take-both (suc k) (x ∷ a) b =
    let z : suc k - length (x ∷ take k a) ≡ k - length (take k a) = omega arith in
    rw z (ap (λ (l : List ℕ). x ∷ l) (take-both k a b))

-- the room that is left behind a
module _ (n len : ℕ) (a b : List ℕ) where
  left : n - (len + length (take (n - len) a)) ≡ n - len - length (take (n - len) a)
  left = omega arith

  both : take (n - len) a ++ take (n - (len + length (take (n - len) a))) b ≡ take (n - len) (a ++ b)
  both = rw left (take-both (n - len) a b)

  counts : kept_end n (kept_end n len a) b ≡ kept_end n len (a ++ b)
  unfolding kept_end
  counts = rw (← both) (omega (arith, length-append (take (n - len) a) (take (n - (len + length (take (n - len) a))) b)))

buffers : (d : List ℕ) (len : ℕ) (a b : List ℕ) → len ≤ length d → kept (kept d len a) (kept_end (length d) len a) b ≡ kept d len (a ++ b)
unfolding kept kept_end
buffers d len a b h =
    let A : List ℕ = take (length d - len) a in
    let f : len + length A ≤ length d = omega (arith, length-take (length d - len) a) in
    rw (over-length d A len f, over-over d A len f) (ap (over d len) (both (length d) len a b))

places : (a b : List ℕ) → line_end a ≡ length a → line_end (a ++ b) ≡ length a + line_end b
places a b e =
    let z : 0 + length a ≡ length a + 0 = omega arith in
    goes_on a b 0 (e ∙ sym (zero-add (length a))) ∙ (rw z (moved (length a) 0 b))

pub pieces : Pieces
pieces = record {
  place = places;
  count = counts;
  buffer = buffers;
}
