-- Where a walk stops, and so where a word lies.
use Rattle.std.proofs.Common.{ℕ, ◌+◌, ◌-◌, ◌≤◌, ◌<◌, ◌≡◌, ◌∙◌, List, [], ◌∷◌, Bool, true, false, cond, not, arith, length, take, drop, ltb, Option, Some, None, not, unwrap_or, length-drop, ⊎_elim, zero, suc, ◌||◌, ap, sym, get_or}
use Rattle.std.specs.List.{position_or_len, prefix_len, list_any}
use Rattle.std.specs.Option.{MatchOption}
use borrow.Author.Tests.{lt-ltb, le-ltb}
use Rattle.std.proofs.lemmas.List.{get_or-drop}
use Rattle.std.proofs.lemmas.List.Sums.{prefix_len_is}
use Rattle.token.proofs.Laws.{lt-or-le}
use Rattle.line.specs.Words.{blank, mark, first_of, first_at, word_at, part}

-- a walk, in the library's words
pub first_is : (t : ℕ → Bool) (p : ℕ) (l : List ℕ) → first_of t p l ≡ p + position_or_len t l
unfolding first_of
first_is t p [] = omega arith
first_is t p (b ∷ l) = elim (t b) as (λ v. cond v p (first_of t (p + 1) l) ≡ p + cond (not v) (1 + position_or_len t l) 0) [ true ↦ omega arith | false ↦ omega (arith, first_is t (p + 1) l) ]

-- a walk through n bytes that stops before their end
pub stops_any : (t : ℕ → Bool) (p : ℕ) (l : List ℕ) (n : ℕ) → n ≤ length l → ltb (first_of t p l) (p + n) ≡ list_any t (take n l)
unfolding first_of
stops_any t p [] zero h = le-ltb p (p + 0) (omega arith)
stops_any t p [] (suc n) h = absurd (omega arith)
stops_any t p (b ∷ l) zero h = le-ltb (first_of t p (b ∷ l)) (p + 0) (omega (arith, first_is t p (b ∷ l)))
stops_any t p (b ∷ l) (suc n) h =
    let k : p + suc n ≡ (p + 1) + n = omega arith in
    elim (t b) as (λ v. ltb (cond v p (first_of t (p + 1) l)) (p + suc n) ≡ (v || list_any t (take n l)))
    [ true ↦ lt-ltb p (p + suc n) (omega arith) | false ↦ rw k (stops_any t (p + 1) l n (omega arith)) ]

-- the same of the word from p to e
pub past_any : (t : ℕ → Bool) (s : List ℕ) (p e : ℕ) → p ≤ e → e ≤ length s → ltb (first_at t s p) e ≡ list_any t (part s p e)
past_any t s p e h k =
    let q : p + (e - p) ≡ e = omega arith in
    rw q at (stops_any t p (drop p s) (e - p) (omega (arith, length-drop p s)))

-- what a search over the places from at on answers
abbrev pub Found : (ℕ → Bool) → List ℕ → ℕ → Option ℕ → Type 0
Found t s at r =
    MatchOption r ((k : ℕ) → at ≤ k → k < length s → t (get_or s k 0) ≡ false) (λ i. (at ≤ i) × (i < length s) × (t (get_or s i 0) ≡ true) × ((k : ℕ) → at ≤ k → k < i → t (get_or s k 0) ≡ false))

-- is where the walk stops
pub found_at : (t : ℕ → Bool) (s : List ℕ) (at : ℕ) (r : Option ℕ) → at ≤ length s → Found t s at r → first_at t s at ≡ unwrap_or r (length s)
found_at t s at None h m =
    let l = length-drop at s in
    let f = first_is t at (drop at s) in
    let e : prefix_len (λ x. not (t x)) (drop at s) ≡ length s - at =
    prefix_len_is (λ x. not (t x)) (drop at s) (length s - at) 0 (omega arith)
    (λ (k : ℕ) (g : k < length s - at). ap (λ x. not (t x)) (get_or-drop at s k 0) ∙ ap not (m (at + k) (omega arith) (omega arith)))
    (λ (g : length s - at < length (drop at s)). absurd (omega arith)) in
    omega (arith, f, e)
found_at t s at (Some i) h m =
    let a : at ≤ i = m.0 in
    let b : i < length s = m.1 in
    let l = length-drop at s in
    let f = first_is t at (drop at s) in
    let q : at + (i - at) ≡ i = omega arith in
    let e : prefix_len (λ x. not (t x)) (drop at s) ≡ i - at =
    prefix_len_is (λ x. not (t x)) (drop at s) (i - at) 0 (omega arith)
    (λ (k : ℕ) (g : k < i - at). ap (λ x. not (t x)) (get_or-drop at s k 0) ∙ ap not (m.3 (at + k) (omega arith) (omega arith)))
    (λ g. ap (λ x. not (t x)) (get_or-drop at s (i - at) 0) ∙ ap (λ x. not (t (get_or s x 0))) q ∙ ap not m.2) in
    omega (arith, f, e)

-- so the next word from at on lies there
module _ (s : List ℕ) (at : ℕ) where
  pub word-none : (r : Option ℕ) (p : ℕ) → Found mark s at r → p ≡ unwrap_or r (length s) → length s ≤ p → word_at s at ≡ None
  unfolding word_at
  word-none r p m e k =
      ⊎_elim
      (λ (h : length s < at). rw (le-ltb (first_at mark s at) (length s) (omega (arith, first_is mark at (drop at s)))))
      (λ (h : at ≤ length s). rw (le-ltb (first_at mark s at) (length s) (omega (arith, e, found_at mark s at r h m))))
      (lt-or-le (length s) at)

  pub word-some : (r q : Option ℕ) (p e : ℕ) → Found mark s at r → p ≡ unwrap_or r (length s) → p < length s → Found blank s p q → e ≡ unwrap_or q (length s)
      → word_at s at ≡ Some (p, e)
  unfolding word_at
  word-some None q p e m u h n v = absurd (omega arith)
  word-some (Some i) q p e m u h n v =
      let a : at ≤ i = m.0 in
      let f : first_at mark s at ≡ p = found_at mark s at (Some i) (omega arith) m ∙ sym u in
      let g : first_at blank s p ≡ e = found_at blank s p q (omega arith) n ∙ sym v in
      rw (f, lt-ltb p (length s) h, g)
