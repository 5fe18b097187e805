-- What the stores of the writer leave in the buffer.
use Prim.Native.Nat.{ℕ, ◌+◌, ◌≤◌, ◌<◌}
use mathlib.Core.Path.{◌≡◌, refl, ◌∙◌}
use mathlib.Core.List.{List, ◌++◌, append_assoc}
use mathlib.Core.Bool.{true, false}
use mathlib.Core.Logic.{◌⊎◌, ⊎_elim}
use native.Mathlib.Omega.{arith}
use native.Mathlib.Nat.{add_assoc}
use lib.ListN.{length, take, drop, replicate, length-drop, length-replicate}
use lib.Seq.{length-take-le, take-append-add, drop-append-add, drop-drop}
use borrow.Author.Tests.{le-leb, lt-leb, lt-ltb, leb-true, ltb-true}
use Rattle.std.proofs.lemmas.Bool.{false_from_ne_true}
use Rattle.token.specs.Bytes.{be_of, over}
use Rattle.packet.specs.Envelope.{pad_of, header, packet_of, carried, seal_all}
use Rattle.packet.proofs.Envelope.{both}

-- zeros, and six fields over them
pub fields : (d : List ℕ) (tsn hsn n p : ℕ) → p ≡ pad_of n
    → over (over (over (over (over (over (over d 0 (replicate 56 0)) 4 (be_of 2 0x1000)) 16 (be_of 4 (24 + (12 + n + p)))) 20 (be_of 4 tsn)) 24 (be_of 4 hsn)) 40 (be_of 4 (12 + n + p))) 52 (be_of 4 n)
    ≡ header tsn hsn n ++ drop 56 d
unfolding over be_of header
fields d tsn hsn n p e = rw e

pub header-length : (tsn hsn n : ℕ) → length (header tsn hsn n) ≡ 56
unfolding header be_of
header-length tsn hsn n = refl

-- zeros behind n bytes that stand behind m
behind : (h q : List ℕ) (m n p : ℕ) → length h ≡ m → over (h ++ q) (m + n) (replicate p 0) ≡ h ++ take n q ++ replicate p 0 ++ drop (n + p) q
unfolding over
behind h q m n p e = rw (length-replicate, ← e, take-append-add h q n, add_assoc (length h) n p, drop-append-add h q (n + p))

-- what `carried` tests
abbrev pub Carried : ℕ → Type 0
Carried n = (1 ≤ n) × (36 + n + pad_of n < 0x100000000)

pub carried-all : (n : ℕ) → Carried n → carried n ≡ true
unfolding carried
carried-all n h = simp (le-leb _ _ h.0, lt-ltb _ _ h.1)

pub all-carried : (n : ℕ) → carried n ≡ true → Carried n
unfolding carried
all-carried n e = let b = both _ _ e in (leb-true _ _ b.0, ltb-true _ _ b.1)

pub not-carried : (n : ℕ) → (n < 1) ⊎ (0x100000000 ≤ 36 + n + pad_of n) → carried n ≡ false
not-carried n h = false_from_ne_true (carried n) (λ e. ⊎_elim (λ (l : n < 1). absurd (omega (arith, all-carried n e))) (λ (l : 0x100000000 ≤ 36 + n + pad_of n). absurd (omega (arith, all-carried n e))) h)

pub ruleset seals = (carried-all, not-carried, le-leb, lt-leb)

-- what the writer leaves: the pad behind the payload and the header before it
pub seal-done : (d : List ℕ) (tsn hsn n p : ℕ) (last : List ℕ) → p ≡ pad_of n → Carried n → 56 + n + p ≤ length d
    → last ≡ over (header tsn hsn n ++ drop 56 d) (56 + n) (replicate p 0) → last ≡ seal_all d tsn hsn n
unfolding seal_all packet_of
seal-done d tsn hsn n p last e h k q =
    let z : length (take n (drop 56 d)) ≡ n = length-take-le n (drop 56 d) (simp length-drop (omega arith)) in
    rw (carried-all n h, le-leb (56 + n + pad_of n) (length d) (omega arith), z)
    (q ∙ behind (header tsn hsn n) (drop 56 d) 56 n p (header-length tsn hsn n) ∙ rw (drop-drop (n + p) 56 d, e, add_assoc 56 n (pad_of n)) (simp append_assoc))
