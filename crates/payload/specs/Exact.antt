-- Exactly which bytes are which payload: the five rows of tokens, in both directions. Empty tokens may stand anywhere between, since a token is
-- looked for past them.
use Rattle.std.specs.Prelude.{ℕ, ◌≡◌, List, take, drop}
use Rattle.token.specs.declared.Token.TheVariants as K
use Rattle.token.specs.Token.{token_at}
use Rattle.token.specs.Exact.{worth}
use Rattle.value.specs.Value.{Values}
use Rattle.value.specs.Plain.{plains_in}
use Rattle.value.specs.Read.{Out, ok, bad, values_at}
use Rattle.value.specs.Laws.{Stuffed}
use Rattle.payload.specs.declared.Payload.{Payload}
use Rattle.payload.specs.declared.Payload.TheVariants as P
use Rattle.payload.specs.Payload.{payload_at}

-- ---- what stands at p and ends at q
abbrev pub Control : List ℕ → ℕ → ℕ → ℕ → Type 0
Control s c p q = token_at s p ≡ K.Control c q

abbrev pub Number : List ℕ → ℕ → ℕ → ℕ → Type 0
Number s v p q = token_at s p ≡ K.Int v q

-- "UIDs are 8 bytes"
abbrev pub Uid : List ℕ → ℕ → ℕ → ℕ → Type 0
Uid s u p q = (b : ℕ) × (token_at s p ≡ K.Bytes b 8 q) × (worth (take 8 (drop b s)) ≡ u)

-- values up to F1, in which lists and named values nest to 15 more: "a call's list the first" of 16
abbrev pub Listed : List ℕ → ℕ → ℕ → Type 0
Listed s p q = (vs : Values) × (values_at s 15 p ≡ ok vs q)

-- "Nothing may follow"
abbrev pub Nothing : List ℕ → ℕ → Type 0
Nothing s p = token_at s p ≡ K.End

-- A from p on, and B from where that ends
abbrev pub Then : (ℕ → ℕ → Type 0) → (ℕ → Type 0) → ℕ → Type 0
Then A B p = (q : ℕ) × A p q × B q

-- ---- the five payloads
-- "F8, invoking UID, method UID, a list, F9, F0 00 00 00 F1", with the list's values from params on
abbrev pub Call : List ℕ → ℕ → ℕ → ℕ → ℕ → Type 0
Call s object method params =
    Then (Control s 0xf8)
    (Then (Uid s object)
    (Then (Uid s method)
    (Then (λ p q. Control s 0xf0 p q × (q ≡ params))
    (Then (Listed s)
    (Then (Control s 0xf9)
    (Then (Control s 0xf0)
    (Then (Number s 0)
    (Then (Number s 0)
    (Then (Number s 0)
    (Then (Control s 0xf1)
    (Nothing s)))))))))))

-- "or FA; or FB 00; or FC 00 (commit) or FC 01 (abandon)"; broken is what is left
abbrev pub Says : List ℕ → Payload → ℕ → Type 0
Says s (P.Call object method params) = Call s object method params
Says s P.EndSession = Then (Control s 0xfa) (Nothing s)
Says s P.Begin = Then (Control s 0xfb) (Then (Number s 0) (Nothing s))
Says s P.Commit = Then (Control s 0xfc) (Then (Number s 0) (Nothing s))
Says s P.Abandon = Then (Control s 0xfc) (Then (Number s 1) (Nothing s))
Says s P.Broken = λ p. Unit {0}

abbrev pub Whole : Payload → Type 0
Whole (P.Call object method params) = Unit {0}
Whole P.EndSession = Unit {0}
Whole P.Begin = Unit {0}
Whole P.Commit = Unit {0}
Whole P.Abandon = Unit {0}
Whole P.Broken = ⊥

pub record PayloadsAsSaid : Type 0 where
  pub taken : (s : List ℕ) (p : ℕ) (x : Payload) → Whole x → Says s x p → payload_at s p ≡ x
  pub only : (s : List ℕ) (p : ℕ) → Says s (payload_at s p) p

-- ---- "FF is skipped before and after any token", of a whole payload
-- the same values by their contents
abbrev pub AlikeLists : List ℕ → Out Values → List ℕ → Out Values → Type 0
AlikeLists s (ok vs q) t (ok ws r) = plains_in s vs ≡ plains_in t ws
AlikeLists s (ok vs q) t bad = ⊥
AlikeLists s bad t (ok ws r) = ⊥
AlikeLists s bad t bad = Unit {0}

abbrev pub NoCall : Payload → Type 0
NoCall (P.Call object method params) = ⊥
NoCall P.EndSession = Unit {0}
NoCall P.Begin = Unit {0}
NoCall P.Commit = Unit {0}
NoCall P.Abandon = Unit {0}
NoCall P.Broken = Unit {0}

-- the same call of the same method with the same parameters, wherever these stand; or the same payload
pub data Alike (s t : List ℕ) : Payload → Payload → Type 0 where
  call : (object method a b : ℕ) → AlikeLists s (values_at s 15 a) t (values_at t 15 b) → Alike s t (P.Call object method a) (P.Call object method b)
  other : (x : Payload) → NoCall x → Alike s t x x

abbrev pub Skipped : Type 0
Skipped = (s t : List ℕ) (p q : ℕ) → Stuffed (drop p s) (drop q t) → Alike s t (payload_at s p) (payload_at t q)
