-- The vault: it alone reads a stored PIN. What it compares, and what a decision makes it do.
use Rattle.std.specs.Prelude.{ℕ, Bool, true, false, ◌&&◌, cond, List, [], ◌∷◌, set, take, drop, eqb, leb}
use Rattle.model.specs.Types.{Secret, Vault, Change, Decision, Judged}
use Rattle.model.specs.declared.Change.TheVariants as C
use Rattle.model.specs.declared.Decision.TheVariants as D
use Rattle.model.specs.Record as R
use Rattle.model.specs.declared.Judged.TheVariants.{Settled, Compare}

unfoldable pub same : List ℕ → List ℕ → Bool
same [] [] = true
same [] (y ∷ ys) = false
same (x ∷ xs) [] = false
same (x ∷ xs) (y ∷ ys) = eqb x y && same xs ys

-- count bytes of the request s from p on
abbrev pub part : List ℕ → ℕ → ℕ → List ℕ
part s p count = take count (drop p s)

-- the PIN of row r is these bytes
abbrev pub matches : Vault → ℕ → List ℕ → Bool
matches v r p = same (R.pin_of (R.secret_at v.live r)) p

-- what is decided once the vault has answered
unfoldable pub decided : Vault → List ℕ → Judged → Decision
decided v s (Settled d) = d
decided v s (Compare r p n equal differs) = cond (matches v r (part s p n)) equal differs

abbrev pub with_live : Vault → List Secret → Vault
with_live v l = record { live = l; kept = v.kept }

-- the copies are put back, or wiped
abbrev pub put_back : Vault → Vault
put_back v = record { live = v.kept; kept = R.no_secrets }

abbrev pub wiped : Vault → Vault
wiped v = record { live = v.live; kept = R.no_secrets }

-- an open transaction, if there is one, is given up
abbrev pub given_up : Bool → Vault → Vault
given_up live v = cond live (put_back v) (wiped v)

-- what is longer than a PIN is not stored
unfoldable pub obey_change : List ℕ → List ℕ → Vault → Change → Vault
obey_change msid s v C.Nothing = v
obey_change msid s v (C.PutPin r p n) = with_live v (cond (leb n R.pin_bytes) (set v.live r (R.secret_of (part s p n))) v.live)
obey_change msid s v (C.PutEnabled r on) = v
obey_change msid s v (C.PutRange k e) = v
obey_change msid s v (C.PutMbr e) = v
obey_change msid s v (C.PutResettable on) = v
obey_change msid s v C.Activate = with_live v (set v.live 1 (R.secret_at v.live 0))
obey_change msid s v C.RevertLocking = with_live v (set R.no_secrets 0 (R.secret_at v.live 0))
obey_change msid s v C.RevertAdmin = with_live v (R.factory_secrets msid)
obey_change msid s v C.RevertSp = with_live v (set R.no_secrets 0 (R.secret_at v.live 0))

-- live says whether a transaction is open, s is the request
unfoldable pub obey : List ℕ → Bool → List ℕ → Vault → Decision → Vault
obey msid live s v (D.Refuse k) = v
obey msid live s v (D.NotStarted k) = v
obey msid live s v (D.Missed r) = v
obey msid live s v (D.Started locking hsn w) = v
obey msid live s v D.Denied = v
obey msid live s v (D.Mistaken r) = v
obey msid live s v (D.Proved w) = v
obey msid live s v (D.Told o first last) = v
obey msid live s v (D.Done x) = obey_change msid s v x
obey msid live s v D.Began = record { live = v.live; kept = v.live }
obey msid live s v D.BeganAlready = v
obey msid live s v D.Committed = wiped v
obey msid live s v D.Abandoned = put_back v
obey msid live s v D.NoneOpen = v
obey msid live s v D.Ended = given_up live v
obey msid live s v D.Broke = given_up live v
