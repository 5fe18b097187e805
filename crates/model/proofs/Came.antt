-- What is compared and what is taken in an event comes from a packet that document 01 has for it.
use Prim.Native.Nat.{ℕ}
use mathlib.Core.Path.{◌≡◌, sym}
use mathlib.Core.List.{List}
use Rattle.model.specs.Types.{Cells, Card, Decision}
use Rattle.model.specs.Vault as Y
use Rattle.model.specs.Step as Z
use Rattle.model.specs.Step.{Event, packet, powered, was_reset, asked}
use Rattle.model.specs.Seen as E
use Rattle.model.specs.Packets.{Compares, ComesFrom}
use Rattle.model.specs.Signs as S
use Rattle.model.proofs.Asked as Q
use Rattle.model.proofs.Asked.{Ready, AsksHeard}
use Rattle.model.proofs.Given.{heard-asks}
use Rattle.model.proofs.Cases.{whichever}

-- ---- what is compared
asked-for : (c : Cells) {G : ℕ → List ℕ → Type 0} {H : List ℕ → Decision → Type 0} {x : Z.Heard} → AsksHeard c G H x
    → (r : ℕ) (b : List ℕ) → S.query_in x ≡ S.row r b → Ready c r × G r b
unfolding S.query_in S.query_of
asked-for c Q.away r b e = absurd cc
asked-for c (Q.taken (Q.plain p _)) r b e = absurd cc
asked-for c (Q.taken {s = s} (Q.starts {r = q} {p = p} {n = n} none ready g _ _)) r b e =
    let u : q ≡ r = cc in
    let v : Y.part s p n ≡ b = cc in
    rw (sym u, sym v) (ready, g)
asked-for c (Q.taken {s = s} (Q.proves {r = q} {p = p} {n = n} live ready g _ _)) r b e =
    let u : q ≡ r = cc in
    let v : Y.part s p n ≡ b = cc in
    rw (sym u, sym v) (ready, g)

pub where-asked : (k : Card) (e : Event) (r : ℕ) (b : List ℕ) → S.query k e ≡ S.row r b → Ready k.cells r × Compares k e r b
unfolding S.query
where-asked k (packet room s) r b e = asked-for k.cells (heard-asks k room s) r b e
where-asked k powered r b e = absurd cc
where-asked k was_reset r b e = absurd cc
where-asked k (asked write start count) r b e = absurd cc

-- ---- what is taken
taking : (H : List ℕ → Decision → Type 0) (t s : List ℕ) (x d : Decision) → E.took t x ≡ E.took s d → H t x → H s d
taking H t s x d e h =
    let q : x ≡ d = cc in
    let u : t ≡ s = cc in
    rw (u, q) at h

taken-from : (k : Card) {G : ℕ → List ℕ → Type 0} (H : List ℕ → Decision → Type 0) {y : Z.Heard} → AsksHeard k.cells G H y
    → (s : List ℕ) (d : Decision) → E.taken_of k y ≡ E.took s d → H s d
unfolding E.taken_of Y.decided
taken-from k H Q.away s d e = absurd cc
taken-from k H (Q.taken {s = t} (Q.plain {d = x} p h)) s d e = taking H t s x d e h
taken-from k H (Q.taken {s = t} (Q.starts {r = r} {p = p} {n = n} none ready _ f g)) s d e =
    taking H t s _ d e (whichever (H t) (Y.matches k.vault r (Y.part t p n)) _ _ f g)
taken-from k H (Q.taken {s = t} (Q.proves {r = r} {p = p} {n = n} live ready _ f g)) s d e =
    taking H t s _ d e (whichever (H t) (Y.matches k.vault r (Y.part t p n)) _ _ f g)

pub comes : (k : Card) (e : Event) (s : List ℕ) (d : Decision) → E.taken k e ≡ E.took s d → ComesFrom k e s d
unfolding E.taken
comes k (packet room p) s d e = taken-from k (ComesFrom k (packet room p)) (heard-asks k room p) s d e
comes k powered s d e = absurd cc
comes k was_reset s d e = absurd cc
comes k (asked write start count) s d e = absurd cc
