-- Whatever is answered came as a call on 0, 0, or as a payload of the open session.
use Rattle.std.specs.Prelude.{Option, Some, None}
use Prim.Native.Nat.{ℕ, ◌+◌, ◌≤◌}
use mathlib.Core.Path.{◌≡◌, refl}
use mathlib.Core.List.{List}
use mathlib.Core.Logic.{inl, inr, ⊎_elim}
use native.Mathlib.Omega.{arith}
use lib.ListN.{take}
use Rattle.packet.specs.declared.Packet.{Packet}
use Rattle.packet.specs.Envelope.{opened_of}
use Rattle.payload.specs.declared.Payload.{Payload}
use Rattle.payload.specs.declared.Payload.TheVariants as P
use Rattle.payload.specs.Payload.{payload_at}
use Rattle.ranges.proofs.Decide.{dec-and}
use Rattle.model.specs.Types.{Card}
use Rattle.model.specs.Step.{command}
use Rattle.model.specs.Sound.{sound}
use Rattle.model.specs.Numbers.{First}
use Rattle.model.specs.Statuses.{Heard}
use Rattle.model.proofs.Soundness.{dec-eq, stable}
use Rattle.model.proofs.Sent.{session-decides}
use Rattle.model.proofs.Numbered.{numbers-in-order}
use Rattle.std.proofs.lemmas.Bool.{true_from_ne_false}
use Rattle.model.proofs.Accessed.{dec-or}

-- ---- whatever is answered comes so: no number applies
answered : {n i : ℕ} {A R : Type 0} → n ≡ 0 → 1 ≤ i → First n i A R → (A → ⊥) × R
answered z l (inl p) = absurd (omega (arith, z, l, p.1))
answered z l (inr q) = q

a_call : (p : Payload) → (((o m q : ℕ) → p ≡ P.Call o m q → ⊥) → ⊥) → (o : ℕ) × (m : ℕ) × (q : ℕ) × (p ≡ P.Call o m q)
a_call (P.Call o m q) f = (o, m, q, refl)
a_call P.EndSession f = absurd (f (λ o m q e. cc))
a_call P.Begin f = absurd (f (λ o m q e. cc))
a_call P.Commit f = absurd (f (λ o m q e. cc))
a_call P.Abandon f = absurd (f (λ o m q e. cc))
a_call P.Broken f = absurd (f (λ o m q e. cc))

module _ (k : Card) (room : ℕ) (s : List ℕ) (z : (command k room s).number ≡ 0) where
  by-opened : (x : Option Packet) → opened_of s ≡ x → Heard k room s
  by-opened (Some q) e =
      let t = q.tsn in
      let h = q.hsn in
      let a = q.start in
      let l = q.len in
      let r1 = answered z (omega arith) (numbers-in-order.packets k room s) in
      let r2 = answered z (omega arith) r1.1 in
      let r3 = answered z (omega arith) r2.1 in
      let r4 = answered z (omega arith) r3.1 in
      let r5 = answered z (omega arith) (r4.1 t.0 h.0 a l e) in
      let r6 = answered z (omega arith) r5.1 in
      let p = payload_at (take (a + l) s) a in (
        t.0,
        h.0,
        a,
        l,
        p,
        record {
          sound = true_from_ne_false (sound k) r1.0;
          enough = omega (arith, r2.0);
          size = omega (arith, r3.0);
          says = e;
          payload = refl;
        },
        ⊎_elim (λ q. inl (q.0, q.1, a_call p (λ f. r6.0 (q.0, q.1, f)))) inr
            (stable _ (dec-or _ _ (dec-and _ _ (dec-eq t.0 0) (dec-eq h.0 0)) (session-decides k t h)) (λ n. r5.0 (λ p. n (inl p), λ p. n (inr p)))),
      )
  by-opened None e =
      let r1 = answered z (omega arith) (numbers-in-order.packets k room s) in
      let r2 = answered z (omega arith) r1.1 in
      let r3 = answered z (omega arith) r2.1 in
      absurd ((answered z (omega arith) r3.1).0 e)

  pub every : Heard k room s
  every = by-opened (opened_of s) refl
