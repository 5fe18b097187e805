-- The payload of a packet that is opened lies inside the request.
use Rattle.std.specs.Prelude.{Option, Some}
use Prim.Native.Nat.{ℕ, ◌+◌, ◌≤◌}
use mathlib.Core.Path.{◌≡◌, sym, ◌∙◌, subst}
use mathlib.Core.List.{List}
use native.Mathlib.Omega.{arith}
use lib.ListN.{length}
use Rattle.packet.specs.declared.Packet.{Packet}
use Rattle.packet.specs.Envelope.{opened_of}
use Rattle.packet.specs.Laws.{Contained}
use Rattle.packet.proofs.Envelope.{opened-by}

contained : (s : List ℕ) → Contained (length s) (opened_of s)
contained s = opened-by s (Contained (length s)) (λ f. (f.some, omega arith)) (λ _. tt)

pub inside : (s : List ℕ) (o : Option Packet) (p : Packet) → o ≡ opened_of s → o ≡ Some p → p.start + p.len ≤ length s
inside s o p e f = let g = subst (Contained (length s)) (sym e ∙ f) (contained s) in omega (arith, g.1)
