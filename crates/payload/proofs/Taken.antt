-- A row of tokens that is a payload is read as that payload.
use Prim.Native.Nat.{ℕ}
use mathlib.Core.Path.{◌≡◌, refl, ◌∙◌}
use mathlib.Core.List.{List}
use native.Mathlib.Omega.{arith}
use lib.ListN.{length, take, drop}
use lib.Dec.{lit≤}
use borrow.Author.Tests.{eq-eqb}
use Rattle.token.specs.declared.Token.TheVariants as K
use Rattle.token.specs.Bytes.{number_at}
use Rattle.token.specs.Token.{token_at}
use Rattle.token.specs.Exact.{worth}
use Rattle.token.proofs.Numbers.{number-there}
use Rattle.token.proofs.Worth.{be-worth}
use Rattle.value.specs.Read.{ok, then, mark_of, atom_is}
use Rattle.value.specs.Laws.{AtomLies}
use Rattle.value.proofs.Outs.{Has}
use Rattle.value.proofs.Tokens.{token-held}
use Rattle.payload.specs.declared.Payload.{Payload}
use Rattle.payload.specs.declared.Payload.TheVariants as P
use Rattle.payload.specs.Payload.{mark_at, uid_is, uid_at, int_is, int_at, list_at, status_at, call_at, finish_is, starts_by, is_end, last_of, payload_at}
use Rattle.payload.specs.Exact.{Control, Number, Uid, Listed, Whole, Says}
use Rattle.payload.proofs.Steps.{list-is}

module _ (s : List ℕ) where
  -- ---- what one step reads
  mark-taken : (c p q : ℕ) → Control s c p q → mark_at s c p ≡ ok tt q
  unfolding mark_of
  mark-taken c p q e = rw e (simp (eq-eqb c c refl))

  int-taken : (w p q : ℕ) → Number s w p q → int_at s w p ≡ ok tt q
  unfolding atom_is int_is then
  int-taken w p q e = rw e (simp (eq-eqb w w refl))

  -- the bytes of a token lie within s, so they make a number
  pub number_of : (p b q : ℕ) → token_at s p ≡ K.Bytes b 8 q → number_at s b 8 ≡ worth (take 8 (drop b s))
  number_of p b q e =
      let h : Has AtomLies p (length s) (K.Bytes b 8 q) = rw e at (token-held s p) in
      number-there s b 8 (lit≤ tt) (omega arith) ∙ be-worth (take 8 (drop b s))

  uid-taken : (v p q : ℕ) → Uid s v p q → uid_at s p ≡ ok v q
  unfolding atom_is uid_is then
  uid-taken v p q (b, e, f) = rw (e, number_of p b q e, f)

  list-taken : (p b q : ℕ) → Control s 0xf0 p b → Listed s b q → list_at s p ≡ ok b q
  unfolding then
  list-taken p b q e (vs, f) = rw (list-is s p, mark-taken 0xf0 p b e, f)

  -- ---- whole payloads
  pub taken : (p : ℕ) (x : Payload) → Whole x → Says s x p → payload_at s p ≡ x
  unfolding then atom_is finish_is status_at call_at starts_by is_end last_of
  taken p (P.Call object method params) w (a, h₁, (b, h₂, (c, h₃, (d, h₄, (e, h₅, (f, h₆, (g, h₇, (i, h₈, (j, h₉, (k, h₁₀, (l, h₁₁, n))))))))))) =
      rw (
        h₁,
        uid-taken object a b h₂,
        uid-taken method b c h₃,
        list-taken c d e h₄.0 h₅,
        mark-taken 0xf9 e f h₆,
        mark-taken 0xf0 f g h₇,
        int-taken 0 g i h₈,
        int-taken 0 i j h₉,
        int-taken 0 j k h₁₀,
        mark-taken 0xf1 k l h₁₁,
        n,
        h₄.1,
      )
  taken p P.EndSession w (a, h, n) = rw (h, n)
  taken p P.Begin w (a, h, (b, i, n)) = rw (h, int-taken 0 a b i, n)
  taken p P.Commit w (a, h, (b, i, n)) = rw (h, i, n)
  taken p P.Abandon w (a, h, (b, i, n)) = rw (h, i, n)
  taken p P.Broken w h = absurd w
