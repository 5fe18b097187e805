use Prim.Native.Nat.{◌+◌}
use mathlib.Core.Path.{◌≡◌}
use native.Mathlib.Omega.{arith}
use lib.ListN.{length}
use borrow.Author.Rules.{rules}
use Rattle.tape.specs.Write.{enc_value}
use Rattle.answer.proofs.Written.{behind}
use Rattle.answer.proofs.Listed.{rest-short, still-short, still-more, still-last}
use Rattle.answer.proofs.put_columns.Goals as goal
use Rattle.answer.proofs.put_columns.Goals.{At-loop-k, else-loop-k-test, then-loop-k-test+else-k-last}

many : (c : At-loop-k) → length c.args.c.msid ≡ 32
many c = search rules

pub put_column-p-requires : goal.put_column-p-requires
put_column-p-requires c = omega (arith, still-short _ _ _ _ _ _ _ _ _ c.loop-k.invariant.0 (many ((goal.at.put_column-p-requires c).At-loop-k)))

pub loop-k-preserved : goal.loop-k-preserved
loop-k-preserved c =
    let told = c.look_up-allowed.ensures.columns c.loop-k.k in
    (still-more _ _ _ _ _ _ _ _ _ c.loop-k.invariant.0 _ _ 45 _ _ c.put_column-p.ensures told (grind arith) (omega arith) (omega (arith, still-short _ _ _ _ _ _ _ _ _ c.loop-k.invariant.0 (many ((goal.at.loop-k-preserved c).At-loop-k)))), search rules)

pub put_byte-requires : goal.put_byte-requires
put_byte-requires c =
    let still = c.loop-k.invariant.0 in
    let msid : length c.args.c.msid ≡ 32 = search rules in
    elim c.loop-k-test.branch [
      | else-loop-k-test w ↦ rw (w.out-is, w.p-is) (omega (arith, still-short _ _ _ _ _ _ _ _ _ still msid))
      | then-loop-k-test+else-k-last w ↦
          let next = still-more _ _ _ _ _ _ _ _ _ still _ _ 45 _ _ w.put_column-p.ensures (c.look_up-allowed.ensures.columns c.loop-k.k) (grind arith) (omega arith) (omega (arith, still-short _ _ _ _ _ _ _ _ _ still msid)) in
          rw (w.out-is, w.p-is) (omega (arith, still-short _ _ _ _ _ _ _ _ _ next msid))
    ]

pub returns : goal.returns
unfolding enc_value
returns c =
    let still = c.loop-k.invariant.0 in
    let msid : length c.args.c.msid ≡ 32 = search rules in
    let short = rest-short c.args.c c.args.o (c.args.last + 1) c.args.first msid in
    elim c.loop-k-test.branch [
      | else-loop-k-test w ↦
          behind c.put_byte-p.ensures (still-last _ _ _ _ _ _ _ _ _ still 901 _ _ (rw (w.out-is, w.p-is) at c.put_byte.ensures) (omega arith) short) (omega arith)
      | then-loop-k-test+else-k-last w ↦
          let next = still-more _ _ _ _ _ _ _ _ _ still _ _ 45 _ _ w.put_column-p.ensures (c.look_up-allowed.ensures.columns c.loop-k.k) (grind arith) (omega arith) (omega (arith, still-short _ _ _ _ _ _ _ _ _ still msid)) in
          behind c.put_byte-p.ensures (still-last _ _ _ _ _ _ _ _ _ next 901 _ _ (rw (w.out-is, w.p-is) at c.put_byte.ensures) (omega arith) short) (omega arith)
    ]
