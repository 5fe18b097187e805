-- `line::words::word` meets its contract.
use Rattle.std.proofs.Common.{◌≡◌, sym, true, false, get_or, rules, tests, arith}
use Rattle.std.proofs.lemmas.Iterator.{first_from_Range}
use Rattle.std.proofs.lemmas.List.{get_or_read}
use Rattle.line.specs.Words.{blank, mark}
use Rattle.line.proofs.Walks.{word-none, word-some}
use Rattle.line.proofs.words.word.Goals as goal

pub returns-then-p-s-clause-value : goal.returns-then-p-s-clause-value
returns-then-p-s-clause-value c =
    let s = c.args.s.now in
    let m = first_from_Range _ _ _ c.find.result (λ i. mark (get_or s i 0) ≡ true) (λ i. mark (get_or s i 0) ≡ false) c.find.ensures.ran
    (λ x q k. grind (arith, tests, get_or_read)) (λ x q k. (search (rules, tests), grind (arith, tests, get_or_read))) in
    let n = first_from_Range _ _ _ c.find-2.result (λ i. blank (get_or s i 0) ≡ true) (λ i. blank (get_or s i 0) ≡ false) c.find-2.ensures.ran
    (λ x q k. grind (arith, tests, get_or_read)) (λ x q k. (search (rules, tests), grind (arith, tests, get_or_read))) in
    sym (word-some s c.args.at c.find.result c.find-2.result c.unwrap_or-p.result c.unwrap_or-e.result m c.unwrap_or-p.ensures (omega arith) n c.unwrap_or-e.ensures)

pub returns-else-p-s-clause-value : goal.returns-else-p-s-clause-value
returns-else-p-s-clause-value c =
    let s = c.args.s.now in
    let m = first_from_Range _ _ _ c.find.result (λ i. mark (get_or s i 0) ≡ true) (λ i. mark (get_or s i 0) ≡ false) c.find.ensures.ran
    (λ x q k. grind (arith, tests, get_or_read)) (λ x q k. (search (rules, tests), grind (arith, tests, get_or_read))) in
    sym (word-none s c.args.at c.find.result c.unwrap_or-p.result m c.unwrap_or-p.ensures (omega arith))
