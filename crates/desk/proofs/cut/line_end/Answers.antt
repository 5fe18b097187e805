-- The first line feed is where a search from the first byte on stops.
use Rattle.std.proofs.Common.{◌≡◌, ◌∙◌, sym, true, false, not, get_or, rules, tests, arith}
use Rattle.std.proofs.lemmas.Iterator.{first_from_Range}
use Rattle.std.proofs.lemmas.List.{get_or_read}
use Rattle.std.proofs.lemmas.List.Sums.{prefix_len-le-length}
use Rattle.line.proofs.Walks.{first_is}
use Rattle.desk.specs.Cut.{is_feed}
use Rattle.desk.proofs.Cuts.{found-first}
use Rattle.desk.proofs.cut.line_end.Goals as goal

pub returns : goal.returns
returns c =
    let s = c.args.s.now in
    let m = first_from_Range _ _ _ c.find.result (λ i. is_feed (get_or s i 0) ≡ true) (λ i. is_feed (get_or s i 0) ≡ false) c.find.ensures.ran
    (λ x q k. grind (arith, tests, get_or_read)) (λ x q k. (search (rules, tests), grind (arith, tests, get_or_read))) in
    let h = c.unwrap_or.ensures ∙ sym (found-first s _ c.find.result m (λ k l. omega arith)) in
    (h, omega (arith, h, first_is is_feed 0 s, prefix_len-le-length (λ b. not (is_feed b)) s))
