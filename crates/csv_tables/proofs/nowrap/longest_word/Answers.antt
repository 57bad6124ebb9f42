use Rattle.std.proofs.Common.{◌≡◌, ◌∙◌, ap, arith, drop, max}
use Rattle.std.proofs.lemmas.Grind.{common_steps}
use Rattle.std.proofs.lemmas.List.{drop_all}
use Rattle.csv_tables.proofs.WordLemmas.{longest_after, longest_from_start}
use Rattle.csv_tables.proofs.nowrap.longest_word.Goals as goal

pub returns : goal.returns
returns c =
    let last = ap (longest_after c.loop-byte.len) (drop_all c.loop-byte.byte-index c.args.line.now c.loop-byte-test.false) in
    let all : c.max.result ≡ longest_after 0 c.args.line.now = grind (arith, common_steps, last, c.loop-byte.invariant.0, c.max.ensures) in
    all ∙ longest_from_start c.args.line.now
