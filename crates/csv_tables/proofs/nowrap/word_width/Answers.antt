use Rattle.std.proofs.Common.{◌≡◌, ap, arith, length, map, rules, true, ◌∙◌, lit<}
use Rattle.std.proofs.lemmas.Grind.{common_steps}
use Rattle.std.proofs.lemmas.List.{map-append}
use Rattle.std.specs.Str.Iter.{split_text, split_has_more, split_pattern}
use Rattle.std.proofs.lemmas.Iterator.Consumers.{YieldsList-end}
use Rattle.std.proofs.lemmas.Iterator.Splits.{YieldsList-from_str_split}
use Rattle.comfy_parts.specs.Text.{greatest, is_printable_ascii, measure}
use Rattle.comfy_table.proofs.ColumnCellLemmas.{greatest-append}
use Rattle.csv_tables.proofs.WordLemmas.{widest_is_longest, words}
use Rattle.csv_tables.proofs.nowrap.word_width.Goals as goal

pub returns-then-is_printable : goal.returns-then-is_printable
returns-then-is_printable c =
    let printable : is_printable_ascii c.args.line.now ≡ true = search rules in
    let longest : c.longest_word.result ≡ greatest (map length (words c.args.line.now)) = search rules in
    longest ∙ widest_is_longest c.args.line.now printable

pub loop-word-preserved : goal.loop-word-preserved
loop-word-preserved c = grind (arith, common_steps, map-append, greatest-append)

pub returns : goal.returns
returns c =
    let same = c.into_iter-word-iterator.ensures.into_iter_gives in
    let split = c.split-word-items.ensures in
    let cut = YieldsList-from_str_split 0x20 _ (lit< tt) (ap split_text same ∙ split.text) (ap split_has_more same ∙ split.has_more) (ap split_pattern same ∙ split.pattern) in
    let all = YieldsList-end cut c.loop-word.yielded _ c.loop-word.yielded_by _ _ c.in-None.is c.next.ensures.steps in
    c.loop-word.invariant ∙ ap (λ words. greatest (map measure words)) all.0
