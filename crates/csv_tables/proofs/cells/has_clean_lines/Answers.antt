use Rattle.std.proofs.Common.{ap, arith, sym, ◌∙◌, lit<}
use Rattle.std.proofs.lemmas.Grind.{common_steps}
use Rattle.std.proofs.lemmas.List.{map-append}
use Rattle.std.proofs.lemmas.List.Folds.{list_any-append}
use Rattle.std.specs.List.{list_any}
use Rattle.std.specs.Str.Iter.{split_text, split_has_more, split_pattern}
use Rattle.std.proofs.lemmas.Iterator.Consumers.{YieldsList-end}
use Rattle.std.proofs.lemmas.Iterator.Splits.{YieldsList-from_str_split}
use Rattle.csv_tables.proofs.PlainRowLemmas.{harmless_lines, is_replaced_in}
use Rattle.csv_tables.proofs.cells.has_clean_lines.Goals as goal

pub loop-line-preserved : goal.loop-line-preserved
loop-line-preserved c = grind (arith, common_steps, map-append, list_any-append)

pub returns : goal.returns
returns c = λ _.
    let same = c.into_iter-line-iterator.ensures.into_iter_gives in
    let split = c.split-line-items.ensures in
    let cut = YieldsList-from_str_split 0x0A _ (lit< tt) (ap split_text same ∙ split.text) (ap split_has_more same ∙ split.has_more) (ap split_pattern same ∙ split.pattern) in
    let all = YieldsList-end cut c.loop-line.yielded _ c.loop-line.yielded_by _ _ c.in-None.is c.next.ensures.steps in
    harmless_lines c.args.text.now c.utf8.text (sym (ap (list_any is_replaced_in) all.0) ∙ c.loop-line.invariant)
