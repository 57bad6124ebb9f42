use Rattle.std.proofs.Common.{List, ap, arith, map, sym, ◌∙◌, lit<}
use Rattle.std.proofs.lemmas.Grind.{common_steps}
use Rattle.std.proofs.lemmas.List.{map-append}
use Rattle.std.specs.Str.Iter.{split_text, split_has_more, split_pattern}
use Rattle.std.proofs.lemmas.Iterator.Consumers.{YieldsList-end}
use Rattle.std.proofs.lemmas.Iterator.Splits.{YieldsList-from_str_split}
use Rattle.comfy_parts.specs.Text.{Text, greatest}
use Rattle.comfy_table.proofs.ColumnCellLemmas.{greatest-append}
use Rattle.comfy_table.proofs.RowCellLemmas.{clear_measured}
use Rattle.csv_tables.specs.NoWrap.{cell_word_width, word_width}
use Rattle.csv_tables.proofs.needs.lent_word_width.Goals as goal

pub loop-line-preserved : goal.loop-line-preserved
loop-line-preserved c = grind (arith, common_steps, map-append, greatest-append)

pub returns : goal.returns
returns c = λ table.
    let cell = c.args.cell.now in
    let same = c.into_iter-line-iterator.ensures.into_iter_gives in
    let split = c.split-line-items.ensures in
    let cut = YieldsList-from_str_split 0x0A _ (lit< tt) (ap split_text same ∙ split.text) (ap split_has_more same ∙ split.has_more) (ap split_pattern same ∙ split.pattern) in
    let all = YieldsList-end cut c.loop-line.yielded _ c.loop-line.yielded_by _ _ c.in-None.is c.next.ensures.steps in
    c.loop-line.invariant
    ∙ ap (λ (lines : List Text). greatest (map word_width lines)) (all.0 ∙ sym c.text.ensures.lines)
    ∙ sym (ap cell_word_width (clear_measured table cell c.text.ensures.clear))
