use Rattle.std.proofs.Common.{◌≡◌, ℕ, List, ap, arith, map, sym, ◌∙◌, lit<}
use Rattle.std.proofs.lemmas.Grind.{common_steps}
use Rattle.std.proofs.lemmas.List.{map-append}
use Rattle.std.specs.Str.Iter.{split_text, split_has_more, split_pattern}
use Rattle.std.proofs.lemmas.Iterator.Consumers.{YieldsList-end}
use Rattle.std.proofs.lemmas.Iterator.Splits.{YieldsList-from_str_split}
use Rattle.comfy_parts.specs.Text.{Text, greatest}
use Rattle.comfy_table.proofs.ColumnCellLemmas.{greatest-append}
use Rattle.comfy_table.proofs.RowCellLemmas.{clear_measured}
use Rattle.comfy_table.specs.Lines.{cell_delimiter}
use Rattle.comfy_table.specs.LongestLine.{cell_longest_line, text_longest_line}
use Rattle.comfy_table.proofs.utils.arrangement.longest.cell_lines_longest_line.Goals as goal

pub loop-line-preserved : goal.loop-line-preserved
loop-line-preserved c = grind (arith, common_steps, map-append, greatest-append)

pub returns : goal.returns
returns c =
    let table = c.args.table.now in
    let cell = c.args.cell.now in
    let info = c.args.info.now in
    let w = info.content_width in
    let delimiter : c.delimiter_in-delimiter.result ≡ cell_delimiter table info.delimiter cell = grind arith in
    let same = c.into_iter-line-iterator.ensures.into_iter_gives in
    let split = c.split-line-items.ensures in
    let cut = YieldsList-from_str_split 0x0A _ (lit< tt) (ap split_text same ∙ split.text) (ap split_has_more same ∙ split.has_more) (ap split_pattern same ∙ split.pattern) in
    let all = YieldsList-end cut c.loop-line.yielded _ c.loop-line.yielded_by _ _ c.in-None.is c.next.ensures.steps in
    c.loop-line.invariant
    ∙ ap (λ (lines : List Text). greatest (map (text_longest_line w c.delimiter_in-delimiter.result) lines)) (all.0 ∙ sym c.text.ensures.lines)
    ∙ ap (λ (d : ℕ). greatest (map (text_longest_line w d) cell.text_lines)) delimiter
    ∙ sym (ap (cell_longest_line table info) (clear_measured table cell c.text.ensures.clear))
