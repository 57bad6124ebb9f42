use Rattle.std.proofs.Common.{◌≡◌, ℕ, List, ap, arith, map, sym, ◌∙◌, lit<}
use Rattle.std.proofs.lemmas.Grind.{common_steps, flat_map-append}
use Rattle.std.proofs.lemmas.List.{map-append}
use Rattle.std.specs.List.{flat_map}
use Rattle.std.specs.Str.Iter.{split_text, split_has_more, split_pattern}
use Rattle.std.proofs.lemmas.Iterator.Consumers.{YieldsList-end}
use Rattle.std.proofs.lemmas.Iterator.Splits.{YieldsList-from_str_split}
use Rattle.comfy_parts.specs.CellValue.{CellValue}
use Rattle.comfy_parts.specs.Text.{Text}
use Rattle.comfy_parts.specs.Wrapping.{lines_of_text}
use Rattle.comfy_table.proofs.RowCellLemmas.{clear_measured}
use Rattle.comfy_table.specs.DrawnLines.{drawn_text}
use Rattle.comfy_table.specs.Lines.{cell_delimiter, cell_lines}
use Rattle.comfy_table.proofs.utils.formatting.cell_lines.several_lines.Goals as goal

pub loop-line-preserved : goal.loop-line-preserved
loop-line-preserved c = grind (arith, common_steps, map-append, flat_map-append)

pub returns : goal.returns
returns c =
    let table = c.args.table.now in
    let cell = c.args.cell.now in
    let info = c.args.info.now in
    let w = info.content_width in
    let delimiter : c.delimiter_in-delimiter.result ≡ cell_delimiter table info.delimiter cell = grind arith in
    let same = c.into_iter-line-iterator.ensures.into_iter_gives in
    let split = c.split-line-items.ensures in
    let cut = YieldsList-from_str_split 0x0A _ (lit< tt) (ap split_text same ∙ split.text) (ap split_has_more same ∙ split.has_more) (ap split_pattern same ∙ split.pattern) in
    let all = YieldsList-end cut c.loop-line.yielded _ c.loop-line.yielded_by _ _ c.in-None.is c.next.ensures.steps in
    c.loop-line.invariant
    ∙ ap (λ (lines : List Text). map drawn_text (flat_map (lines_of_text w c.delimiter_in-delimiter.result) lines)) (all.0 ∙ sym c.text.ensures.lines)
    ∙ ap (λ (d : ℕ). map drawn_text (cell_lines w d cell)) delimiter
    ∙ ap (λ (cell : CellValue). map drawn_text (cell_lines w (cell_delimiter table info.delimiter c.args.cell.now) cell)) (sym (clear_measured table cell c.text.ensures.clear))
