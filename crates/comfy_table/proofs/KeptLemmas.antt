-- The lines of a cell that no height cuts keep its text.
use Rattle.std.proofs.Common.{List, ap, ◌∙◌}
use Rattle.std.specs.List.{concat}
use Rattle.comfy_parts.proofs.CallerLemmas.{lines_keep_the_text}
use Rattle.comfy_parts.specs.CellValue.{CellValue, ColumnInfo, RowValue}
use Rattle.comfy_parts.specs.Laws.{characters_without}
use Rattle.comfy_parts.specs.Text.{Text}
use Rattle.comfy_table.proofs.CutLemmas.{row-measured}
use Rattle.comfy_table.specs.Laws.{CellKeepsItsText}
use Rattle.comfy_table.specs.Lines.{cell_delimiter, cell_lines, cut_text, cut_to_limit}
use Rattle.comfy_table.specs.TableValue.{TableValue, measured_cell}

pub cell_keeps_its_text : (table : TableValue) (row : RowValue) (info : ColumnInfo) (cell : CellValue) → CellKeepsItsText table row info cell
cell_keeps_its_text table row info cell uncut scalar utf8 =
    let d = cell_delimiter table info.delimiter cell in
    ap (λ (lines : List Text). characters_without d (concat lines)) (row-measured table row info cell ∙ ap (λ limit. cut_to_limit (cut_text info.content_width table.indicator) limit (cell_lines info.content_width d (measured_cell table cell))) uncut)
    ∙ lines_keep_the_text info.content_width d (measured_cell table cell).text_lines scalar utf8
