use Rattle.std.proofs.Common.{◌≡◌, ◌≤◌, [], ◌∷◌, ◌++◌, map, ap, ◌∙◌, sym, arith}
use Rattle.comfy_parts.specs.CellValue.{CellValue}
use Rattle.comfy_parts.specs.Text.{Text, measure}
use Rattle.comfy_table.proofs.OneLineLemmas.{measured_line}
use Rattle.comfy_table.proofs.RowCellLemmas.{clear_measured, unescaped}
use Rattle.comfy_table.specs.Lines.{cell_delimiter}
use Rattle.comfy_table.specs.TableValue.{measured_cell}
use Rattle.comfy_table.proofs.utils.formatting.cell_lines.fitting_text.Goals as goal

pub returns : goal.returns
returns c = λ table.
    let cell = c.args.cell.now in
    let info = c.args.info.now in
    let text = c.line-after.result.0.now in
    let end = c.in_ok-end.end.now in
    let clear = c.line-after.ensures.clear in
    let single : cell.text_lines ≡ (text ++ end) ∷ [] = c.line-after.ensures.line ∙ ap (λ (t : Text). (text ++ t) ∷ []) (sym c.in_ok-end.ensures) in
    let wide : map measure (measured_cell table cell).text_lines ≡ c.columns-2.result ∷ [] = ap (λ (cell : CellValue). map measure cell.text_lines) (clear_measured table cell clear) ∙ c.columns-2.ensures.columns in
    let fits : c.columns-2.result ≤ info.content_width = grind arith in
    measured_line table.custom_styling info.content_width (cell_delimiter table info.delimiter cell) cell (text ++ end) c.columns-2.result single wide fits (unescaped table.custom_styling cell clear)
