use Rattle.std.proofs.Common.{◌∙◌, ap, ◌≡◌}
use Rattle.std.specs.List.{list_any}
use Rattle.comfy_parts.specs.VisibleText.{has_escape}
use Rattle.comfy_table.proofs.DrawnLineLemmas.{drawn-measured}
use Rattle.comfy_table.proofs.RowCellLemmas.{unescaped}
use Rattle.comfy_table.specs.RowCells.{cell_in, row_within}
use Rattle.std.proofs.Common.{false, None}
use Rattle.comfy_table.proofs.utils.formatting.cell_lines.uncut_lines.Goals as goal

pub returns-in-Line : goal.returns-in-Line
returns-in-Line c =
    let table = c.args.table.now in
    let cell = cell_in c.args.cell in
    let clear : list_any has_escape cell.text_lines ≡ false = ap (λ source. list_any has_escape (cell_in source).text_lines) c.in-Line.is ∙ c.line.ensures.clear in
    c.requires ∙ drawn-measured table (row_within None) c.args.info.now cell (unescaped table.custom_styling cell clear)

pub returns-in-Lines : goal.returns-in-Lines
returns-in-Lines c =
    let table = c.args.table.now in
    let cell = cell_in c.args.cell in
    let clear : list_any has_escape cell.text_lines ≡ false = ap (λ source. list_any has_escape (cell_in source).text_lines) c.in-Lines.is ∙ c.text.ensures.clear in
    c.requires ∙ drawn-measured table (row_within None) c.args.info.now cell (unescaped table.custom_styling cell clear)
