use Rattle.std.proofs.Common.{◌++◌, ◌∷◌, [], ap, map, ◌∙◌}
use Rattle.comfy_parts.specs.CellValue.{CellValue}
use Rattle.comfy_parts.specs.Text.{Text, spaces}
use Rattle.comfy_table.specs.RowCells.{cell_of}
use Rattle.csv_tables.proofs.PlainRowLemmas.{pushed_cell, weighted}
use Rattle.csv_tables.specs.Cells.{field_text}
use Rattle.csv_tables.proofs.cells.push_text.Goals as goal

pub returns-in-Some : goal.returns-in-Some
returns-in-Some c =
    let text : Text = field_text c.args.look.now (c.args.text.now ++ spaces c.args.after) in
    pushed_cell cell_of _ _ _ c.in_ok-push.ensures.items
    ∙ ap (λ (cell : CellValue). map cell_of c.args.cells.now.items ++ cell ∷ []) (c.in-Some.ensures ∙ weighted c.args.is_bold c.args.alignment text _ c.style_of.ensures)
