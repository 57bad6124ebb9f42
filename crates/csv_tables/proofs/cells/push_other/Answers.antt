use Rattle.std.proofs.Common.{◌++◌, ◌∷◌, [], ap, map, ◌∙◌}
use Rattle.comfy_parts.specs.CellValue.{CellValue}
use Rattle.comfy_table.specs.RowCells.{cell_of}
use Rattle.csv_tables.proofs.PlainRowLemmas.{pushed_cell}
use Rattle.csv_tables.proofs.cells.push_other.Goals as goal

pub returns : goal.returns
returns c =
    pushed_cell cell_of _ _ _ c.in_ok-push.ensures.items
    ∙ ap (λ (cell : CellValue). map cell_of c.args.cells.now.items ++ cell ∷ []) c.in_ok-other_cell.ensures
