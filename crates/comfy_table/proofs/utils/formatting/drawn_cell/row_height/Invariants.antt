use Rattle.std.proofs.Common.{◌≡◌, max, map, drop}
use Rattle.comfy_table.specs.DrawnCells.{drawn_cell, greatest_height}
use Rattle.comfy_table.specs.RowCells.{row_in}
use Rattle.comfy_table.proofs.utils.formatting.drawn_cell.row_height.Given as goal

abbrev pub invariant-loop-column : goal.invariant-loop-column
invariant-loop-column l =
    max l.height (greatest_height (map (drawn_cell l.table (row_in l.row)) (drop l.column-index l.columns))) ≡ greatest_height (map (drawn_cell l.table (row_in l.row)) l.columns)
