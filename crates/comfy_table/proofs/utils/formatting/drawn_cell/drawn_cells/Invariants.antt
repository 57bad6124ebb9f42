use Rattle.std.proofs.Common.{◌≡◌, map, take}
use Rattle.comfy_table.specs.DrawnCells.{drawn_cell}
use Rattle.comfy_table.proofs.utils.formatting.drawn_cell.drawn_cells.Given as goal

abbrev pub invariant-loop-column : goal.invariant-loop-column
invariant-loop-column l = l.cells.items ≡ map (drawn_cell l.table l.row) (take l.column-index l.columns)
