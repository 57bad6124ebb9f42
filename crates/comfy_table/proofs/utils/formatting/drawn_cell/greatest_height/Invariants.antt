use Rattle.std.proofs.Common.{◌≡◌, max, drop}
use Rattle.comfy_table.specs.DrawnCells.{greatest_height}
use Rattle.comfy_table.proofs.utils.formatting.drawn_cell.greatest_height.Given as goal

abbrev pub invariant-loop-cell : goal.invariant-loop-cell
invariant-loop-cell l = max l.height (greatest_height (drop l.cell-index l.cells)) ≡ greatest_height l.cells
