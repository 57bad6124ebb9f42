use Rattle.std.proofs.Common.{arith}
use Rattle.comfy_table.proofs.DrawnLineLemmas.{drawn-one}
use Rattle.comfy_table.specs.RowCells.{cell_in, row_within}
use Rattle.comfy_table.proofs.utils.formatting.cell_lines.row_cell_lines.Goals as goal

pub returns-in-Some : goal.returns-in-Some
returns-in-Some c = grind (arith, drawn-one c.args.table.now (row_within c.args.limit) c.args.info.now (cell_in c.args.cell))
