use Rattle.std.proofs.Common.{arith}
use Rattle.std.proofs.lemmas.Grind.{common_steps}
use Rattle.comfy_table.proofs.utils.formatting.drawn_cell.drawn_cells.Goals as goal

pub loop-column-preserved : goal.loop-column-preserved
loop-column-preserved c = grind (arith, common_steps)
