use Rattle.std.proofs.Common.{arith}
use Rattle.comfy_table.proofs.ColumnCellLemmas.{longest_line-is}
use Rattle.comfy_table.proofs.utils.arrangement.longest.column_longest_line.Goals as goal

pub loop-cell-init : goal.loop-cell-init
loop-cell-init c = grind (arith, longest_line-is c.args.table.now c.args.info.now)
