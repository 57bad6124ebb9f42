use Rattle.std.proofs.Common.{arith}
use Rattle.comfy_table.proofs.ColumnCellLemmas.{greatest_measured}
use Rattle.comfy_table.specs.TableValue.{cell_content_width}
use Rattle.comfy_table.proofs.table.content.column_content_width.Goals as goal

pub loop-cell-init : goal.loop-cell-init
loop-cell-init c = grind (arith, greatest_measured c.args.table.now cell_content_width)
