use Rattle.std.proofs.Common.{arith}
use Rattle.comfy_table.proofs.DrawnLineLemmas.{drawn-cut, drawn-uncut}
use Rattle.comfy_table.specs.RowCells.{cell_in, row_within}
use Rattle.comfy_table.proofs.utils.formatting.cell_lines.listed_lines.Goals as goal

pub returns-then-len-height : goal.returns-then-len-height
returns-then-len-height c =
    grind (arith, drawn-uncut c.args.table.now (row_within c.args.limit) c.args.info.now (cell_in c.args.cell) c.in_ok-measured.measured.items)

pub returns : goal.returns
returns c =
    grind (arith, drawn-cut c.args.table.now (row_within c.args.limit) c.args.info.now (cell_in c.args.cell) c.in_ok-measured.measured.items c.unwrap_or-height.result c.index.result.now)
