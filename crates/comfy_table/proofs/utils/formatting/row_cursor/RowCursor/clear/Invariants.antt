use Rattle.std.proofs.Common.{length}
use Rattle.comfy_table.proofs.utils.formatting.row_cursor.RowCursor.clear.Given as goal

abbrev pub decreases-loop-cell : goal.decreases-loop-cell
decreases-loop-cell l = length l.self-inside.further.items
