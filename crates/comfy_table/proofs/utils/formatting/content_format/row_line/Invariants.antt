use Rattle.std.proofs.Common.{◌≡◌, map, take, string_bytes}
use Rattle.comfy_table.specs.DrawnCells.{piece_at}
use Rattle.comfy_table.proofs.utils.formatting.content_format.row_line.Given as goal

abbrev pub invariant-loop-cell : goal.invariant-loop-cell
invariant-loop-cell l = map string_bytes l.pieces.items ≡ map (piece_at l.line) (take l.cell-index l.cells)
