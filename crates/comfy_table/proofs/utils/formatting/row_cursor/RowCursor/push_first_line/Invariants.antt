use Rattle.std.proofs.Common.{◌≡◌, ◌++◌, max, map, drop, take, string_bytes}
use Rattle.comfy_parts.specs.Text.{spaces}
use Rattle.comfy_table.proofs.RowGapLemmas.{joined_to, gap_before}
use Rattle.comfy_table.specs.DrawnCells.{AreFurther, drawn_cell, greatest_height, piece_at}
use Rattle.comfy_table.specs.RowCells.{row_in}
use Rattle.comfy_table.proofs.utils.formatting.row_cursor.RowCursor.push_first_line.Given as goal

abbrev pub invariant-loop-column : goal.invariant-loop-column
invariant-loop-column l =
    (l.gap ≡ gap_before l.column-index l.gaps)
    × (string_bytes l.text ++ spaces l.free ≡ string_bytes l.initial.text ++ joined_to l.gaps (piece_at 0) (map (drawn_cell l.table (row_in l.row)) l.columns) l.column-index)
    × (max l.height (greatest_height (map (drawn_cell l.table (row_in l.row)) (drop l.column-index l.columns))) ≡ greatest_height (map (drawn_cell l.table (row_in l.row)) l.columns))
    × AreFurther l.self-inside.further.items (map (drawn_cell l.table (row_in l.row)) (take l.column-index l.columns))
