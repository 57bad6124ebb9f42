use Rattle.std.proofs.Common.{◌≡◌, ◌++◌, string_bytes}
use Rattle.comfy_parts.specs.Text.{spaces}
use Rattle.comfy_table.proofs.RowGapLemmas.{joined_to, gap_before}
use Rattle.comfy_table.specs.DrawnCells.{filled, piece_at}
use Rattle.comfy_table.proofs.utils.formatting.row_cursor.RowCursor.push_further_line.Given as goal

abbrev pub invariant-loop-position : goal.invariant-loop-position
invariant-loop-position l =
    (l.gap ≡ gap_before l.position l.gaps)
    × (string_bytes l.text ++ spaces l.free ≡ string_bytes l.initial.text ++ joined_to l.gaps (piece_at l.line) (filled l.columns l.self) l.position)
