use Rattle.std.proofs.Common.{◌≡◌, map, string_bytes}
use Rattle.std.specs.List.{range_with_len}
use Rattle.comfy_table.specs.DrawnCells.{piece_at}
use Rattle.comfy_table.proofs.utils.formatting.content_format.format_row.Given as goal

abbrev pub invariant-loop-line : goal.invariant-loop-line
invariant-loop-line l =
    map (λ pieces. map string_bytes pieces.items) l.lines.items ≡ map (λ k. map (piece_at k) l.cells) (range_with_len 0 l.line)
