use Rattle.std.proofs.Common.{◌≡◌, ◌++◌, map, take, string_bytes}
use Rattle.comfy_table.specs.Pieces.{row_lines}
use Rattle.comfy_table.proofs.utils.formatting.content_format.format_content.Given as goal

abbrev pub invariant-loop-row : goal.invariant-loop-row
invariant-loop-row l =
    map (λ lines. map (λ pieces. map string_bytes pieces.items) lines.items) l.content.items
    ≡ map (λ lines. map (λ pieces. map string_bytes pieces.items) lines.items) l.initial.content.items ++ map (row_lines l.table l.display_infos) (take l.row-index l.rows)
