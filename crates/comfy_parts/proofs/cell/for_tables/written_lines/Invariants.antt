use Rattle.std.proofs.Common.{◌≡◌, ◌++◌, [], drop, map, string_bytes}
use Rattle.comfy_parts.specs.Cursor.{open_at_end}
use Rattle.comfy_parts.proofs.cell.for_tables.written_lines.Given as goal
use Rattle.comfy_parts.proofs.WrittenLemmas.{written_past}

abbrev pub invariant-loop-position : goal.invariant-loop-position
invariant-loop-position l =
    map string_bytes l.lines.items ++ written_past l.info.content_width l.fn.delimiter (open_at_end l.cursor) (drop l.position (map string_bytes l.texts))
    ≡ written_past l.info.content_width l.fn.delimiter [] (map string_bytes l.texts)
