use Rattle.std.proofs.Common.{◌≡◌, map, max, drop, string_bytes}
use Rattle.comfy_parts.specs.Text.{greatest}
use Rattle.comfy_table.specs.LongestLine.{cell_longest_line, text_longest_line}
use Rattle.comfy_table.specs.TableValue.{measured_cell}
use Rattle.comfy_table.proofs.table.Table.cell_longest_line.Given as goal

abbrev pub invariant-loop-line : goal.invariant-loop-line
invariant-loop-line l =
    max l.longest (greatest (map (text_longest_line l.info.content_width l.delimiter) (map string_bytes (drop l.line l.texts)))) ≡ cell_longest_line l.self l.info (measured_cell l.self l.cell)
