use Rattle.std.proofs.Common.{◌≡◌, drop, map, max, string_bytes}
use Rattle.comfy_parts.specs.Text.{greatest}
use Rattle.comfy_table.specs.TableValue.{measured_cell}
use Rattle.csv_tables.specs.NoWrap.{cell_word_width, word_width}
use Rattle.csv_tables.proofs.needs.lines_word_width.Given as goal

abbrev pub invariant-loop-line : goal.invariant-loop-line
invariant-loop-line l = max l.widest (greatest (map word_width (map string_bytes (drop l.line-index l.lines)))) ≡ cell_word_width (measured_cell l.table l.cell)
