use Rattle.std.proofs.Common.{◌≡◌, map, max}
use Rattle.comfy_parts.specs.Text.{greatest}
use Rattle.comfy_table.proofs.ColumnCellLemmas.{of_measured}
use Rattle.comfy_table.specs.Lines.{longest_line}
use Rattle.comfy_table.specs.LongestLine.{cell_longest_line}
use Rattle.comfy_table.proofs.utils.arrangement.longest.column_longest_line.Given as goal

abbrev pub invariant-loop-cell : goal.invariant-loop-cell
invariant-loop-cell l =
    max l.longest (greatest (map (of_measured l.table (cell_longest_line l.table l.info)) l.cell-iterator)) ≡ longest_line l.table l.position l.info.delimiter l.info.content_width
