use Rattle.std.proofs.Common.{◌≡◌, ◌+◌, drop, length, map, max}
use Rattle.comfy_table.specs.LongestLine.{cell_longest_line}
use Rattle.comfy_table.specs.RowCells.{cell_of}
use Rattle.csv_records.specs.CutLists.{total}
use Rattle.csv_tables.specs.Contents.{greatest_at}
use Rattle.comfy_c.specs.CellCalls.{counts_of, rows_with}
use Rattle.comfy_c.proofs.cells_lent.longest_in_rows.Given as goal

-- the longest line so far, and of the rows that are left
abbrev pub invariant-loop-row : goal.invariant-loop-row
invariant-loop-row l =
    record {
      longest : max l.longest (greatest_at l.table (cell_longest_line l.table l.info) (rows_with (drop l.row-index l.rows) (drop l.start (map cell_of l.cells))) l.position) ≡ greatest_at l.table (cell_longest_line l.table l.info) (rows_with l.rows (map cell_of l.cells)) l.position;
      counted : l.start + total (counts_of (drop l.row-index l.rows)) ≡ length l.cells;
    }
