use Rattle.std.proofs.Common.{◌≡◌, ◌+◌, ℕ, drop, length, map, max}
use Rattle.std.specs.List.{slice_index_or}
use Rattle.comfy_table.specs.RowCells.{cell_of}
use Rattle.comfy_table.specs.TableValue.{cell_content_width}
use Rattle.csv_records.specs.CutLists.{total}
use Rattle.csv_tables.specs.Contents.{greatest_at}
use Rattle.comfy_c.specs.CellCalls.{counts_of, rows_with}
use Rattle.comfy_c.proofs.cells_lent.widen_rows.Given as goal

-- the widths so far, and those of the rows that are left
abbrev pub invariant-loop-row : goal.invariant-loop-row
invariant-loop-row l =
    record {
      widths : (i : ℕ) → max (slice_index_or l.widths.items i 0) (greatest_at l.table cell_content_width (rows_with (drop l.row-index l.rows) (drop l.start (map cell_of l.cells))) i) ≡ max (slice_index_or l.initial.widths.items i 0) (greatest_at l.table cell_content_width (rows_with l.rows (map cell_of l.cells)) i);
      counted : l.start + total (counts_of (drop l.row-index l.rows)) ≡ length l.cells;
    }
