use Rattle.std.proofs.Common.{◌≡◌, ◌+◌, ◌++◌, drop, length, map, string_bytes, true}
use Rattle.comfy_table.specs.Drawing.{part_of_drawing, terminated_text_of}
use Rattle.comfy_table.specs.RowCells.{cell_of}
use Rattle.csv_records.specs.CutLists.{total}
use Rattle.comfy_c.specs.CellCalls.{counts_of, rows_with}
use Rattle.comfy_c.proofs.cells_lent.push_rows.Given as goal

-- the text so far, and the text of the rows that are left
abbrev pub invariant-loop-row : goal.invariant-loop-row
invariant-loop-row l =
    record {
      text : string_bytes l.text ++ terminated_text_of (part_of_drawing l.initial.writer.table l.initial.writer.infos l.is_first true (rows_with (drop l.row-index l.rows) (drop l.start (map cell_of l.cells)))) ≡ string_bytes l.initial.text ++ terminated_text_of (part_of_drawing l.initial.writer.table l.initial.writer.infos true true (rows_with l.rows (map cell_of l.cells)));
      counted : l.start + total (counts_of (drop l.row-index l.rows)) ≡ length l.cells;
      kept : l.writer ≡ l.initial.writer;
    }
