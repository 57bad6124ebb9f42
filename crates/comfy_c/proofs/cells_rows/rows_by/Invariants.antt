use Rattle.std.proofs.Common.{◌≡◌, ◌+◌, ◌++◌, drop, length, map}
use Rattle.csv_records.specs.CutLists.{total}
use Rattle.comfy_c.specs.CellCalls.{cells_by, counts_of, rows_with}
use Rattle.comfy_c.proofs.cells_rows.rows_by.Given as goal

abbrev pub invariant-loop-row : goal.invariant-loop-row
invariant-loop-row l =
    record {
      made : rows_with l.rows (cells_by l.cells (map (λ text. text.now) l.texts)) ≡ l.made.items ++ rows_with (drop l.row-index l.rows) (cells_by (drop l.start l.cells) (map (λ text. text.now) (drop l.start l.texts)));
      counted : l.start + total (counts_of (drop l.row-index l.rows)) ≡ length l.cells;
    }
