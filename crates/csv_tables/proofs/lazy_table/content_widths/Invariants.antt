use Rattle.std.proofs.Common.{◌≡◌, ℕ, true, length, max}
use Rattle.std.specs.Iterator.Adapters.{enumerate_count, enumerate_source}
use Rattle.std.specs.List.{All, slice_index_or}
use Rattle.comfy_table.specs.TableValue.{cell_content_width, column_content_width, with_other_rows}
use Rattle.csv_tables.specs.Contents.{greatest_at, most_cells, rows_from}
use Rattle.csv_tables.specs.LazyRows.{IsFlat}
use Rattle.csv_tables.proofs.lazy_table.content_widths.Given as goal

-- the widths so far, and those of the rows that are left
abbrev pub invariant-loop-at : goal.invariant-loop-at
invariant-loop-at l =
    let left = rows_from l.rows (enumerate_count l.at-iterator) (enumerate_source l.at-iterator) in
    let all = rows_from l.rows 0 l.rows.selected.rows in
    ((i : ℕ) → max (slice_index_or l.widths.items i 0) (greatest_at l.table cell_content_width left i) ≡ column_content_width (with_other_rows all l.table) i)
    × (max (length l.widths.items) (most_cells left) ≡ max (length l.table.columns) (most_cells all))
    × (l.is_flat ≡ true → All IsFlat left → All IsFlat all)
