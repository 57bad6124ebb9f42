use Rattle.std.proofs.Common.{◌≡◌, ◌≤◌, ◌<◌, ◌+◌, ℕ, List, Some, true, length, max}
use Rattle.std.specs.Prelude.{nat_lt, slice_get, if◌then◌else◌}
use Rattle.std.specs.List.{slice_index_or}
use Rattle.comfy_parts.specs.CellValue.{CellValue}
use Rattle.comfy_table.specs.TableValue.{TableValue, cell_content_width}
use Rattle.csv_tables.specs.Contents.{plain_by, measured_at}
use Rattle.csv_tables.proofs.rows.RecordRows.widen.Given as goal

-- the width of the cell at a position after the number, or 0
abbrev pub after : TableValue → List CellValue → ℕ → ℕ → ℕ
after table cells first i = if nat_lt i first then 0 else measured_at table cell_content_width (slice_get cells i)

-- the widths have room for the number and the columns so far
abbrev pub invariant-loop-place : goal.invariant-loop-place
invariant-loop-place l =
    let cells = (plain_by l.self l.at l.fields).cells in
    ((i : ℕ) → slice_index_or l.widths.items i 0 ≡ max (slice_index_or l.initial.widths.items i 0) (if nat_lt i (l.first + l.place) then after l.table cells l.first i else 0))
    × (length l.widths.items ≡ max (length l.initial.widths.items) (l.first + l.place))
    × (l.is_flat ≡ true → (l.initial.is_flat ≡ true) × ((i : ℕ) (cell : CellValue) → l.first ≤ i → i < l.first + l.place → slice_get cells i ≡ Some cell → length cell.text_lines ≤ 1))
