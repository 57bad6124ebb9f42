-- The row of a line of input: TABs separate its cells.
-- Source: this library's own.
use Rattle.std.specs.Prelude.{ℕ, ◌==◌, List, map, if◌then◌else◌}
use Rattle.std.specs.List.{slice_split}
use Rattle.comfy_parts.specs.CellValue.{CellValue, RowValue, plain_cell, plain_row}
use Rattle.comfy_parts.specs.Text.{Text}

-- U+000B inside a cell means a line feed
abbrev pub break_of : ℕ → ℕ
break_of b = if b == 0x0B then 0x0A else b

-- the cells of a line
abbrev pub cells_of_line : Text → List CellValue
cells_of_line line =
    map (λ (cell : Text). plain_cell (map break_of cell)) (slice_split (λ b. b == 0x09) line)

-- the row of a line
abbrev pub row_of_line : Text → RowValue
row_of_line line = plain_row (cells_of_line line)
