-- Cells that are drawn without making a row of them.
-- Source: this library's own.
use Rattle.std.specs.Prelude.{ℕ, List, [], Option, map, max, option_map}
use Rattle.comfy_parts.specs.CellValue.{CellValue, ColumnInfo, RowValue}
use Rattle.comfy_parts.specs.VisibleLines.{CellLine}
use Rattle.comfy_table.specs.Pieces.{row_cell_lines}
use Rattle.comfy_table.specs.TableValue.{TableValue}
use Rattle.comfy_table.specs.declared.utils.formatting.row_cell.CellSource.{CellSource}
use Rattle.comfy_table.specs.declared.utils.formatting.row_cell.CellSource.TheVariants.{Line, Lines, Own}
use Rattle.comfy_table.specs.declared.utils.formatting.row_cell.RowCell.{RowCell}
use Rattle.comfy_table.specs.declared.utils.formatting.row_cell.RowCell.TheVariants.{Lent, Made, Several}
use Rattle.comfy_table.specs.declared.utils.formatting.row_cell.RowSource.{RowSource}
use Rattle.comfy_table.specs.declared.utils.formatting.row_cell.RowSource.TheVariants.{Listed, Whole}

-- the cell as a value, borrowed or made
abbrev pub cell_of : RowCell → CellValue
cell_of (Lent cell) = cell
cell_of (Several cell) = cell
cell_of (Made cell) = cell.value

abbrev pub cell_in : CellSource → CellValue
cell_in (Line cell) = cell.now
cell_in (Lines cell) = cell.now
cell_in (Own cell) = cell.now

-- a row of these cells with this greatest height; a height of 0 counts as 1
abbrev pub row_with : List CellValue → Option ℕ → RowValue
row_with cells limit = record { cells = cells; max_height = option_map (max 1) limit }

-- the row as a value
abbrev pub row_in : RowSource → RowValue
row_in (Whole row) = row.now
row_in (Listed cells limit) = row_with (map cell_of cells.now) limit

-- a row without cells that has at most `limit` lines
abbrev pub row_within : Option ℕ → RowValue
row_within limit = record { cells = []; max_height = limit }

-- the lines of a cell in a row of at most `limit` lines
abbrev pub lines_within : TableValue → Option ℕ → ColumnInfo → CellValue → List CellLine
lines_within table limit info cell = row_cell_lines table (row_within limit) info cell
