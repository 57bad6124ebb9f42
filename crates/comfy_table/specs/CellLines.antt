-- Private: the lines of a cell, one or a list.
-- Source: this library's own.
use Rattle.std.specs.Prelude.{List, [], ◌∷◌, Option, Some, None}
use Rattle.comfy_parts.specs.CellValue.{CellValue}
use Rattle.comfy_table.specs.DrawnLines.{DrawnLine}
use Rattle.comfy_table.specs.RowCells.{cell_in}
use Rattle.comfy_table.specs.declared.utils.formatting.cell_lines.CellLines.{CellLines}
use Rattle.comfy_table.specs.declared.utils.formatting.cell_lines.CellLines.TheVariants.{Multiple, Single}
use Rattle.comfy_table.specs.declared.utils.formatting.row_cell.CellSource.{CellSource}

-- the lines as a list, from the top
abbrev pub lines_of : CellLines → List DrawnLine
lines_of (Single line) = line ∷ []
lines_of (Multiple lines) = lines.items

-- the cell with its lines, if there is one
abbrev pub cell_with_lines : Option (CellSource × CellLines) → Option (CellValue × List DrawnLine)
cell_with_lines None = None
cell_with_lines (Some content) = Some (cell_in content.0, lines_of content.1)
