-- Private: the width of the longest line of a cell.
-- Source: this library's own.
use Rattle.std.specs.Prelude.{ℕ, map}
use Rattle.comfy_parts.specs.CellValue.{CellValue, ColumnInfo}
use Rattle.comfy_parts.specs.Text.{Text, greatest, measure}
use Rattle.comfy_parts.specs.Wrapping.{lines_of_text}
use Rattle.comfy_table.specs.Lines.{cell_delimiter}
use Rattle.comfy_table.specs.TableValue.{TableValue}

-- the width of the longest line of a text line, wrapped at width w with the delimiter d
abbrev pub text_longest_line : ℕ → ℕ → Text → ℕ
text_longest_line w d text = greatest (map measure (lines_of_text w d text))

-- the width of the longest line of a cell in a column, in terminal columns
abbrev pub cell_longest_line : TableValue → ColumnInfo → CellValue → ℕ
cell_longest_line table info cell =
    greatest (map (text_longest_line info.content_width (cell_delimiter table info.delimiter cell))
    cell.text_lines)
