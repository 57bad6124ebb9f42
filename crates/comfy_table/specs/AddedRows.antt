-- Drawings of one table are equal, and a row that is added at the end of a table leaves the lines
-- above it unchanged.
-- Source: this library's own.
use Rattle.std.specs.Prelude.{◌≡◌, ℕ, ◌≤◌, List, [], ◌++◌, None, Some, length, nat_lt, slice_get, if◌then◌else◌}
use Rattle.comfy_parts.specs.CellValue.{CellValue, ColumnInfo, RowValue}
use Rattle.comfy_parts.specs.Text.{Text}
use Rattle.comfy_table.specs.Arrangement.{IsDrawingOf, width_kept}
use Rattle.comfy_table.specs.Drawing.{drawing, drawn_header, drawn_row, drawn_rows, infos_of, outer_widths}
use Rattle.comfy_table.specs.Frame.{optional_frame_line}
use Rattle.comfy_table.specs.TableValue.{TableValue, cell_content_width, column_content_width, measured_cell, table_width, with_row}

-- a table has one drawing
abbrev pub DrawingIsOne : TableValue → List Text → List Text → Type 0
DrawingIsOne table lines others =
    IsDrawingOf table lines → IsDrawingOf table others → lines ≡ others

module _ (table : TableValue) (infos : List ColumnInfo) where
  -- the lines of a drawing above its bottom border
  abbrev pub lines_above_bottom : List Text
  lines_above_bottom =
      optional_frame_line table.style table.style.top_border (outer_widths infos)
      ++ (drawn_header table infos table.header ++ drawn_rows table infos table.rows)

  -- the bottom border, if there is one
  abbrev pub bottom_lines : List Text
  bottom_lines = optional_frame_line table.style table.style.bottom_border (outer_widths infos)

  -- the lines that a further row adds: the row separator, if there is a row before it, and the
  -- lines of the row
  abbrev pub added_lines : RowValue → List Text
  added_lines row =
      (if nat_lt 0 (length table.rows)
      then optional_frame_line table.style table.style.row_separator (outer_widths infos)
      else []) ++ drawn_row table infos table.style.content_lines row

-- each cell of the row has a column
abbrev pub HasColumnsFor : TableValue → RowValue → Type 0
HasColumnsFor table row = length row.cells ≤ length table.columns

-- each cell of the row is at most as wide as the content of its column
abbrev pub IsWithinContents : TableValue → RowValue → Type 0
IsWithinContents table row =
    (i : ℕ) (cell : CellValue) → slice_get row.cells i ≡ Some cell
    → cell_content_width (measured_cell table cell) ≤ column_content_width table i

-- `others` has the lines of the drawing, and the lines of the added row above the bottom border
abbrev pub AddsBelow : TableValue → RowValue → List ℕ → List Text → List Text → Type 0
AddsBelow table row widths lines others =
    (lines ≡ lines_above_bottom table (infos_of table widths)
    ++ bottom_lines table (infos_of table widths))
    × (others ≡ lines_above_bottom table (infos_of table widths)
    ++ (added_lines table (infos_of table widths) row
    ++ bottom_lines table (infos_of table widths)))

-- if both drawings have the same widths, the lines of the new row are added above the bottom
-- border, and all other lines are unchanged
abbrev pub RowIsAddedBelow : TableValue → RowValue → List ℕ → Type 0
RowIsAddedBelow table row widths =
    HasColumnsFor table row
    → AddsBelow table row widths (drawing table widths) (drawing (with_row row table) widths)

-- in all drawings the old lines are unchanged, if the table keeps to no width and no column gets
-- wider
abbrev pub ShownLinesStay : TableValue → RowValue → List Text → List Text → Type 0
ShownLinesStay table row lines others =
    width_kept table.arrangement (table_width table) ≡ None → HasColumnsFor table row
    → IsWithinContents table row
    → IsDrawingOf table lines → IsDrawingOf (with_row row table) others
    → (widths : List ℕ) × AddsBelow table row widths lines others
