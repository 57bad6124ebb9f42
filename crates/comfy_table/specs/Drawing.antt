-- The drawing of a table over given widths.
-- Source: draw_borders and draw_rows of formatting::borders, and trim_fmt, of comfy-table 8.0.1.
use Rattle.std.specs.Prelude.{ℕ, Bool, true, false, List, [], ◌∷◌, ◌++◌, Option, Some, None, flat_map, map, zip, if◌then◌else◌}
use Rattle.std.specs.List.{join_by, join_with_byte}
use Rattle.std.specs.Str.{trim_end}
use Rattle.comfy_parts.specs.CellValue.{RowValue, ColumnValue, ColumnInfo, info_of, info_width}
use Rattle.comfy_parts.specs.Text.{Text}
use Rattle.comfy_parts.specs.declared.style.table_style.ContentLineStyle.{ContentLineStyle}
use Rattle.comfy_table.specs.Frame.{content_line, optional_frame_line}
use Rattle.comfy_table.specs.Pieces.{row_lines, shown_infos}
use Rattle.comfy_table.specs.TableValue.{TableValue}

-- each column with its content width and settings, in the order of the table's columns, including
-- hidden columns
abbrev pub infos_of : TableValue → List ℕ → List ColumnInfo
infos_of table widths = map (λ (p : ColumnValue × ℕ). info_of p.0 p.1) (zip table.columns widths)

-- the whole widths of the shown columns, in the order of the table's columns
abbrev pub outer_widths : List ColumnInfo → List ℕ
outer_widths infos = map (λ (p : ℕ × ColumnInfo). info_width p.1) (shown_infos infos)

module _ (table : TableValue) (infos : List ColumnInfo) where
  -- the lines of a row, framed as header lines or as content lines
  abbrev pub drawn_row : ContentLineStyle → RowValue → List Text
  drawn_row line row = map (content_line table.style line) (row_lines table infos row)

  -- the header's lines and the header separator, if there is a header
  abbrev pub drawn_header : Option RowValue → List Text
  drawn_header None = []
  drawn_header (Some header) =
      drawn_row table.style.header_lines header
      ++ optional_frame_line table.style table.style.header_separator (outer_widths infos)

  -- the lines of rows, with the row separator between them
  abbrev pub drawn_rows : List RowValue → List Text
  drawn_rows rows =
      join_by (drawn_row table.style.content_lines)
      (optional_frame_line table.style table.style.row_separator (outer_widths infos)) rows

  -- the top border and the header
  abbrev pub lines_above : List Text
  lines_above =
      optional_frame_line table.style table.style.top_border (outer_widths infos)
      ++ drawn_header table.header

  -- the lines of rows below other rows, with the row separator above each of them
  abbrev pub further_rows : List RowValue → List Text
  further_rows rows =
      flat_map (λ (row : RowValue).
      optional_frame_line table.style table.style.row_separator (outer_widths infos)
      ++ drawn_row table.style.content_lines row) rows

  -- the lines of rows, below the top border and the header if the first row is among them, or below
  -- other rows
  abbrev pub rows_below : Bool → List RowValue → List Text
  rows_below true rows = lines_above ++ drawn_rows rows
  rows_below false rows = further_rows rows

  -- the part of the drawing with these rows, with the lines above them, and with the bottom border
  -- if the last row is among them
  abbrev pub part_of_drawing : Bool → Bool → List RowValue → List Text
  part_of_drawing is_first is_last rows =
      rows_below is_first rows ++ (if is_last
      then optional_frame_line table.style table.style.bottom_border (outer_widths infos)
      else [])

  -- the top border, the header, the rows, and the bottom border
  abbrev pub drawing_of_infos : List Text
  drawing_of_infos =
      optional_frame_line table.style table.style.top_border (outer_widths infos)
      ++ (drawn_header table.header
      ++ (drawn_rows table.rows ++ optional_frame_line table.style table.style.bottom_border
      (outer_widths infos)))

-- the drawing of a table whose columns have these content widths, in the order of the table's
-- columns
abbrev pub drawing : TableValue → List ℕ → List Text
drawing table widths = drawing_of_infos table (infos_of table widths)

-- the lines joined by line feeds
abbrev pub text_of : List Text → Text
text_of lines = join_with_byte 0x0A lines

-- the lines without their trailing white space, joined by line feeds
abbrev pub trimmed_text_of : List Text → Text
trimmed_text_of lines = text_of (map trim_end lines)

-- each line followed by a line feed
abbrev pub terminated_text_of : List Text → Text
terminated_text_of lines = flat_map (λ (line : Text). line ++ 0x0A ∷ []) lines
