-- One row is drawn the same in a table with other rows.
use Rattle.std.proofs.Common.{◌≡◌, ℕ, Bool, true, false, List, [], ◌++◌, Option, Some, None, length, map, append_assoc, refl, ap, ◌∙◌}
use Rattle.std.specs.List.{join_by, range_with_len, slice_get}
use Rattle.std.specs.Prelude.{flat_map, if◌then◌else◌, slice_index_or}
use Rattle.comfy_parts.specs.CellValue.{CellValue, ColumnInfo, RowValue}
use Rattle.comfy_parts.specs.Text.{Text, greatest}
use Rattle.comfy_parts.specs.declared.style.table_style.ContentLineStyle.{ContentLineStyle}
use Rattle.comfy_table.specs.Drawing.{drawing_of_infos, drawn_header, drawn_row, drawn_rows, lines_above, outer_widths, part_of_drawing, rows_below}
use Rattle.comfy_table.specs.Frame.{content_line, optional_frame_line}
use Rattle.comfy_table.specs.Pieces.{blank_piece, pieces_of_optional, row_height, row_lines, shown_infos}
use Rattle.comfy_table.specs.TableValue.{TableValue, with_other_rows}

module _ (table : TableValue) (rows : List RowValue) (infos : List ColumnInfo) where
  -- the table with other rows
  abbrev other : TableValue
  other = with_other_rows rows table

  pieces_same : (row : RowValue) (info : ColumnInfo) (cell : Option CellValue) → pieces_of_optional other row info cell ≡ pieces_of_optional table row info cell
  pieces_same row info None = refl
  pieces_same row info (Some cell) = refl

  pub lines_same : (row : RowValue) → row_lines other infos row ≡ row_lines table infos row
  lines_same row = λ i. of_pieces (λ (p : ℕ × ColumnInfo). pieces_same row p.1 (slice_get row.cells p.0) i)
    where
      of_pieces : (ℕ × ColumnInfo → List Text) → List (List Text)
      of_pieces pieces =
          map (λ k. map (λ (p : ℕ × ColumnInfo). slice_index_or (pieces p) k (blank_piece p.1)) (shown_infos infos)) (range_with_len 0 (greatest (map (λ (p : ℕ × ColumnInfo). length (pieces p)) (shown_infos infos))))

  pub row_same : (line : ContentLineStyle) (row : RowValue) → drawn_row other infos line row ≡ drawn_row table infos line row
  row_same line row = ap (map (content_line table.style line)) (lines_same row)

  pub header_same : (header : Option RowValue) → drawn_header other infos header ≡ drawn_header table infos header
  header_same None = refl
  header_same (Some header) = ap (λ (lines : List Text). lines ++ optional_frame_line table.style table.style.header_separator (outer_widths infos)) (row_same table.style.header_lines header)

  rows_below_same : (is_first : Bool) (drawn : List RowValue) → rows_below other infos is_first drawn ≡ rows_below table infos is_first drawn
  rows_below_same true drawn = λ i.
      (optional_frame_line table.style table.style.top_border (outer_widths infos) ++ header_same table.header i)
      ++ join_by (λ (row : RowValue). row_same table.style.content_lines row i) (optional_frame_line table.style table.style.row_separator (outer_widths infos)) drawn
  rows_below_same false drawn = λ i.
      flat_map (λ (row : RowValue). optional_frame_line table.style table.style.row_separator (outer_widths infos) ++ row_same table.style.content_lines row i) drawn

  pub part_same : (is_first is_last : Bool) (drawn : List RowValue) → part_of_drawing other infos is_first is_last drawn ≡ part_of_drawing table infos is_first is_last drawn
  part_same is_first is_last drawn =
      ap (λ (lines : List Text). lines ++ (if is_last then optional_frame_line table.style table.style.bottom_border (outer_widths infos) else [])) (rows_below_same is_first drawn)

  -- the height of the row is the same
  pub height_same : (row : RowValue) → row_height other infos row ≡ row_height table infos row
  height_same row = λ i. of_pieces (λ (p : ℕ × ColumnInfo). pieces_same row p.1 (slice_get row.cells p.0) i)
    where
      of_pieces : (ℕ × ColumnInfo → List Text) → ℕ
      of_pieces pieces = greatest (map (λ (p : ℕ × ColumnInfo). length (pieces p)) (shown_infos infos))

-- the part with all rows is the whole drawing
pub part-whole : (table : TableValue) (infos : List ColumnInfo) → part_of_drawing table infos true true table.rows ≡ drawing_of_infos table infos
part-whole table infos =
    let top = optional_frame_line table.style table.style.top_border (outer_widths infos) in
    let bottom = optional_frame_line table.style table.style.bottom_border (outer_widths infos) in
    let rows = drawn_rows table infos table.rows in
    append_assoc (lines_above table infos) rows bottom ∙ append_assoc top (drawn_header table infos table.header) (rows ++ bottom)
