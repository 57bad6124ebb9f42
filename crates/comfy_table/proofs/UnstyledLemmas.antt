-- A drawing is the unstyled drawing, if no styles are written and cells have no styling of their own.
use Rattle.std.proofs.Common.{◌≡◌, ℕ, false, List, ◌++◌, Option, Some, None, map, length, slice_get, slice_index_or, refl, arith}
use Rattle.std.specs.List.{join_by, range_with_len}
use Rattle.comfy_parts.specs.CellValue.{CellValue, ColumnInfo, RowValue}
use Rattle.comfy_parts.specs.Text.{greatest}
use Rattle.comfy_parts.specs.declared.style.table_style.ContentLineStyle.{ContentLineStyle}
use Rattle.comfy_table.specs.Drawing.{drawing_of_infos, drawn_header, drawn_row, drawn_rows, outer_widths}
use Rattle.comfy_table.specs.Frame.{content_line, optional_frame_line}
use Rattle.comfy_table.specs.Laws.{unstyled}
use Rattle.comfy_table.specs.Pieces.{blank_piece, pieces_of_optional, row_height, row_line, row_lines, shown_infos}
use Rattle.comfy_table.specs.TableValue.{TableValue, should_style}

module _ (table : TableValue) (infos : List ColumnInfo) (off : should_style table ≡ false) (plain : table.custom_styling ≡ false) where
  same_pieces : (row : RowValue) (info : ColumnInfo) (cell : Option CellValue) → pieces_of_optional (unstyled table) row info cell ≡ pieces_of_optional table row info cell
  same_pieces row info None = refl
  same_pieces row info (Some cell) = grind arith

  same_height : (row : RowValue) → row_height (unstyled table) infos row ≡ row_height table infos row
  same_height row = λ i. greatest (map (λ (p : ℕ × ColumnInfo). length (same_pieces row p.1 (slice_get row.cells p.0) i)) (shown_infos infos))

  same_line : (row : RowValue) (k : ℕ) → row_line (unstyled table) infos row k ≡ row_line table infos row k
  same_line row k = λ i. map (λ (p : ℕ × ColumnInfo). slice_index_or (same_pieces row p.1 (slice_get row.cells p.0) i) k (blank_piece p.1)) (shown_infos infos)

  same_lines : (row : RowValue) → row_lines (unstyled table) infos row ≡ row_lines table infos row
  same_lines row = λ i. map (λ k. same_line row k i) (range_with_len 0 (same_height row i))

  same_row : (line : ContentLineStyle) (row : RowValue) → drawn_row (unstyled table) infos line row ≡ drawn_row table infos line row
  same_row line row = λ i. map (content_line table.style line) (same_lines row i)

  same_header : (header : Option RowValue) → drawn_header (unstyled table) infos header ≡ drawn_header table infos header
  same_header None = refl
  same_header (Some header) = λ i. same_row table.style.header_lines header i ++ optional_frame_line table.style table.style.header_separator (outer_widths infos)

  same_rows : (rows : List RowValue) → drawn_rows (unstyled table) infos rows ≡ drawn_rows table infos rows
  same_rows rows = λ i. join_by (λ row. same_row table.style.content_lines row i) (optional_frame_line table.style table.style.row_separator (outer_widths infos)) rows

  -- the whole drawing
  pub unstyled_drawing : drawing_of_infos (unstyled table) infos ≡ drawing_of_infos table infos
  unstyled_drawing = grind (arith, same_header, same_rows)
