-- The lines of cells in their columns: aligned, padded and styled.
-- Source: format_row and align_line of content_format of comfy-table 8.0.1.
use Rattle.std.specs.Prelude.{ℕ, ◌+◌, ◌-◌, ◌/◌, not, List, [], ◌∷◌, ◌++◌, Option, Some, None, unwrap_or, map, length, filter, slice_get, slice_index_or, if◌then◌else◌}
use Rattle.std.specs.List.{enumerate_from, range_with_len}
use Rattle.comfy_parts.specs.CellValue.{CellValue, RowValue, ColumnInfo, info_width}
use Rattle.comfy_parts.specs.Text.{Text, measure, spaces, greatest}
use Rattle.comfy_parts.specs.declared.style.cell.CellAlignment.{CellAlignment}
use Rattle.comfy_parts.specs.declared.style.cell.CellAlignment.TheVariants.{Left, Right, Center}
use Rattle.comfy_parts.specs.VisibleLines.{CellLine}
use Rattle.comfy_table.specs.Lines.{cell_delimiter, cut_line, cut_to_limit, uncut_lines}
use Rattle.comfy_table.specs.Styling.{styled}
use Rattle.comfy_table.specs.TableValue.{TableValue, should_style, header_and_rows}

-- the alignment of a cell: its own, or else its column's, or else left
abbrev pub cell_alignment : CellValue → ColumnInfo → CellAlignment
cell_alignment cell info = unwrap_or cell.alignment (unwrap_or info.alignment Left)

-- the part of r free terminal columns before the line: none if it is left-aligned, all if it is
-- right-aligned, and half of them, rounded up, if it is centred
abbrev pub free_before : CellAlignment → ℕ → ℕ
free_before Left r = 0
free_before Right r = r
free_before Center r = (r + 1) / 2

-- the terminal columns that a line of `columns` leaves free; none if it is wider
abbrev pub free_places : ColumnInfo → ℕ → ℕ
free_places info columns = info.content_width - columns

-- the free terminal columns before the line, without the padding
abbrev pub spaces_before : CellValue → ColumnInfo → ℕ → Text
spaces_before cell info columns =
    spaces (free_before (cell_alignment cell info) (free_places info columns))

-- the free terminal columns after the line, without the padding
abbrev pub spaces_after : CellValue → ColumnInfo → ℕ → Text
spaces_after cell info columns =
    spaces (free_places info columns
    - free_before (cell_alignment cell info) (free_places info columns))

-- the text of a line between its spaces, with the left and the right padding
abbrev pub padded : CellValue → ColumnInfo → ℕ → Text → Text
padded cell info columns text =
    spaces info.padding.0 ++ (spaces_before cell info columns
    ++ (text ++ (spaces_after cell info columns ++ spaces info.padding.1)))

-- the piece of a line of `columns` terminal columns that is written as `text`. If styles are
-- written, they surround the whole piece or only the text.
abbrev pub text_piece : TableValue → CellValue → ColumnInfo → ℕ → Text → Text
text_piece table cell info columns text =
    if should_style table
    then (if table.style_text_only
    then padded cell info columns (styled cell text)
    else styled cell (padded cell info columns text))
    else padded cell info columns text

-- the piece of a line, aligned by its measured text
abbrev pub piece : TableValue → CellValue → ColumnInfo → CellLine → Text
piece table cell info line = text_piece table cell info (measure line.measured) line.written

-- the piece of a column that has no line: spaces
abbrev pub blank_piece : ColumnInfo → Text
blank_piece info = spaces (info_width info)

-- the lines of a cell in a row: wrapped at the column's width, and cut at the row's greatest height
abbrev pub row_cell_lines : TableValue → RowValue → ColumnInfo → CellValue → List CellLine
row_cell_lines table row info cell =
    cut_to_limit (cut_line table.custom_styling info.content_width table.indicator) row.max_height
    (uncut_lines table.custom_styling info.content_width
    (cell_delimiter table info.delimiter cell) cell)

-- the pieces of a cell in one column of a row, from the top
abbrev pub cell_pieces : TableValue → RowValue → ColumnInfo → CellValue → List Text
cell_pieces table row info cell = map (piece table cell info) (row_cell_lines table row info cell)

-- the pieces of a cell in one column of a row, from the top; a missing cell has one blank piece
abbrev pub pieces_of_optional : TableValue → RowValue → ColumnInfo → Option CellValue → List Text
pieces_of_optional table row info None = blank_piece info ∷ []
pieces_of_optional table row info (Some cell) = cell_pieces table row info cell

-- the shown columns, each with its position
abbrev pub shown_infos : List ColumnInfo → List (ℕ × ColumnInfo)
shown_infos infos = filter (λ (p : ℕ × ColumnInfo). not p.1.is_hidden) (enumerate_from 0 infos)

-- the pieces of a row in the shown column at a position, made from the cell at this position
abbrev pub pieces_at : TableValue → RowValue → ℕ × ColumnInfo → List Text
pieces_at table row p = pieces_of_optional table row p.1 (slice_get row.cells p.0)

-- the height of a row: the greatest number of pieces in a shown column; 0 if no column is shown
abbrev pub row_height : TableValue → List ColumnInfo → RowValue → ℕ
row_height table infos row =
    greatest (map (λ (p : ℕ × ColumnInfo). length (pieces_at table row p)) (shown_infos infos))

-- line k of a row: the k-th piece of each shown column, or a blank piece
abbrev pub row_line : TableValue → List ColumnInfo → RowValue → ℕ → List Text
row_line table infos row k =
    map (λ (p : ℕ × ColumnInfo). slice_index_or (pieces_at table row p) k (blank_piece p.1))
    (shown_infos infos)

-- the lines of a row, each as its pieces
abbrev pub row_lines : TableValue → List ColumnInfo → RowValue → List (List Text)
row_lines table infos row =
    map (row_line table infos row) (range_with_len 0 (row_height table infos row))

-- the lines of the header, if there is one, and then the lines of each row
abbrev pub content_lines : TableValue → List ColumnInfo → List (List (List Text))
content_lines table infos = map (row_lines table infos) (header_and_rows table)
