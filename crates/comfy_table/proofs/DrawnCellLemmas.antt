-- The lines of a row consist of the pieces of its shown columns.
use Rattle.std.proofs.Common.{◌≡◌, ℕ, Bool, true, false, List, Option, Some, length, map, refl, ap, ◌∙◌, sym, slice_index_or, unwrap_or}
use Rattle.std.specs.List.{range_with_len, slice_get}
use Rattle.std.specs.Prelude.{option_map, if◌then◌else◌}
use Rattle.comfy_parts.proofs.CallerLemmas.{index-map}
use Rattle.comfy_parts.specs.CellValue.{CellValue, RowValue, ColumnInfo}
use Rattle.comfy_parts.specs.Text.{Text, greatest}
use Rattle.std.proofs.lemmas.Simd.{map-map}
use Rattle.comfy_table.specs.DrawnCells.{DrawnCell, drawn_cell, greatest_height, piece_at, piece_with, styles_of}
use Rattle.comfy_table.specs.DrawnLines.{DrawnLine, drawn_line}
use Rattle.comfy_table.specs.Gaps.{RowGapsValue, gap_line, row_between}
use Rattle.comfy_table.specs.Pieces.{blank_piece, padded, pieces_of_optional, row_cell_lines, row_height, row_lines, text_piece, shown_infos}
use Rattle.comfy_table.specs.Styling.{styled}
use Rattle.comfy_table.specs.TableValue.{TableValue, should_style}
use Rattle.comfy_table.specs.declared.utils.formatting.piece.Styles.{Styles}
use Rattle.comfy_table.specs.declared.utils.formatting.piece.Styles.TheVariants.{Nowhere, RoundTexts, RoundPieces}

-- the piece of a line, with styles at the places where the table writes them
where_written : (table : TableValue) (cell : CellValue) (info : ColumnInfo) (line : DrawnLine) → piece_with (styles_of table) cell info line ≡ text_piece table cell info line.columns line.written
where_written table cell info line = by_settings (should_style table) table.style_text_only
  where
    plain : Text
    plain = padded cell info line.columns line.written

    alone : Text
    alone = padded cell info line.columns (styled cell line.written)

    by_settings : (on text_only : Bool) → piece_with (if on then (if text_only then RoundTexts else RoundPieces) else Nowhere) cell info line ≡ (if on then (if text_only then alone else styled cell plain) else plain)
    by_settings true true = refl
    by_settings true false = refl
    by_settings false text_only = refl

-- the pieces of a cell of a row, made from its lines
pub cell_pieces_are : (table : TableValue) (row : RowValue) (info : ColumnInfo) (o : Option CellValue) (cell : CellValue) (lines : List DrawnLine) → o ≡ Some cell → lines ≡ map drawn_line (row_cell_lines table row info cell)
    → map (piece_with (styles_of table) cell info) lines ≡ pieces_of_optional table row info o
cell_pieces_are table row info o cell lines found are =
    ap (map (piece_with (styles_of table) cell info)) are
    ∙ (λ i. map (λ line. where_written table cell info line i) (map drawn_line (row_cell_lines table row info cell)))
    ∙ map-map _ drawn_line (row_cell_lines table row info cell)
    ∙ ap (pieces_of_optional table row info) (sym found)

-- the piece in line k, made from the line
pub piece_in : (styles : Styles) (cell : CellValue) (info : ColumnInfo) (lines : List DrawnLine) (k : ℕ)
    → slice_index_or (map (piece_with styles cell info) lines) k (blank_piece info) ≡ unwrap_or (option_map (piece_with styles cell info) (slice_get lines k)) (blank_piece info)
piece_in styles cell info lines k = index-map (piece_with styles cell info) lines k (blank_piece info)

-- the lines of a row, made from its cells
pub drawn_lines : (table : TableValue) (infos : List ColumnInfo) (row : RowValue) (cells : List DrawnCell) → cells ≡ map (drawn_cell table row) (shown_infos infos)
    → map (λ k. map (piece_at k) cells) (range_with_len 0 (greatest_height cells)) ≡ row_lines table infos row
drawn_lines table infos row cells are =
    ap (λ (cells : List DrawnCell). map (λ k. map (piece_at k) cells) (range_with_len 0 (greatest_height cells))) are
    ∙ (λ i. map (λ k. map-map (piece_at k) (drawn_cell table row) (shown_infos infos) i) (range_with_len 0 (greatest (map-map (λ drawn. length drawn.pieces) (drawn_cell table row) (shown_infos infos) i))))

-- the height of a row is the greatest height of its cells
pub height_of_cells : (table : TableValue) (infos : List ColumnInfo) (row : RowValue) (cells : List DrawnCell) → cells ≡ map (drawn_cell table row) (shown_infos infos) → greatest_height cells ≡ row_height table infos row
height_of_cells table infos row cells are = ap greatest_height are ∙ ap greatest (map-map (λ (drawn : DrawnCell). length drawn.pieces) (drawn_cell table row) (shown_infos infos))

-- the lines of a row with gaps, made from its cells
pub drawn_between : (gaps : RowGapsValue) (table : TableValue) (infos : List ColumnInfo) (row : RowValue) (cells : List DrawnCell) → cells ≡ map (drawn_cell table row) (shown_infos infos)
    → map (λ k. gap_line gaps (map (piece_at k) cells)) (range_with_len 0 (greatest_height cells)) ≡ row_between gaps table infos row
drawn_between gaps table infos row cells are =
    sym (map-map (gap_line gaps) (λ k. map (piece_at k) cells) (range_with_len 0 (greatest_height cells))) ∙ ap (map (gap_line gaps)) (drawn_lines table infos row cells are)
