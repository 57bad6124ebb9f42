-- The lines of a row, made from its pieces.
use Rattle.std.proofs.Common.{◌≡◌, ◌<◌, ℕ, List, [], Option, None, length, map, ap, ◌∙◌, arith, slice_index_or, unwrap_or, max}
use Rattle.std.specs.List.{range_with_len}
use Rattle.std.specs.Prelude.{slice_index}
use Rattle.std.proofs.lemmas.List.{length-map}
use Rattle.std.proofs.lemmas.List.FromFn.{get_or-map-range_with_len, length-map-range_with_len}
use Rattle.std.proofs.lemmas.Simd.{map-map}
use Rattle.comfy_parts.specs.CellValue.{ColumnInfo, ColumnValue, RowValue, info_of, column_padding}
use Rattle.comfy_parts.specs.Text.{Text, greatest}
use Rattle.comfy_parts.specs.declared.style.column.ColumnConstraint.{ColumnConstraint}
use Rattle.comfy_table.specs.Widths.{capped_content, disabled_width, fixed_by_constraint, shown_count, upper_boundary}
use Rattle.comfy_parts.specs.declared.style.table_style.ContentLineStyle.{ContentLineStyle}
use Rattle.comfy_table.specs.Drawing.{drawn_row, infos_of}
use Rattle.comfy_table.specs.Frame.{content_line}
use Rattle.comfy_table.specs.Pieces.{blank_piece, pieces_at, row_height, row_line}
use Rattle.comfy_table.specs.TableValue.{TableValue, shown_columns, column_content_width}
use Rattle.promises.proofs.DrawnColumnLemmas.{columns-drawn, drawn_column}

module _ (table : TableValue) (widths : List ℕ) (long : length widths ≡ length table.columns) where
  module _ (line : ContentLineStyle) (row : RowValue) where
    abbrev pub lines_in : List Text
    lines_in = drawn_row table (infos_of table widths) line row

    -- the number of lines is the height of the row
    pub height : length lines_in ≡ greatest (map (λ (p : ℕ × ColumnValue). length (pieces_at table row (drawn_column widths p))) (shown_columns table))
    height =
        length-map (map (row_line table (infos_of table widths) row) (range_with_len 0 (row_height table (infos_of table widths) row))) (content_line table.style line)
        ∙ length-map-range_with_len (row_line table (infos_of table widths) row) 0 (row_height table (infos_of table widths) row)
        ∙ ap (λ (qs : List (ℕ × ColumnInfo)). greatest (map (λ (q : ℕ × ColumnInfo). length (pieces_at table row q)) qs)) (columns-drawn table widths long)
        ∙ ap greatest (map-map (λ (q : ℕ × ColumnInfo). length (pieces_at table row q)) (drawn_column widths) (shown_columns table))

    -- the piece of a column in line k
    abbrev pub piece_in : ℕ → ℕ × ColumnValue → Text
    piece_in k p = slice_index_or (pieces_at table row (drawn_column widths p)) k (blank_piece (info_of p.1 (slice_index widths p.0)))

    -- line k consists of these pieces
    pub line_is : (k : ℕ) → k < length lines_in → slice_index_or lines_in k [] ≡ content_line table.style line (map (piece_in k) (shown_columns table))
    line_is k below =
        let infos = infos_of table widths in
        let h = row_height table infos row in
        let within : k < h = omega (arith, below, length-map (map (row_line table infos row) (range_with_len 0 h)) (content_line table.style line), length-map-range_with_len (row_line table infos row) 0 h) in
        ap (λ (ls : List Text). slice_index_or ls k []) (map-map (content_line table.style line) (row_line table infos row) (range_with_len 0 h))
        ∙ get_or-map-range_with_len (λ j. content_line table.style line (row_line table infos row j)) 0 h k k [] within (omega arith)
        ∙ ap (content_line table.style line)
        (ap (map (λ (q : ℕ × ColumnInfo). slice_index_or (pieces_at table row q) k (blank_piece q.1))) (columns-drawn table widths long)
        ∙ map-map (λ (q : ℕ × ColumnInfo). slice_index_or (pieces_at table row q) k (blank_piece q.1)) (drawn_column widths) (shown_columns table))

-- the width by content of a column without a constraint is its content
pub width_by_content : (table : TableValue) (i : ℕ) (column : ColumnValue) → column.constraint ≡ None → disabled_width table (i, column) ≡ max 1 (column_content_width table i)
width_by_content table i column none =
    ap (λ (c : Option ColumnConstraint). unwrap_or (fixed_by_constraint table (shown_count table) (column_content_width table i) (column_padding column) c) (capped_content (column_content_width table i) (column_padding column) (upper_boundary table (shown_count table) c))) none
