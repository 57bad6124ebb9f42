-- A property that texts keep as they are drawn holds of frame lines, of rows, and of the whole drawing.
use Rattle.std.proofs.lemmas.Bool.{cond_both}
use Rattle.std.proofs.Common.{◌≡◌, ◌<◌, ℕ, zero, suc, Bool, true, false, List, [], ◌∷◌, ◌++◌, Option, Some, None, length, map, refl, sym, ap, ap₂, ◌∙◌, subst, arith, slice_index_or}
use Rattle.std.specs.List.{All, AllZip, flat_map, join_by, repeat, range_with_len, slice_get}
use Rattle.std.specs.Prelude.{if◌then◌else◌, option_map, option_to_list}
use Rattle.std.specs.Str.{IsUtf8}
use Rattle.std.proofs.lemmas.Slice.Zip.{AllZip-long}
use Rattle.std.proofs.lemmas.List.Elements.{All-head, All-tail, All-weaker}
use Rattle.comfy_parts.specs.CellValue.{CellValue, RowValue, ColumnInfo, info_width}
use Rattle.comfy_parts.specs.Columns.{style_characters}
use Rattle.comfy_parts.specs.Text.{Text, greatest}
use Rattle.comfy_parts.specs.declared.style.table_style.ContentLineStyle.{ContentLineStyle}
use Rattle.comfy_parts.specs.declared.style.table_style.LineStyle.{LineStyle}
use Rattle.comfy_parts.specs.declared.style.table_style.TableStyle.{TableStyle}
use Rattle.comfy_table.proofs.TextKindLemmas.{IsStyleOf}
use Rattle.comfy_table.proofs.CutLemmas.{pieces-unstyled, unstyled_piece, row-measured}
use Rattle.std.proofs.lemmas.Simd.{map-map}
use Rattle.comfy_parts.proofs.CallerLemmas.{All-at, All-every, All-of_map, All-others, AllZip-append, AllZip-join_by, AllZip-map, AllZip-map_map, At-or-both, join_by-map}
use Rattle.comfy_table.proofs.MeasuredLemmas.{IsRowOf, cell_measured, get_measured, header_measured, row_measured, rows_measured, measured_rows-is}
use Rattle.comfy_table.proofs.StyledLemmas.{KeptByDrawing, KeptByJoining, keeps_nothing, keeps_piece, keeps_spaces}
use Rattle.comfy_table.proofs.WrittenLemmas.{keeps_lines}
use Rattle.comfy_table.specs.Drawing.{outer_widths, drawn_row, drawn_header, drawn_rows, drawing_of_infos}
use Rattle.comfy_table.specs.Frame.{character, between_borders, content_line, is_drawn, optional_frame_line, draws_left_border, draws_right_border, draws_vertical_lines}
use Rattle.comfy_table.specs.Laws.{unstyled}
use Rattle.comfy_parts.specs.VisibleLines.{CellLine}
use Rattle.comfy_table.specs.Pieces.{cell_pieces, blank_piece, pieces_of_optional, pieces_at, piece, row_cell_lines, row_line, row_height, shown_infos}
use Rattle.comfy_table.specs.TableValue.{TableValue, header_and_rows, measured_rows}

-- ---- styles

-- the four characters of a frame line belong to the kind
pub record IsClearFrame (C : Text → Type 0) (line : LineStyle) : Type 0 where
  pub left : C (character line.left)
  pub fill : C (character line.fill)
  pub junction : C (character line.junction)
  pub right : C (character line.right)

-- the three characters of a content line belong to the kind
pub record IsClearContent (C : Text → Type 0) (line : ContentLineStyle) : Type 0 where
  pub left : C (character line.left)
  pub junction : C (character line.junction)
  pub right : C (character line.right)

-- the characters of all lines of a style belong to the kind
pub record IsClearStyle (C : Text → Type 0) (style : TableStyle) : Type 0 where
  pub top_border : IsClearFrame C style.top_border
  pub header_lines : IsClearContent C style.header_lines
  pub header_separator : IsClearFrame C style.header_separator
  pub content_lines : IsClearContent C style.content_lines
  pub row_separator : IsClearFrame C style.row_separator
  pub bottom_border : IsClearFrame C style.bottom_border

-- the same, from the list of a style's characters
pub style_clear : (C : Text → Type 0) (style : TableStyle) → IsStyleOf C style → IsClearStyle C style
style_clear C style each =
    record {
      top_border = record { left = at 0 (omega arith); fill = at 1 (omega arith); junction = at 2 (omega arith); right = at 3 (omega arith) };
      header_lines = record { left = at 4 (omega arith); junction = at 5 (omega arith); right = at 6 (omega arith) };
      header_separator = record { left = at 7 (omega arith); fill = at 8 (omega arith); junction = at 9 (omega arith); right = at 10 (omega arith) };
      content_lines = record { left = at 11 (omega arith); junction = at 12 (omega arith); right = at 13 (omega arith) };
      row_separator = record { left = at 14 (omega arith); fill = at 15 (omega arith); junction = at 16 (omega arith); right = at 17 (omega arith) };
      bottom_border = record { left = at 18 (omega arith); fill = at 19 (omega arith); junction = at 20 (omega arith); right = at 21 (omega arith) };
    }
  where
    at : (k : ℕ) → k < 22 → C (character (slice_index_or (style_characters style) k None))
    at k below = each k None below

-- the cell of a row in a column has texts of the kind, if there is one
abbrev pub IsClearAt : (Text → Type 0) → RowValue → ℕ × ColumnInfo → Type 0
IsClearAt C row p = (cell : CellValue) → slice_get row.cells p.0 ≡ Some cell → All C cell.text_lines

-- the cells of a row that are drawn have texts of the kind, and all cells consist of whole characters
record IsClearRow (C : Text → Type 0) (infos : List ColumnInfo) (row : RowValue) : Type 0 where
  clear : All (IsClearAt C row) (shown_infos infos)
  whole : IsRowOf IsUtf8 row

module _ (C : Text → Type 0) (R : Text → Text → Type 0) (joins : KeptByJoining C R) where
  -- R holds of a text that is written only if `written` is true
  keeps_when : (written : Bool) (text : Text) → R text text → R (if written then text else []) (if written then text else [])
  keeps_when true text own = own
  keeps_when false text own = keeps_nothing C R joins

  -- R holds of a text that is repeated
  keeps_repeat : (n : ℕ) (text : Text) → R text text → R (repeat n text) (repeat n text)
  keeps_repeat zero text own = keeps_nothing C R joins
  keeps_repeat (suc n) text own = joins.of_both text (repeat n text) text (repeat n text) own (keeps_repeat n text own)

  -- pieces with a separator before each
  keeps_separated : (separator : Text) (shown texts : List Text) → R separator separator → AllZip R shown texts
      → R (flat_map (λ (piece : Text). separator ++ piece) shown) (flat_map (λ (piece : Text). separator ++ piece) texts)
  keeps_separated separator [] [] between each = keeps_nothing C R joins
  keeps_separated separator [] (text ∷ texts) between each = absurd each
  keeps_separated separator (s ∷ shown) [] between each = absurd each
  keeps_separated separator (s ∷ shown) (text ∷ texts) between each = grind (arith, joins.of_both, keeps_separated separator shown texts between each.1)

  -- pieces with a separator between each two
  keeps_between : (separator : Text) (shown texts : List Text) → R separator separator → AllZip R shown texts
      → R (join_by (λ (piece : Text). piece) separator shown) (join_by (λ (piece : Text). piece) separator texts)
  keeps_between separator [] [] between each = keeps_nothing C R joins
  keeps_between separator [] (text ∷ texts) between each = absurd each
  keeps_between separator (s ∷ shown) [] between each = absurd each
  keeps_between separator (s ∷ shown) (text ∷ texts) between each =
      joins.of_both s (flat_map (λ (piece : Text). separator ++ piece) shown) text (flat_map (λ (piece : Text). separator ++ piece) texts) each.0 (keeps_separated separator shown texts between each.1)

  -- pieces between borders
  pub keeps_joined : (style : TableStyle) (left junction right : Option ℕ) (shown texts : List Text) → C (character left) → C (character junction) → C (character right) → AllZip R shown texts
      → R (between_borders style left junction right shown) (between_borders style left junction right texts)
  keeps_joined style left junction right shown texts l j r each =
      joins.of_both _ _ (if draws_left_border style then character left else []) _ (keeps_when (draws_left_border style) (character left) (joins.of_kind (character left) l))
      (joins.of_both _ _ (join_by (λ (piece : Text). piece) (if draws_vertical_lines style then character junction else []) texts) (if draws_right_border style then character right else [])
      (keeps_between (if draws_vertical_lines style then character junction else []) shown texts (keeps_when (draws_vertical_lines style) (character junction) (joins.of_kind (character junction) j)) each)
      (keeps_when (draws_right_border style) (character right) (joins.of_kind (character right) r)))

  -- a frame line, if it is drawn
  pub frame_kept : (style : TableStyle) (line : LineStyle) (widths : List ℕ) → IsClearFrame C line → AllZip R (optional_frame_line style line widths) (optional_frame_line style line widths)
  frame_kept style line widths clear =
      cond_both (is_drawn line) _ [] (λ (lines : List Text). AllZip R lines lines)
      (λ _. (keeps_joined style line.left line.junction line.right _ _ clear.left clear.junction clear.right (fills widths), tt)) (λ _. tt)
    where
      fills : (widths : List ℕ) → AllZip R (map (λ (width : ℕ). repeat width (character line.fill)) widths) (map (λ (width : ℕ). repeat width (character line.fill)) widths)
      fills [] = tt
      fills (w ∷ widths) = (keeps_repeat w (character line.fill) (joins.of_kind (character line.fill) clear.fill), fills widths)

module _ (C : Text → Type 0) (R : Text → Text → Type 0) (kept : KeptByDrawing C R) where
  -- ---- rows

  -- the pieces of a cell, and the unstyled pieces of the measured cell
  cell_pieces_kept : (table : TableValue) (row : RowValue) (info : ColumnInfo) (cell : CellValue) → C table.indicator → All IsUtf8 (cell_measured table.custom_styling cell).text_lines → All C (cell_measured table.custom_styling cell).text_lines
      → AllZip R (cell_pieces (unstyled table) row info (cell_measured table.custom_styling cell)) (cell_pieces table row info cell)
  cell_pieces_kept table row info cell mark whole clear =
      subst (λ (pieces : List Text). AllZip R pieces (cell_pieces table row info cell)) (sym same)
      (AllZip-map R (λ (line : CellLine). unstyled_piece cell info line.measured) (piece table cell info) lines
      (All-weaker (λ (line : CellLine). R line.measured line.written) (λ (line : CellLine). R (unstyled_piece cell info line.measured) (piece table cell info line)) (keeps_piece C R kept table cell info) lines
      (keeps_lines table row info cell C R kept table.custom_styling mark whole clear)))
    where
      lines : List CellLine
      lines = row_cell_lines table row info cell

      same : cell_pieces (unstyled table) row info (cell_measured table.custom_styling cell) ≡ map (λ (line : CellLine). unstyled_piece cell info line.measured) lines
      same =
          pieces-unstyled table row info (cell_measured table.custom_styling cell) ∙ ap (map (unstyled_piece cell info)) (sym (row-measured table row info cell)) ∙ map-map (unstyled_piece cell info) (λ (line : CellLine). line.measured) lines

  -- the pieces in a column
  pieces_kept : (table : TableValue) (row : RowValue) (p : ℕ × ColumnInfo) → C table.indicator → IsRowOf IsUtf8 (row_measured table.custom_styling row) → IsClearAt C (row_measured table.custom_styling row) p
      → AllZip R (pieces_at (unstyled table) (row_measured table.custom_styling row) p) (pieces_at table row p)
  pieces_kept table row p mark whole clear =
      subst (λ (o : Option CellValue). AllZip R (pieces_of_optional (unstyled table) (row_measured table.custom_styling row) p.1 o) (pieces_at table row p)) (sym (get_measured table.custom_styling row.cells p.0))
      (by_option (slice_get row.cells p.0) (get_measured table.custom_styling row.cells p.0))
    where
      by_option : (o : Option CellValue) → slice_get (row_measured table.custom_styling row).cells p.0 ≡ option_map (cell_measured table.custom_styling) o
          → AllZip R (pieces_of_optional (unstyled table) (row_measured table.custom_styling row) p.1 (option_map (cell_measured table.custom_styling) o)) (pieces_of_optional table row p.1 o)
      by_option None none = (keeps_spaces C R kept.joins (info_width p.1), tt)
      by_option (Some cell) found =
          cell_pieces_kept table row p.1 cell mark
          (All-at (λ (cell : CellValue). All IsUtf8 cell.text_lines) (row_measured table.custom_styling row).cells p.0 (cell_measured table.custom_styling cell) whole found)
          (clear (cell_measured table.custom_styling cell) found)

  module _ (table : TableValue) (infos : List ColumnInfo) (mark : C table.indicator) where
    -- a row as it is measured
    abbrev measured : RowValue → RowValue
    measured row = row_measured table.custom_styling row

    -- styling doesn't change heights
    row_height-unstyled : (row : RowValue) → IsClearRow C infos (measured row) → row_height (unstyled table) infos (measured row) ≡ row_height table infos row
    row_height-unstyled row cells = ap greatest (heights (shown_infos infos) cells.clear)
      where
        heights : (ps : List (ℕ × ColumnInfo)) → All (IsClearAt C (measured row)) ps
            → map (λ (p : ℕ × ColumnInfo). length (pieces_at (unstyled table) (measured row) p)) ps ≡ map (λ (p : ℕ × ColumnInfo). length (pieces_at table row p)) ps
        heights [] each = refl
        heights (p ∷ ps) each =
            ap₂ (λ n ns. n ∷ ns)
            (sym (AllZip-long R (pieces_at (unstyled table) (measured row) p) (pieces_at table row p) (pieces_kept table row p mark cells.whole (All-head (IsClearAt C (measured row)) p ps each))))
            (heights ps (All-tail (IsClearAt C (measured row)) p ps each))

    -- the lines of a row, and its unstyled lines
    row_kept : (line : ContentLineStyle) (row : RowValue) → IsClearContent C line → IsClearRow C infos (measured row) → AllZip R (drawn_row (unstyled table) infos line (measured row)) (drawn_row table infos line row)
    row_kept line row clear cells =
        subst (λ h. AllZip R (map (content_line table.style line) (map (row_line (unstyled table) infos (measured row)) (range_with_len 0 h))) (drawn_row table infos line row)) (sym (row_height-unstyled row cells))
        (AllZip-map_map R (content_line table.style line) (row_line (unstyled table) infos (measured row)) (row_line table infos row) (range_with_len 0 (row_height table infos row)) at)
      where
        at : (k : ℕ) → R (content_line table.style line (row_line (unstyled table) infos (measured row) k)) (content_line table.style line (row_line table infos row k))
        at k =
            keeps_joined C R kept.joins table.style line.left line.junction line.right (row_line (unstyled table) infos (measured row) k) (row_line table infos row k) clear.left clear.junction clear.right
            (AllZip-map R (λ (p : ℕ × ColumnInfo). slice_index_or (pieces_at (unstyled table) (measured row) p) k (blank_piece p.1)) (λ (p : ℕ × ColumnInfo). slice_index_or (pieces_at table row p) k (blank_piece p.1)) (shown_infos infos)
            (All-weaker (IsClearAt C (measured row)) (λ (p : ℕ × ColumnInfo). R (slice_index_or (pieces_at (unstyled table) (measured row) p) k (blank_piece p.1)) (slice_index_or (pieces_at table row p) k (blank_piece p.1)))
            (λ p own. At-or-both R (pieces_at (unstyled table) (measured row) p) (pieces_at table row p) k (blank_piece p.1) (blank_piece p.1) (pieces_kept table row p mark cells.whole own) (keeps_spaces C R kept.joins (info_width p.1)))
            (shown_infos infos) cells.clear))

    -- ---- the drawing

    -- all lines, and the unstyled lines
    drawing_kept : IsClearStyle C table.style → All (λ (row : RowValue). IsClearRow C infos (measured row)) (header_and_rows table) → AllZip R (drawing_of_infos (unstyled table) infos) (drawing_of_infos table infos)
    drawing_kept style each =
        AllZip-append R (optional_frame_line table.style table.style.top_border (outer_widths infos)) _ (optional_frame_line table.style table.style.top_border (outer_widths infos)) _
        (frame_kept C R kept.joins table.style table.style.top_border (outer_widths infos) style.top_border)
        (AllZip-append R (drawn_header (unstyled table) infos (unstyled table).header) _ (drawn_header table infos table.header) _
        (subst (λ (header : Option RowValue). AllZip R (drawn_header (unstyled table) infos header) (drawn_header table infos table.header)) (sym (header_measured table.custom_styling table.header)) (header_kept table.header each))
        (AllZip-append R (drawn_rows (unstyled table) infos (unstyled table).rows) _ (drawn_rows table infos table.rows) _
        (subst (λ (rows : List RowValue). AllZip R (drawn_rows (unstyled table) infos rows) (drawn_rows table infos table.rows)) (sym (rows_measured table.custom_styling table.rows)) (rows_kept (All-others IsClearMeasured table.header table.rows each)))
        (frame_kept C R kept.joins table.style table.style.bottom_border (outer_widths infos) style.bottom_border)))
      where
        IsClearMeasured : RowValue → Type 0
        IsClearMeasured row = IsClearRow C infos (measured row)

        header_kept : (header : Option RowValue) → All IsClearMeasured (option_to_list header ++ table.rows) → AllZip R (drawn_header (unstyled table) infos (option_map measured header)) (drawn_header table infos header)
        header_kept None each = tt
        header_kept (Some row) each =
            AllZip-append R (drawn_row (unstyled table) infos table.style.header_lines (measured row)) _ (drawn_row table infos table.style.header_lines row) _
            (row_kept table.style.header_lines row style.header_lines (All-head IsClearMeasured row table.rows each))
            (frame_kept C R kept.joins table.style table.style.header_separator (outer_widths infos) style.header_separator)

        rows_kept : All IsClearMeasured table.rows → AllZip R (drawn_rows (unstyled table) infos (map measured table.rows)) (drawn_rows table infos table.rows)
        rows_kept each =
            subst (λ (lines : List Text). AllZip R lines (drawn_rows table infos table.rows))
            (sym (join_by-map (drawn_row (unstyled table) infos table.style.content_lines) measured (optional_frame_line table.style table.style.row_separator (outer_widths infos)) table.rows))
            (AllZip-join_by R (λ (row : RowValue). drawn_row (unstyled table) infos table.style.content_lines (measured row)) (drawn_row table infos table.style.content_lines)
            (optional_frame_line table.style table.style.row_separator (outer_widths infos)) (optional_frame_line table.style table.style.row_separator (outer_widths infos)) table.rows
            (frame_kept C R kept.joins table.style table.style.row_separator (outer_widths infos) style.row_separator)
            (All-weaker IsClearMeasured (λ row. AllZip R (drawn_row (unstyled table) infos table.style.content_lines (measured row)) (drawn_row table infos table.style.content_lines row))
            (λ row cells. row_kept table.style.content_lines row style.content_lines cells) table.rows each))

-- the rows of a table as it is measured, row by row
rows_clear : (C : Text → Type 0) (infos : List ColumnInfo) (table : TableValue) → All (IsClearRow C infos) (measured_rows table)
    → All (λ (row : RowValue). IsClearRow C infos (row_measured table.custom_styling row)) (header_and_rows table)
rows_clear C infos table each = All-of_map (IsClearRow C infos) (row_measured table.custom_styling) (header_and_rows table) (subst (All (IsClearRow C infos)) (measured_rows-is table) each)

-- the cells that are drawn have texts of the kind, if all cells do
pub drawn_of_all : (C : Text → Type 0) (infos : List ColumnInfo) (rows : List RowValue) → All (IsRowOf C) rows → All (λ (row : RowValue). All (IsClearAt C row) (shown_infos infos)) rows
drawn_of_all C infos rows each =
    All-weaker (IsRowOf C) (λ (row : RowValue). All (IsClearAt C row) (shown_infos infos))
    (λ row cells. All-every (IsClearAt C row) (shown_infos infos) (λ p cell found. All-at (λ (c : CellValue). All C c.text_lines) row.cells p.0 cell cells found)) rows each

-- the property holds of all lines and the unstyled lines
pub keeps_drawing : (C : Text → Type 0) (R : Text → Text → Type 0) → KeptByDrawing C R → (table : TableValue) (infos : List ColumnInfo) → C table.indicator → IsStyleOf C table.style → All (IsRowOf IsUtf8) (measured_rows table)
    → All (λ (row : RowValue). All (IsClearAt C row) (shown_infos infos)) (measured_rows table) → AllZip R (drawing_of_infos (unstyled table) infos) (drawing_of_infos table infos)
keeps_drawing C R kept table infos mark style whole clear =
    drawing_kept C R kept table infos mark (style_clear C table.style style)
    (rows_clear C infos table (λ k default below. record { clear = clear k default below; whole = whole k default below }))
