-- All lines of a printable table have the same number of characters.
use Rattle.std.proofs.lemmas.Bool.{cond_both}
use Rattle.std.proofs.Common.{◌≡◌, ◌≤◌, ℕ, ◌+◌, List, [], ◌∷◌, ◌++◌, Option, Some, None, length, sum, refl, ap, ◌∙◌, arith, slice_index_or}
use Rattle.std.specs.List.{All, range_with_len, slice_get}
use Rattle.std.specs.Prelude.{option_to_list}
use Rattle.std.specs.Str.{IsUtf8}
use Rattle.std.proofs.lemmas.List.{length-map}
use Rattle.std.proofs.lemmas.List.Elements.{All-cons, All-nil, All-head, All-append, All-weaker, All-map}
use Rattle.comfy_parts.specs.CellValue.{CellValue, RowValue, ColumnValue, ColumnInfo, info_width}
use Rattle.comfy_parts.specs.Text.{Text}
use Rattle.comfy_parts.specs.declared.style.table_style.ContentLineStyle.{ContentLineStyle}
use Rattle.comfy_parts.specs.declared.style.table_style.LineStyle.{LineStyle}
use Rattle.comfy_table.proofs.CutLemmas.{All-pieces, unstyled_piece, measured_in_row}
use Rattle.comfy_table.proofs.CellCountLemmas.{IsCountedLine, row_cell_lines-counted, HasCount-unstyled_piece}
use Rattle.comfy_table.proofs.CountLemmas.{HasCount, HasCount-spaces, HasCount-joined, HasCount-frame_line, count-is}
use Rattle.comfy_parts.proofs.CallerLemmas.{All-every, All-given, All-join_by, All-others, AllZip-map, At-or}
use Rattle.comfy_table.proofs.InfoLemmas.{columns_from, infos_from, infos-known}
use Rattle.comfy_table.specs.Drawing.{infos_of, outer_widths, drawn_row, drawn_header, drawn_rows, drawing_of_infos, drawing}
use Rattle.comfy_table.specs.Frame.{border_count, content_line, frame_line, is_drawn, optional_frame_line}
use Rattle.comfy_table.specs.Laws.{count, unstyled, line_total, IsPrintableCell, AddsOneColumnEachWhereWritten, IsPrintableTable}
use Rattle.comfy_table.specs.Pieces.{blank_piece, pieces_at, row_line, row_lines, row_height, shown_infos}
use Rattle.comfy_table.specs.TableValue.{TableValue, column_cells, measured_rows}
use Rattle.comfy_table.specs.Widths.{shown_count}
use Rattle.comfy_table.specs.Arrangement.{IsArranged}

-- ---- columns

-- there are as many shown infos as shown columns
pub length-infos_from : (n : ℕ) (columns : List ColumnValue) (widths : List ℕ) → length widths ≡ length columns → length (infos_from n columns widths) ≡ length (columns_from n columns)
length-infos_from n [] [] same = refl
length-infos_from n [] (w ∷ widths) same = refl
length-infos_from n (column ∷ columns) [] same = absurd (omega (arith, same))
length-infos_from n (column ∷ columns) (w ∷ widths) same = grind (arith, length-infos_from (n + 1) columns widths (omega (arith, same)))

-- a shown info has at least one terminal column, and a known property of its position and its delimiter
pub record IsKnownInfo (Known : ℕ → Option ℕ → Type 0) (p : ℕ × ColumnInfo) : Type 0 where
  pub places : 1 ≤ p.1.content_width
  pub known : Known p.0 p.1.delimiter

-- ---- rows

-- the pieces of an unstyled row in a column have as many characters as the column is wide
abbrev ArePiecesCounted : TableValue → RowValue → ℕ × ColumnInfo → Type 0
ArePiecesCounted table row p = All (HasCount (info_width p.1)) (pieces_at (unstyled table) row p)

-- the pieces of a printable cell are as wide as the column, and so is the blank piece of a missing cell
pieces-counted : (table : TableValue) (row : RowValue) (p : ℕ × ColumnInfo) → IsUtf8 table.indicator → 1 ≤ p.1.content_width
    → ((cell : CellValue) → slice_get row.cells p.0 ≡ Some cell → IsPrintableCell table p.1.delimiter cell) → AddsOneColumnEachWhereWritten table row p → ArePiecesCounted table row p
pieces-counted table row p utf8 places plain even =
    All-pieces (HasCount (info_width p.1)) table row p (HasCount-spaces (info_width p.1))
    (λ cell found. All-weaker (IsCountedLine p.1.content_width) (λ line. HasCount (info_width p.1) (unstyled_piece cell p.1 line)) (HasCount-unstyled_piece cell p.1) (measured_in_row table row p.1 cell)
    (row_cell_lines-counted table row p.1 cell places utf8 (plain cell found) (λ h. even cell h found)))

-- ---- the drawing

-- a property of each line that a row's pieces make holds of each of its lines
pub All-row : (P : Text → Type 0) (table : TableValue) (infos : List ColumnInfo) (line : ContentLineStyle) (row : RowValue)
    → ((k : ℕ) → P (content_line table.style line (row_line table infos row k))) → All P (drawn_row table infos line row)
All-row P table infos line row each =
    All-map P (content_line table.style line) (row_lines table infos row)
    (All-map (λ pieces. P (content_line table.style line pieces)) (row_line table infos row) (range_with_len 0 (row_height table infos row))
    (All-every (λ k. P (content_line table.style line (row_line table infos row k))) (range_with_len 0 (row_height table infos row)) each))

-- a property of the frame lines and of the lines of each row holds of each line of the drawing
pub All-drawing : (P : Text → Type 0) (table : TableValue) (infos : List ColumnInfo) (Known : RowValue → Type 0)
    → All P (optional_frame_line table.style table.style.top_border (outer_widths infos))
    → All P (optional_frame_line table.style table.style.header_separator (outer_widths infos))
    → All P (optional_frame_line table.style table.style.row_separator (outer_widths infos))
    → All P (optional_frame_line table.style table.style.bottom_border (outer_widths infos))
    → ((row : RowValue) → Known row → All P (drawn_row table infos table.style.header_lines row))
    → ((row : RowValue) → Known row → All P (drawn_row table infos table.style.content_lines row))
    → All Known (option_to_list table.header ++ table.rows) → All P (drawing_of_infos table infos)
All-drawing P table infos Known top below_header between bottom as_header as_content each =
    All-append P _ _ top
    (All-append P (drawn_header table infos table.header) _ (header_lines table.header each)
    (All-append P (drawn_rows table infos table.rows) _
    (All-join_by P (drawn_row table infos table.style.content_lines) (optional_frame_line table.style table.style.row_separator (outer_widths infos)) table.rows between
    (All-weaker Known (λ row. All P (drawn_row table infos table.style.content_lines row)) as_content table.rows (All-others Known table.header table.rows each)))
    bottom))
  where
    header_lines : (header : Option RowValue) → All Known (option_to_list header ++ table.rows) → All P (drawn_header table infos header)
    header_lines None each = All-nil P
    header_lines (Some row) each = All-append P (drawn_row table infos table.style.header_lines row) _ (as_header row (All-head Known row table.rows each)) below_header

module _ (table : TableValue) (infos : List ColumnInfo) where
  -- the number of characters of a line
  abbrev total_of : ℕ
  total_of = border_count table.style (length (outer_widths infos)) + sum (outer_widths infos)

  -- each line of a row has this number
  row_counted : (line : ContentLineStyle) (row : RowValue) → All (ArePiecesCounted table row) (shown_infos infos) → All (HasCount total_of) (drawn_row (unstyled table) infos line row)
  row_counted line row each =
      All-row (HasCount total_of) (unstyled table) infos line row
      (λ k.
      HasCount-joined table.style line.left line.junction line.right (outer_widths infos) (row_line (unstyled table) infos row k)
      (AllZip-map HasCount (λ (p : ℕ × ColumnInfo). info_width p.1) (λ (p : ℕ × ColumnInfo). slice_index_or (pieces_at (unstyled table) row p) k (blank_piece p.1)) (shown_infos infos)
      (All-weaker (ArePiecesCounted table row) (λ (p : ℕ × ColumnInfo). HasCount (info_width p.1) (slice_index_or (pieces_at (unstyled table) row p) k (blank_piece p.1)))
      (λ p counted. At-or (HasCount (info_width p.1)) (pieces_at (unstyled table) row p) k (blank_piece p.1) counted (HasCount-spaces (info_width p.1))) (shown_infos infos) each)))

  -- a frame line that is drawn has this number
  frame_counted : (line : LineStyle) → All (HasCount total_of) (optional_frame_line table.style line (outer_widths infos))
  frame_counted line =
      cond_both (is_drawn line) _ [] (All (HasCount total_of))
      (λ _. All-cons (HasCount total_of) (frame_line table.style line (outer_widths infos)) []
      (HasCount-frame_line table.style line (outer_widths infos)) (All-nil (HasCount total_of)))
      (λ _. All-nil (HasCount total_of))

  -- all lines have this number
  drawing_counted : All (λ row. All (ArePiecesCounted table row) (shown_infos infos)) (measured_rows table) → All (HasCount total_of) (drawing_of_infos (unstyled table) infos)
  drawing_counted each =
      All-drawing (HasCount total_of) (unstyled table) infos (λ row. All (ArePiecesCounted table row) (shown_infos infos))
      (frame_counted table.style.top_border) (frame_counted table.style.header_separator) (frame_counted table.style.row_separator) (frame_counted table.style.bottom_border)
      (row_counted table.style.header_lines) (row_counted table.style.content_lines) each

-- all lines, also frame lines, have the same number of characters, for all arrangements and constraints. The indicator
-- has to be UTF-8: one that ends inside a character would take in the bytes after it.
abbrev pub EqualCounts : TableValue → List ℕ → Type 0
EqualCounts table widths =
    IsUtf8 table.indicator → IsPrintableTable table widths → IsArranged table widths → All (λ line. count line ≡ line_total table widths) (drawing (unstyled table) widths)

-- all lines of a printable table have the same number of characters
pub equal_counts : (table : TableValue) (widths : List ℕ) → EqualCounts table widths
equal_counts table widths utf8 plain arranged =
    let columns : length (outer_widths infos) ≡ shown_count table =
    length-map (shown_infos infos) _ ∙ length-infos_from 0 table.columns widths arranged.one_for_each in
    All-weaker (HasCount (total_of table infos)) (λ line. count line ≡ line_total table widths) (λ line has. count-is _ line has ∙ ap (λ n. border_count table.style n + sum (outer_widths infos)) columns) (drawing (unstyled table) widths)
    (drawing_counted table infos each)
  where
    infos : List ColumnInfo
    infos = infos_of table widths

    Known : ℕ → Option ℕ → Type 0
    Known i delimiter = All (IsPrintableCell table delimiter) (column_cells table i)

    known : All (IsKnownInfo Known) (shown_infos infos)
    known =
        infos-known table widths (λ (p : ℕ × ColumnValue). Known p.0 p.1.delimiter) (IsKnownInfo Known) arranged.one_for_each plain.printable_cells
        (λ i column w is. record { places = omega arith; known = is })

    each : All (λ row. All (ArePiecesCounted table row) (shown_infos infos)) (measured_rows table)
    each k default below j other low =
        pieces-counted table (slice_index_or (measured_rows table) k default) (slice_index_or (shown_infos infos) j other) utf8 (known j other low).places
        (All-given (IsPrintableCell table (slice_index_or (shown_infos infos) j other).1.delimiter) (λ (row : RowValue). slice_get row.cells (slice_index_or (shown_infos infos) j other).0) (measured_rows table) (known j other low).known k default below)
        (plain.indicator_adds_one_column_each k default below j other low)
