-- The promises of a drawing over a table's widths.
use Rattle.std.proofs.Common.{◌≡◌, ◌≤◌, ℕ, ◌+◌, not, List, [], ◌∷◌, Option, Some, None, map, zip, slice_index_or, unwrap_or, max, String, refl, ap, sym, subst, ◌∙◌, arith}
use Rattle.std.proofs.lemmas.List.Elements.{All-filter, All-head, All-nil, All-tail, All-weaker}
use Rattle.std.proofs.lemmas.Str.{IsUtf8-string_bytes}
use Rattle.std.specs.Char.{IsScalar}
use Rattle.std.specs.List.{All, enumerate_from, slice_get}
use Rattle.std.specs.Str.{IsUtf8}
use Rattle.comfy_parts.proofs.Computing.{wrapping}
use Rattle.comfy_parts.proofs.CallerLemmas.{All-at, All-of_map, one_character, wrapped_is_wrapped}
use Rattle.comfy_table.proofs.BreakLemmas.{without_breaks}
use Rattle.comfy_table.proofs.ClosedLineLemmas.{lines_are_closed}
use Rattle.comfy_table.proofs.ControlLemmas.{free_of_escapes, without_controls}
use Rattle.comfy_table.proofs.MeasuredLemmas.{HasCells, IsRowOf, rows_of, measured_kept}
use Rattle.comfy_parts.specs.CellValue.{CellValue, ColumnInfo, ColumnValue, IsCell, IsColumn, IsDelimiter, IsRow, RowValue, info_of}
use Rattle.comfy_parts.specs.Text.{Text, measure}
use Rattle.comfy_table.proofs.DrawnWidthLemmas.{fills_width, keeps_to_width}
use Rattle.comfy_table.proofs.EqualCountLemmas.{equal_counts}
use Rattle.comfy_table.proofs.StraightLemmas.{straight}
use Rattle.comfy_table.proofs.CellFitLemmas.{IsWholeCell}
use Rattle.comfy_table.specs.Straight.{EachCell, EachShownCell}
use Rattle.comfy_table.specs.Arrangement.{AreInfosOf, IsArranged}
use Rattle.comfy_table.proofs.StylingTakenOutLemmas.{styling_taken_out}
use Rattle.comfy_table.proofs.TableLemmas.{frame_counts}
use Rattle.comfy_table.proofs.WiderLemmas.{fills_wider_total, keeps_to_wider_total, keeps_to_wider_total_in_full}
use Rattle.comfy_table.proofs.WrittenLemmas.{cut_lines_are_closed, lines_are_resumed, none_is_open_at_the_end}
use Rattle.comfy_parts.specs.VisibleText.{visible_text}
use Rattle.comfy_table.proofs.UnstyledLemmas.{unstyled_drawing}
use Rattle.comfy_table.specs.Drawing.{drawing, drawing_of_infos, infos_of}
use Rattle.comfy_table.specs.Headline.{AreTextsOrSlices, LineWidthsSatisfy, IsTableDrawing, IsTextOrSlices}
use Rattle.comfy_table.specs.Laws.{CutLinesAreClosed, HasNoBreak, HasNoControl, IsFreeOfEscapes, LeavesNoneOpen, LinesAreResumedInRow, NoneIsOpenAtTheEnd, count, least_total, line_total, unstyled}
use Rattle.comfy_table.specs.Pieces.{shown_infos}
use Rattle.comfy_table.specs.TableLaws.{wider_total}
use Rattle.comfy_table.specs.TableValue.{KeepsParts, TableValue, ellipsis, header_and_rows, indicator_of, measured_rows}

-- the lines of a text are the text, or slices of it
text_or_slices : (w d : ℕ) (text : Text) → IsScalar d → IsUtf8 text → IsTextOrSlices w d text
text_or_slices w d text scalar whole = grind (arith, wrapped_is_wrapped)

-- a delimiter, or else another character, is a character
delimiter_or : (delimiter : Option ℕ) (other : ℕ) → IsDelimiter delimiter → IsScalar other → IsScalar (unwrap_or delimiter other)
delimiter_or None other is given = given
delimiter_or (Some d) other is given = is

-- a cell of a row is whole in a column whose delimiter is a character
whole_cell : (table : TableValue) (row : RowValue) → IsDelimiter table.delimiter → HasCells row → (p : ℕ × ColumnInfo) → IsDelimiter p.1.delimiter
    → (cell : CellValue) → slice_get row.cells p.0 ≡ Some cell → IsWholeCell table row p.1 cell
whole_cell table row own kept p of_column cell is =
    let own_cell : IsCell cell = All-at IsCell row.cells p.0 cell kept is in
    (own_cell.text_lines.whole, delimiter_or cell.delimiter _ own_cell.delimiter (delimiter_or p.1.delimiter _ of_column (delimiter_or table.delimiter 0x20 own refl)))

-- the lines of its text lines are the texts, or slices of them
cell_slices : (table : TableValue) (row : RowValue) (info : ColumnInfo) (cell : CellValue)
    → IsWholeCell table row info cell → AreTextsOrSlices table row info cell
cell_slices table row info cell whole = grind (arith, text_or_slices)

-- the rows of a table and its header have the invariant of rows
all_rows : (table : TableValue) → KeepsParts table → All IsRow (header_and_rows table)
all_rows table kept = grind arith

-- the shown columns have the delimiters of the table's columns
info_delimiters : (n : ℕ) (columns : List ColumnValue) (widths : List ℕ) → All IsColumn columns
    → All (λ (p : ℕ × ColumnInfo). IsDelimiter p.1.delimiter) (enumerate_from n (map (λ (p : ColumnValue × ℕ). info_of p.0 p.1) (zip columns widths)))
info_delimiters n [] widths kept = All-nil (λ (p : ℕ × ColumnInfo). IsDelimiter p.1.delimiter)
info_delimiters n (column ∷ columns) [] kept = All-nil (λ (p : ℕ × ColumnInfo). IsDelimiter p.1.delimiter)
info_delimiters n (column ∷ columns) (width ∷ widths) kept =
    grind (arith, All-head, info_delimiters (n + 1) columns widths (All-tail IsColumn column columns kept))

-- a property of a line's total holds of each line's number of characters
each_line_counts : (P : ℕ → Type 0) (table : TableValue) (widths : List ℕ) → IsUtf8 table.indicator → EachCell (IsWholeCell table) table widths → IsArranged table widths → P (line_total table widths)
    → LineWidthsSatisfy P table widths
each_line_counts P table widths utf8 cells arranged meets =
    record {
      frame_lines = λ line. subst P (sym (frame_counts table widths line arranged.one_for_each)) meets;
      printable_lines = λ plain. All-weaker (λ line. count line ≡ line_total table widths) (λ line. P (count line)) (λ line is. subst P (sym is) meets) (drawing (unstyled table) widths) (equal_counts table widths utf8 plain arranged);
      straight_lines = λ is. All-weaker (λ line. measure line ≡ line_total table widths) (λ line. P (measure line)) (λ line same. subst P (sym same) meets) (drawing (unstyled table) widths) (straight table widths utf8 cells arranged is);
    }

-- a property of each cell of a row holds of each cell in a shown column
each_shown : (P : RowValue → ColumnInfo → CellValue → Type 0) (rows : List RowValue)
    → (table : TableValue) (widths : List ℕ)
    → ((row : RowValue) (info : ColumnInfo) (cell : CellValue) → P row info cell)
    → EachShownCell P rows table widths
each_shown P rows table widths each k default under j other below cell found = each _ _ cell

-- the drawing keeps all promises of drawings
pub table_drawing : (table : TableValue) (infos : List ColumnInfo) (lines : List Text) → IsUtf8 table.indicator → KeepsParts table → AreInfosOf table infos → lines ≡ drawing_of_infos table infos → IsTableDrawing table lines
table_drawing table infos lines utf8 kept (widths, arranged, is) drawn =
    let whole = drawn ∙ ap (drawing_of_infos table) is in
    let rows : All HasCells (measured_rows table) = measured_kept table (All-weaker IsRow HasCells (λ row own. own.cells) (header_and_rows table) (all_rows table kept)) in
    let texts : All (IsRowOf IsUtf8) (measured_rows table) = rows_of IsUtf8 (λ texts own. own.whole) (measured_rows table) rows in
    let delimiters : All (λ (p : ℕ × ColumnInfo). IsDelimiter p.1.delimiter) (shown_infos (infos_of table widths)) =
    All-filter (λ (p : ℕ × ColumnInfo). not p.1.is_hidden) (λ (p : ℕ × ColumnInfo). IsDelimiter p.1.delimiter) _ (info_delimiters 0 table.columns widths kept.columns) in
    let cells : EachCell (IsWholeCell table) table widths =
    All-weaker HasCells (λ (row : RowValue). All (λ (p : ℕ × ColumnInfo). (cell : CellValue) → slice_get row.cells p.0 ≡ Some cell → IsWholeCell table row p.1 cell) (shown_infos (infos_of table widths)))
    (λ row each. All-weaker (λ (p : ℕ × ColumnInfo). IsDelimiter p.1.delimiter) (λ (p : ℕ × ColumnInfo). (cell : CellValue) → slice_get row.cells p.0 ≡ Some cell → IsWholeCell table row p.1 cell)
    (whole_cell table row kept.delimiter each) (shown_infos (infos_of table widths)) delimiters)
    (measured_rows table) rows in
    let free_lines = λ (free : IsFreeOfEscapes table). ap (map visible_text) whole ∙ styling_taken_out table widths arranged.one_for_each texts free in
    record {
      widths = widths;
      arranged = arranged;
      drawn = whole;
      texts = record {
        whole_texts = texts;
        scalar_delimiters = λ k default under j other below cell found.
            (cells k default under j other below cell found).1;
        slices = λ k default under j other below cell found.
            cell_slices table (slice_index_or (measured_rows table) k default)
            (slice_index_or (shown_infos (infos_of table widths)) j other).1 cell
            (cells k default under j other below cell found);
      };
      edges = record {
        frame_counts = λ line. frame_counts table widths line arranged.one_for_each;
        unstyled_lines = λ off plain.
            whole ∙ sym (unstyled_drawing table (infos_of table widths) off plain);
        equal_counts = λ plain. equal_counts table widths utf8 plain arranged;
        straight = straight table widths utf8 cells arranged;
      };
      known_width = record {
        keeps_to_width = λ w none dynamic known.
            each_line_counts (λ n. n ≤ max w (least_total table)) table widths utf8 cells arranged
            (keeps_to_width table w widths none dynamic known arranged);
        fills_width = λ w none full known some.
            each_line_counts (λ n. n ≡ max w (least_total table)) table widths utf8 cells arranged
            (fills_width table w widths none full known some arranged);
        keeps_to_wider_total = λ w dynamic known.
            let found = keeps_to_wider_total table w widths dynamic known arranged in
            let P : ℕ → Type 0 = λ n. n ≤ max w (wider_total table found.0) in
            (found.0, found.1, each_line_counts P table widths utf8 cells arranged found.2);
        keeps_to_wider_total_in_full = λ w full known.
            let found = keeps_to_wider_total_in_full table w widths full known arranged in
            let P : ℕ → Type 0 = λ n. n ≤ max w (wider_total table found.0) in
            (found.0, found.1, each_line_counts P table widths utf8 cells arranged found.2);
        fills_wider_total = λ w full known some.
            let found = fills_wider_total table w widths full known some arranged in
            let P : ℕ → Type 0 = λ n. n ≡ max w (wider_total table found.0) in
            (found.0, found.1, each_line_counts P table widths utf8 cells arranged found.2);
      };
      sequences = record {
        without_sequences = free_lines;
        straight_without_sequences = λ free is.
            All-of_map (λ text. measure text ≡ line_total table widths) visible_text lines
            (subst (All (λ text. measure text ≡ line_total table widths)) (sym (free_lines free))
            (straight table widths utf8 cells arranged is));
        closed = λ on.
            each_shown (NoneIsOpenAtTheEnd table) (header_and_rows table) table widths
            (λ row info cell. none_is_open_at_the_end table row info cell on);
        resumed = λ on.
            each_shown (LinesAreResumedInRow table) (header_and_rows table) table widths
            (λ row info cell. lines_are_resumed table row info cell on);
        cut_closed = λ on.
            each_shown (CutLinesAreClosed table) (header_and_rows table) table widths
            (λ row info cell. cut_lines_are_closed table row info cell on);
        closed_lines = λ on alone.
            subst (All LeavesNoneOpen) (sym whole)
            (lines_are_closed table widths arranged.one_for_each on alone texts);
      };
      controls = record {
        without_breaks = λ style.
            let unbroken =
            rows_of HasNoBreak (λ texts own. own.no_breaks) (measured_rows table) rows in
            subst (All HasNoBreak) (sym whole) (without_breaks table widths texts unbroken style);
        without_controls = λ free.
            All-of_map HasNoControl visible_text lines
            (subst (All HasNoControl) (sym (free_lines (free_of_escapes table free)))
            (without_controls table widths arranged.one_for_each texts free));
      };
    }

-- the indicator of a new table is UTF-8
utf8_ellipsis : IsUtf8 ellipsis
unfolding wrapping
utf8_ellipsis = (one_character 0x2026 refl).0

-- an indicator consists of whole characters
pub utf8_indicator : {A : Type 0} (set : Option (String A)) → IsUtf8 (indicator_of set)
utf8_indicator None = utf8_ellipsis
utf8_indicator (Some set) = IsUtf8-string_bytes set
