-- With custom styling no drawn line leaves a sequence open, if only texts of cells have sequences.
use Rattle.std.proofs.Common.{◌∷◌, ◌≡◌, ◌⊎◌, inl, inr, ◌≤◌, ℕ, zero, suc, ◌+◌, ◌-◌, Bool, true, false, List, [], ◌++◌, Option, Some, None, length, refl, sym, ap, ◌∙◌, subst, arith, slice_index_or, ◌<◌, ◌==◌, ⊎_elim, append_assoc}
use Rattle.std.specs.List.{All, slice_get}
use Rattle.std.specs.Prelude.{if◌then◌else◌, option_map}
use Rattle.std.specs.Str.{IsUtf8}
use Rattle.std.proofs.lemmas.Bool.Decides.{nat_tests}
use Rattle.std.proofs.lemmas.List.Elements.{All-cons, All-from_recursion, All-map, All-nil, All-weaker}
use Rattle.comfy_parts.proofs.CallerLemmas.{All-at, All-given, All-of_map, AllZip-map, At-or, OpensNone, IsScannedAlone, every-second, none-after, opens-alone, opens-append, opens-clear, opens-reset, opens-spaced, alone-append, alone-clear, alone-closed, alone-visible, alone-sequence}
use Rattle.comfy_parts.specs.CellValue.{CellValue, ColumnInfo, ColumnValue, RowValue, info_width}
use Rattle.comfy_parts.specs.Text.{HasNo, Text, measure, spaces}
use Rattle.comfy_parts.specs.VisibleLines.{CellLine}
use Rattle.comfy_parts.specs.VisibleText.{open_after, parts, reset}
use Rattle.comfy_parts.specs.declared.style.attribute.Attribute.{Attribute}
use Rattle.comfy_parts.specs.declared.style.table_style.ContentLineStyle.{ContentLineStyle}
use Rattle.comfy_parts.specs.declared.style.table_style.LineStyle.{LineStyle}
use Rattle.comfy_table.proofs.EqualCountLemmas.{All-drawing, All-row}
use Rattle.comfy_table.proofs.InfoLemmas.{infos-known}
use Rattle.comfy_table.proofs.KeptDrawingLemmas.{IsClearContent, IsClearFrame, IsClearStyle, frame_kept, keeps_joined, style_clear}
use Rattle.comfy_table.proofs.MeasuredLemmas.{IsRowOf, cell_measured, get_measured, row_measured, measured_rows-is}
use Rattle.comfy_table.proofs.SpaceLemmas.{no_styles, spaces-append}
use Rattle.comfy_table.proofs.StyledLemmas.{KeptByDrawing, KeptByJoining, keeps_spaces}
use Rattle.comfy_table.proofs.TextKindLemmas.{byte_kind, byte_style}
use Rattle.comfy_table.proofs.WrittenLemmas.{keeps_lines, none_is_open_at_the_end}
use Rattle.comfy_table.specs.Drawing.{drawing, drawn_row, infos_of, outer_widths}
use Rattle.comfy_table.specs.Frame.{optional_frame_line}
use Rattle.comfy_table.specs.Laws.{EndsItsStyling, HasNoEscape, HasSequencesInTextsAlone, LeavesNoneOpen}
use Rattle.comfy_table.specs.Pieces.{blank_piece, cell_pieces, free_before, free_places, cell_alignment, padded, piece, pieces_at, pieces_of_optional, row_cell_lines, row_line, shown_infos}
use Rattle.comfy_table.specs.Styling.{style_begin, style_end, style_end_without_attributes, styled}
use Rattle.comfy_table.specs.TableValue.{TableValue, column_cells, header_and_rows, measured_rows, should_style}

-- ---- properties that drawing and joining texts keep

-- a text stays one that no later text can continue
alone_kept : KeptByDrawing HasNoEscape (λ shown text. IsScannedAlone text)
alone_kept =
    record {
      joins = record { kind = byte_kind 0x1B refl; of_kind = alone-clear; of_both = λ shown others xs ys. alone-append xs ys };
      of_sequence = alone-sequence;
      of_measured = alone-visible;
      of_closed = alone-closed;
    }

-- a joined text opens no sequence, if its parts open none
opens_joined : KeptByJoining HasNoEscape (λ shown text. OpensNone text)
opens_joined =
    record { kind = byte_kind 0x1B refl; of_kind = opens-clear; of_both = λ shown others xs ys. opens-append xs ys }

opens_spaces : (n : ℕ) → OpensNone (spaces n)
opens_spaces n = keeps_spaces HasNoEscape (λ shown text. OpensNone text) opens_joined n

-- ---- pieces

-- a space follows each text of the column, or this text opens no sequence whatever follows it
abbrev EndsInside : ColumnInfo → Text → Type 0
EndsInside info text = (1 ≤ info.padding.1) ⊎ OpensNone text

-- a text that leaves no sequence open opens none before spaces
opens-spaces : (text : Text) (n : ℕ) → open_after (parts text) ≡ [] → 1 ≤ n → OpensNone (text ++ spaces n)
opens-spaces text zero ends some = absurd (omega (arith, some))
opens-spaces text (suc n) ends some = opens-spaced text (spaces n) ends (opens_spaces (suc n))

-- a padded text opens no sequence, if its text ends inside
opens-padded : (cell : CellValue) (info : ColumnInfo) (columns : ℕ) (text : Text) → open_after (parts text) ≡ [] → EndsInside info text → OpensNone (padded cell info columns text)
opens-padded cell info columns text ends inside =
    opens-append (spaces info.padding.0) _ (opens_spaces info.padding.0) (opens-append (spaces before) _ (opens_spaces before) (by_case inside))
  where
    before : ℕ
    before = free_before (cell_alignment cell info) (free_places info columns)

    after : ℕ
    after = free_places info columns - before

    by_case : EndsInside info text → OpensNone (text ++ (spaces after ++ spaces info.padding.1))
    by_case (inl some) =
        subst (λ (t : Text). OpensNone (text ++ t)) (sym (spaces-append after info.padding.1)) (opens-spaces text (after + info.padding.1) ends (omega (arith, some)))
    by_case (inr none) =
        opens-append text _ none (opens-append (spaces after) _ (opens_spaces after) (opens_spaces info.padding.1))

-- ---- styling

-- a text styled by a cell with an attribute opens no sequence, because it ends with a reset
styled-reset : (cell : CellValue) (text : Text) → 0 < length cell.attributes → OpensNone (styled cell text)
styled-reset cell text some =
    let attributed : (length cell.attributes == 0) ≡ false = grind (arith, nat_tests, some) in
    let ends : style_end cell ≡ reset = ap (λ b. if b then style_end_without_attributes cell.background cell.foreground else reset) attributed in
    subst OpensNone (append_assoc (style_begin cell) text reset ∙ ap (λ (t : Text). style_begin cell ++ (text ++ t)) (sym ends)) (opens-reset (style_begin cell ++ text))

-- so styling that ends opens no sequence, or writes nothing
styled-ends : (cell : CellValue) (text : Text) → EndsItsStyling cell → OpensNone (styled cell text) ⊎ (styled cell text ≡ text)
styled-ends cell text (inr some) = inl (styled-reset cell text some)
styled-ends cell text (inl none) = by_list cell.attributes refl
  where
    by_list : (given : List Attribute) → cell.attributes ≡ given → OpensNone (styled cell text) ⊎ (styled cell text ≡ text)
    by_list [] is = inr (no_styles cell text none.0 none.1 is)
    by_list (a ∷ more) is = inl (styled-reset cell text (subst (λ (given : List Attribute). 0 < length given) (sym is) (omega arith)))

-- a piece opens no sequence, if its text ends inside, and its styling ends or isn't written
opens-piece : (table : TableValue) (cell : CellValue) (info : ColumnInfo) (line : CellLine) → (should_style table ≡ false) ⊎ EndsItsStyling cell → open_after (parts line.written) ≡ [] → EndsInside info line.written
    → OpensNone (piece table cell info line)
opens-piece table cell info line styling ends inside = by_case styling
  where
    columns : ℕ
    columns = measure line.measured

    plain : OpensNone (padded cell info columns line.written)
    plain = opens-padded cell info columns line.written ends inside

    by_tests : EndsItsStyling cell → (styles text_only : Bool)
        → OpensNone (if styles then (if text_only then padded cell info columns (styled cell line.written) else styled cell (padded cell info columns line.written)) else padded cell info columns line.written)
    by_tests own true true =
        ⊎_elim (λ opens. opens-padded cell info columns (styled cell line.written) (none-after (styled cell line.written) opens) (inr opens))
        (λ same. subst (λ (t : Text). OpensNone (padded cell info columns t)) (sym same) plain) (styled-ends cell line.written own)
    by_tests own true false =
        ⊎_elim (λ opens. opens) (λ same. subst OpensNone (sym same) plain) (styled-ends cell (padded cell info columns line.written) own)
    by_tests own false text_only = plain

    by_case : (should_style table ≡ false) ⊎ EndsItsStyling cell → OpensNone (piece table cell info line)
    by_case (inl off) =
        let same : piece table cell info line ≡ padded cell info columns line.written = grind (arith, off) in
        subst OpensNone (sym same) plain
    by_case (inr own) = by_tests own (should_style table) table.style_text_only

-- ---- rows

-- the conditions on a cell of a row in a column: its styling ends or isn't written, and its texts end inside
record IsClosedCell (table : TableValue) (info : ColumnInfo) (cell : CellValue) : Type 0 where
  styling : (should_style table ≡ false) ⊎ EndsItsStyling cell
  ends : (1 ≤ info.padding.1) ⊎ All HasNoEscape (cell_measured table.custom_styling cell).text_lines
  whole : All IsUtf8 (cell_measured table.custom_styling cell).text_lines

module _ (table : TableValue) (on : table.custom_styling ≡ true) (mark : HasNo 0x1B table.indicator) where
  -- the lines of such a cell end inside
  ends_inside : (row : RowValue) (info : ColumnInfo) (cell : CellValue) → IsClosedCell table info cell → All (λ (line : CellLine). EndsInside info line.written) (row_cell_lines table row info cell)
  ends_inside row info cell own = by_case own.ends
    where
      by_case : (1 ≤ info.padding.1) ⊎ All HasNoEscape (cell_measured table.custom_styling cell).text_lines → All (λ (line : CellLine). EndsInside info line.written) (row_cell_lines table row info cell)
      by_case (inl some) = λ k default below. inl some
      by_case (inr clear) = λ k default below.
          inr (opens-alone (slice_index_or (row_cell_lines table row info cell) k default).written (none_is_open_at_the_end table row info cell on k default below)
          (keeps_lines table row info cell HasNoEscape (λ shown text. IsScannedAlone text) alone_kept table.custom_styling mark own.whole clear k default below))

  -- so its pieces open no sequence
  opens_pieces : (row : RowValue) (info : ColumnInfo) (cell : CellValue) → IsClosedCell table info cell → All OpensNone (cell_pieces table row info cell)
  opens_pieces row info cell own =
      All-map OpensNone (piece table cell info) (row_cell_lines table row info cell)
      (λ k default below.
      opens-piece table cell info (slice_index_or (row_cell_lines table row info cell) k default) own.styling (none_is_open_at_the_end table row info cell on k default below) (ends_inside row info cell own k default below))

  -- the pieces of a row in a column open no sequence
  opens_column : (row : RowValue) (p : ℕ × ColumnInfo) → ((cell : CellValue) → slice_get row.cells p.0 ≡ Some cell → IsClosedCell table p.1 cell) → All OpensNone (pieces_at table row p)
  opens_column row p known = by_option (slice_get row.cells p.0) known
    where
      by_option : (o : Option CellValue) → ((cell : CellValue) → o ≡ Some cell → IsClosedCell table p.1 cell) → All OpensNone (pieces_of_optional table row p.1 o)
      by_option None known = All-cons OpensNone (blank_piece p.1) [] (opens_spaces (info_width p.1)) (All-nil OpensNone)
      by_option (Some cell) known = opens_pieces row p.1 cell (known cell refl)

  -- ---- lines

  module _ (infos : List ColumnInfo) where
    -- each cell of the row in a shown column meets these conditions
    abbrev IsClosedRow : RowValue → Type 0
    IsClosedRow row =
        All (λ (p : ℕ × ColumnInfo). (cell : CellValue) → slice_get row.cells p.0 ≡ Some cell → IsClosedCell table p.1 cell) (shown_infos infos)

    -- the lines of such a row open no sequence
    opens_row : (line : ContentLineStyle) → IsClearContent HasNoEscape line → (row : RowValue) → IsClosedRow row → All OpensNone (drawn_row table infos line row)
    opens_row line clear row known =
        All-row OpensNone table infos line row
        (λ k.
        keeps_joined HasNoEscape (λ shown text. OpensNone text) opens_joined table.style line.left line.junction line.right (row_line table infos row k) (row_line table infos row k) clear.left clear.junction clear.right
        (AllZip-map (λ shown text. OpensNone text) (λ (p : ℕ × ColumnInfo). slice_index_or (pieces_at table row p) k (blank_piece p.1)) (λ (p : ℕ × ColumnInfo). slice_index_or (pieces_at table row p) k (blank_piece p.1)) (shown_infos infos)
        (λ j other below.
        let p : ℕ × ColumnInfo = slice_index_or (shown_infos infos) j other in
        At-or OpensNone (pieces_at table row p) k (blank_piece p.1) (opens_column row p (known j other below)) (opens_spaces (info_width p.1)))))

    -- frame lines open no sequence
    opens_frame : (line : LineStyle) → IsClearFrame HasNoEscape line → All OpensNone (optional_frame_line table.style line (outer_widths infos))
    opens_frame line clear =
        All-from_recursion OpensNone (optional_frame_line table.style line (outer_widths infos))
        (every-second OpensNone _ (optional_frame_line table.style line (outer_widths infos)) (frame_kept HasNoEscape (λ shown text. OpensNone text) opens_joined table.style line (outer_widths infos) clear))

-- ---- tables

-- a property of all measured rows holds of the rows, each as it is measured
of_measured_rows : (table : TableValue) (P : RowValue → Type 0) → All P (measured_rows table) → All (λ row. P (row_measured table.custom_styling row)) (header_and_rows table)
of_measured_rows table P each =
    All-of_map P (row_measured table.custom_styling) (header_and_rows table) (subst (All P) (measured_rows-is table) each)

-- no sequence is open after a line of the drawing
pub lines_are_closed : (table : TableValue) (widths : List ℕ) → length widths ≡ length table.columns → table.custom_styling ≡ true → HasSequencesInTextsAlone table → All (IsRowOf IsUtf8) (measured_rows table)
    → All LeavesNoneOpen (drawing table widths)
lines_are_closed table widths same on alone whole =
    All-weaker OpensNone LeavesNoneOpen none-after (drawing table widths)
    (All-drawing OpensNone table infos (IsClosedRow table on mark infos)
    (opens_frame table on mark infos table.style.top_border style.top_border) (opens_frame table on mark infos table.style.header_separator style.header_separator)
    (opens_frame table on mark infos table.style.row_separator style.row_separator) (opens_frame table on mark infos table.style.bottom_border style.bottom_border)
    (opens_row table on mark infos table.style.header_lines style.header_lines) (opens_row table on mark infos table.style.content_lines style.content_lines) rows)
  where
    infos : List ColumnInfo
    infos = infos_of table widths

    mark : HasNo 0x1B table.indicator
    mark = alone.style.indicator

    style : IsClearStyle HasNoEscape table.style
    style = style_clear HasNoEscape table.style (byte_style 0x1B table.style (omega arith) alone.style.characters)

    Ends : ℕ × ColumnInfo → Type 0
    Ends p = (1 ≤ p.1.padding.1) ⊎ All (λ (cell : CellValue). All HasNoEscape cell.text_lines) (column_cells table p.0)

    ends : All Ends (shown_infos infos)
    ends =
        infos-known table widths (λ (p : ℕ × ColumnValue). (1 ≤ p.1.padding.1) ⊎ All (λ (cell : CellValue). All HasNoEscape cell.text_lines) (column_cells table p.0)) Ends same alone.ends (λ i column w own. own)

    found_measured : (row : RowValue) (i : ℕ) (cell : CellValue) → slice_get row.cells i ≡ Some cell → slice_get (row_measured table.custom_styling row).cells i ≡ Some (cell_measured table.custom_styling cell)
    found_measured row i cell found = get_measured table.custom_styling row.cells i ∙ ap (option_map (cell_measured table.custom_styling)) found

    rows : All (IsClosedRow table on mark infos) (header_and_rows table)
    rows k default under j other below cell found =
        record { styling = styling alone.styling; ends = inside (ends j other below); whole = All-at (λ (cell : CellValue). All IsUtf8 cell.text_lines) (row_measured table.custom_styling row).cells p.0 (cell_measured table.custom_styling cell) (of_measured_rows table (IsRowOf IsUtf8) whole k default under) measured }
      where
        row : RowValue
        row = slice_index_or (header_and_rows table) k default

        p : ℕ × ColumnInfo
        p = slice_index_or (shown_infos infos) j other

        measured : slice_get (row_measured table.custom_styling row).cells p.0 ≡ Some (cell_measured table.custom_styling cell)
        measured = found_measured row p.0 cell found

        styling : (should_style table ≡ false) ⊎ All (λ (row : RowValue). All EndsItsStyling row.cells) (header_and_rows table) → (should_style table ≡ false) ⊎ EndsItsStyling cell
        styling (inl off) = inl off
        styling (inr none) = inr (All-at EndsItsStyling row.cells p.0 cell (none k default under) found)

        inside : Ends p → (1 ≤ p.1.padding.1) ⊎ All HasNoEscape (cell_measured table.custom_styling cell).text_lines
        inside (inl some) = inl some
        inside (inr clear) =
            inr (of_measured_rows table (λ (row : RowValue). (y : CellValue) → slice_get row.cells p.0 ≡ Some y → All HasNoEscape y.text_lines)
            (All-given (λ (cell : CellValue). All HasNoEscape cell.text_lines) (λ (row : RowValue). slice_get row.cells p.0) (measured_rows table) clear) k default under (cell_measured table.custom_styling cell) measured)
