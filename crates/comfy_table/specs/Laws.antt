-- Laws of drawings and widths, beyond their definitions. Each is a statement on given values.
-- Source: this library's own.
use Rattle.std.specs.Prelude.{◌≡◌, ◌⊎◌, ℕ, ◌+◌, ◌-◌, ◌<◌, ◌≤◌, Bool, true, false, List, [], ◌∷◌, ◌++◌, Option, Some, None, take, drop, length, max, sum, sum_by, All, chars, slice_get, map, IsUtf8, unwrap_or, ◌==◌}
use Rattle.std.specs.Char.{IsScalar, is_control}
use Rattle.std.specs.Int.{is_in_range}
use Rattle.std.specs.List.{AllZip, concat, list_any, slice_split}
use Rattle.std.specs.Str.{NoCharPasses}
use Rattle.comfy_parts.specs.CellValue.{CellValue, RowValue, ColumnValue, ColumnInfo, column_padding}
use Rattle.comfy_parts.specs.Columns.{style_characters}
use Rattle.comfy_parts.specs.Text.{Text, HasNo, is_printable_ascii, AddsOneColumnEach}
use Rattle.comfy_parts.specs.Laws.{IsResumedLine, characters_without}
use Rattle.comfy_parts.specs.VisibleLines.{CellLine, line_starts}
use Rattle.comfy_parts.specs.VisibleText.{closed, parts, open_after}
use Rattle.comfy_parts.specs.declared.style.table.ContentArrangement.TheVariants.{Dynamic, DynamicFullWidth}
use Rattle.comfy_parts.specs.declared.style.table_style.TableStyle.{TableStyle}
use Rattle.comfy_table.specs.Arrangement.{IsArranged}
use Rattle.comfy_table.specs.Drawing.{infos_of, terminated_text_of, text_of, outer_widths}
use Rattle.comfy_table.specs.Dynamic.{Steps, IsDynamicLayout, fixed_claims, places_of, total}
use Rattle.comfy_table.specs.Frame.{border_count}
use Rattle.comfy_table.specs.Lines.{cell_lines, cell_delimiter, fitting_indicator, uncut_count, uncut_lines}
use Rattle.comfy_table.specs.Pieces.{shown_infos, row_cell_lines}
use Rattle.comfy_table.specs.TableValue.{TableValue, table_width, shown_columns, column_cells, header_and_rows, measured_cell, measured_table, measured_rows, should_style}
use Rattle.comfy_table.specs.Widths.{ColumnNeeds, shown_count}

-- ---- counts of lines

-- the number of characters of a line
abbrev pub count : Text → ℕ
count line = length (chars line)

-- the table as it is measured, without styling
abbrev pub unstyled : TableValue → TableValue
unstyled table = record (measured_table table) { no_tty = true; enforce_styling = false }

-- the number of border characters of a line and the whole widths of the shown columns together
abbrev pub line_total : TableValue → List ℕ → ℕ
line_total table widths =
    border_count table.style (shown_count table) + sum (outer_widths (infos_of table widths))

-- the least total: borders, paddings and one terminal column for each shown column
abbrev pub least_total : TableValue → ℕ
least_total table =
    border_count table.style (shown_count table)
    + (sum_by (λ (p : ℕ × ColumnValue). column_padding p.1) (shown_columns table)
    + shown_count table)

-- a cell's text lines and its delimiter in this column are printable ASCII
abbrev pub IsPrintableCell : TableValue → Option ℕ → CellValue → Type 0
IsPrintableCell table column_delimiter cell =
    All (λ line. is_printable_ascii line ≡ true) cell.text_lines
    × (is_in_range 0x20 0x7E (cell_delimiter table column_delimiter cell) ≡ true)

-- if a row cuts the cell of this column, the indicator that is written adds one terminal column for
-- each of its characters
abbrev pub AddsOneColumnEachWhereWritten : TableValue → RowValue → ℕ × ColumnInfo → Type 0
AddsOneColumnEachWhereWritten table row p =
    (cell : CellValue) (h : ℕ) → slice_get row.cells p.0 ≡ Some cell → row.max_height ≡ Some h
    → h < length (cell_lines p.1.content_width (cell_delimiter table p.1.delimiter cell) cell)
    → AddsOneColumnEach (fitting_indicator p.1.content_width table.indicator)

-- all cells in shown columns are printable ASCII
abbrev pub HasPrintableCells : TableValue → Type 0
HasPrintableCells table =
    All (λ (p : ℕ × ColumnValue). All (IsPrintableCell table p.1.delimiter)
    (column_cells table p.0)) (shown_columns table)

-- all cells in shown columns are printable ASCII, and an indicator that is written adds one
-- terminal column for each of its characters
pub record IsPrintableTable (table : TableValue) (widths : List ℕ) : Type 0 where
  pub printable_cells : HasPrintableCells table
  pub indicator_adds_one_column_each :
      All (λ (row : RowValue). All (AddsOneColumnEachWhereWritten table row)
      (shown_infos (infos_of table widths))) (measured_rows table)

-- ---- totals

-- no shown column has a constraint
abbrev pub NoConstraints : TableValue → Type 0
NoConstraints table = All (λ (p : ℕ × ColumnValue). p.1.constraint ≡ None) (shown_columns table)

-- under `Dynamic` a line has at most the table's width, or the least total if that is more
abbrev pub KeepsToWidth : TableValue → ℕ → List ℕ → Type 0
KeepsToWidth table w widths =
    NoConstraints table → table.arrangement ≡ Dynamic → table_width table ≡ Some w
    → IsArranged table widths
    → line_total table widths ≤ max w (least_total table)

-- under `DynamicFullWidth` a line has exactly the table's width, or the least total if that is
-- more, if a column is shown
abbrev pub FillsWidth : TableValue → ℕ → List ℕ → Type 0
FillsWidth table w widths =
    NoConstraints table → table.arrangement ≡ DynamicFullWidth → table_width table ≡ Some w
    → 0 < shown_count table
    → IsArranged table widths
    → line_total table widths ≡ max w (least_total table)

-- the least room that constraints leave for dynamic widths: all paddings, the content widths of the
-- columns decided by fixed widths and lower boundaries, and one terminal column for each other
-- column
abbrev pub least_with_steps : List ColumnNeeds → Steps → ℕ
least_with_steps columns steps =
    sum_by (λ (column : ColumnNeeds). column.padding) columns
    + (total (fixed_claims (places_of columns)) + total steps.lower)
    + (length columns - (length (fixed_claims (places_of columns)) + length steps.lower))

-- ---- widths

-- dynamic widths are unique
abbrev pub DynamicIsOne : ℕ → List ColumnNeeds → Bool → List ℕ → List ℕ → Type 0
DynamicIsOne room columns full widths others =
    IsDynamicLayout room columns full widths → IsDynamicLayout room columns full others
    → widths ≡ others

-- ---- texts

-- the lines of a cell that no height cuts, as they are measured, have all characters of its text in
-- order, except for delimiters
abbrev pub CellKeepsItsText : TableValue → RowValue → ColumnInfo → CellValue → Type 0
CellKeepsItsText table row info cell =
    row.max_height ≡ None → IsScalar (cell_delimiter table info.delimiter cell)
    → All IsUtf8 (measured_cell table cell).text_lines
    → characters_without (cell_delimiter table info.delimiter cell)
    (concat (map (λ (line : CellLine). line.measured) (row_cell_lines table row info cell)))
    ≡ characters_without (cell_delimiter table info.delimiter cell)
    (concat (measured_cell table cell).text_lines)

-- ---- styling and sequences

-- the text has no byte ESC
abbrev pub HasNoEscape : Text → Type 0
HasNoEscape text = HasNo 0x1B text

-- the text has no line feed
abbrev pub HasNoBreak : Text → Type 0
HasNoBreak text = HasNo 0x0A text

-- the lines of a text: each is followed by a line feed, and no line has one
pub record AreLinesOf (text : Text) (lines : List Text) : Type 0 where
  pub joined : text ≡ terminated_text_of lines
  pub unbroken : All HasNoBreak lines

-- no character of the style is the byte b; a missing one counts as a space
abbrev pub IsStyleWithout : ℕ → TableStyle → Type 0
IsStyleWithout b style =
    list_any (λ (c : Option ℕ). unwrap_or c 0x20 == b) (style_characters style) ≡ false

-- neither the style nor the truncation indicator has the byte b
pub record HasStyleWithout (b : ℕ) (table : TableValue) : Type 0 where
  pub indicator : HasNo b table.indicator
  pub characters : IsStyleWithout b table.style

-- P holds of each text line, as it is measured, of each cell in a shown column
abbrev pub EachShownText : (Text → Type 0) → TableValue → Type 0
EachShownText P table =
    All (λ (p : ℕ × ColumnValue). All (λ (cell : CellValue). All P cell.text_lines)
    (column_cells table p.0))
    (shown_columns table)

-- neither a shown text line, as it is measured, nor the style or the indicator has ESC
pub record IsFreeOfEscapes (table : TableValue) : Type 0 where
  pub text_lines : EachShownText HasNoEscape table
  pub style : HasStyleWithout 0x1B table

-- neither the style nor the indicator has a line feed
abbrev pub HasUnbrokenStyle : TableValue → Type 0
HasUnbrokenStyle table = HasStyleWithout 0x0A table

-- ---- control characters

-- no character of the text is a control character
abbrev pub HasNoControl : Text → Type 0
HasNoControl text = NoCharPasses is_control text

-- neither a shown text line, as it is measured, nor the style or the indicator has a control
-- character
pub record IsFreeOfControls (table : TableValue) : Type 0 where
  pub text_lines : EachShownText HasNoControl table
  pub indicator : HasNoControl table.indicator
  pub characters :
      list_any (λ (c : Option ℕ). is_control (unwrap_or c 0x20)) (style_characters table.style)
      ≡ false

-- ---- texts of lines

-- splitting the joined lines at line feeds gives the lines, if there is a line
abbrev pub JoinedLinesAreFound : List Text → Type 0
JoinedLinesAreFound lines =
    0 < length lines → All HasNoBreak lines → slice_split (λ b. b == 0x0A) (text_of lines) ≡ lines

-- no lines give the same text as one empty line
abbrev pub NoLinesAreOneEmptyLine : Type 0
NoLinesAreOneEmptyLine = text_of [] ≡ text_of ([] ∷ [])

-- splitting lines that are each followed by a line feed gives the lines, and an empty text after
-- them
abbrev pub TerminatedLinesAreFound : List Text → Type 0
TerminatedLinesAreFound lines =
    All HasNoBreak lines
    → slice_split (λ b. b == 0x0A) (terminated_text_of lines) ≡ lines ++ [] ∷ []

-- ---- custom styling

-- with custom styling no sequence is open at the end of a line's text, before the cell's own
-- styling begins; this also holds for cut lines
abbrev pub NoneIsOpenAtTheEnd : TableValue → RowValue → ColumnInfo → CellValue → Type 0
NoneIsOpenAtTheEnd table row info cell =
    All (λ (line : CellLine). open_after (parts line.written) ≡ [])
    (row_cell_lines table row info cell)

-- the number of lines of a cell in a row that aren't cut
abbrev pub uncut_in_row : TableValue → RowValue → ColumnInfo → CellValue → ℕ
uncut_in_row table row info cell =
    uncut_count row.max_height (uncut_lines table.custom_styling info.content_width
    (cell_delimiter table info.delimiter cell) cell)

-- with custom styling, before each visible byte of a line that isn't cut, the open sequences are
-- those that are active there in the cell
abbrev pub LinesAreResumedInRow : TableValue → RowValue → ColumnInfo → CellValue → Type 0
LinesAreResumedInRow table row info cell =
    AllZip IsResumedLine (take (uncut_in_row table row info cell)
    (line_starts info.content_width (cell_delimiter table info.delimiter cell) cell.text_lines))
    (take (uncut_in_row table row info cell) (row_cell_lines table row info cell))

-- with custom styling, a line that is cut is written as it is measured, with its sequences closed
abbrev pub CutLinesAreClosed : TableValue → RowValue → ColumnInfo → CellValue → Type 0
CutLinesAreClosed table row info cell =
    All (λ (line : CellLine). line.written ≡ closed line.measured)
    (drop (uncut_in_row table row info cell) (row_cell_lines table row info cell))

-- ---- sequences in drawn lines

-- no sequence is open after the line
abbrev pub LeavesNoneOpen : Text → Type 0
LeavesNoneOpen line = open_after (parts line) ≡ []

-- the styling of a cell ends with a reset, or writes nothing: the cell has no colours of its own,
-- or it has an attribute
abbrev pub EndsItsStyling : CellValue → Type 0
EndsItsStyling cell =
    ((cell.background ≡ None) × (cell.foreground ≡ None)) ⊎ (0 < length cell.attributes)

-- the styling of each cell ends with a reset or writes nothing, if styling is written
abbrev pub EndsStyling : TableValue → Type 0
EndsStyling table =
    (should_style table ≡ false) ⊎ All (λ (row : RowValue). All EndsItsStyling row.cells)
    (header_and_rows table)

-- each shown column has a padding at its right, or its cells have no ESC as they are measured; so
-- no sequence begins in a text and ends outside of it
abbrev pub EndsSequencesInTexts : TableValue → Type 0
EndsSequencesInTexts table =
    All (λ (p : ℕ × ColumnValue). (1 ≤ p.1.padding.1)
    ⊎ All (λ (cell : CellValue). All HasNoEscape cell.text_lines) (column_cells table p.0))
    (shown_columns table)

-- except for styling that ends, only texts of cells have sequences: neither the style nor the
-- indicator has ESC, and no sequence ends outside of its text
pub record HasSequencesInTextsAlone (table : TableValue) : Type 0 where
  pub styling : EndsStyling table
  pub style : HasStyleWithout 0x1B table
  pub ends : EndsSequencesInTexts table
