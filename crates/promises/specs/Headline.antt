-- The drawing of a table: frame lines, and rows of padded lines of its cells' texts.
-- Source: this library's own.
use Rattle.std.specs.Prelude.{◌≢◌, ◌-◌, ◌/◌, ◌&&◌, ◌||◌, drop, is_some, nat_lt, take, ◌≡◌, ◌⊎◌, ℕ, ◌+◌, ◌<◌, ◌≤◌, Bool, true, false, List, Option, [], ◌∷◌, ◌++◌, Some, None, All, EachIndex, MatchOption, filter_map, flat_map, length, map, max, option_map, slice_get, slice_index_or, sum, unwrap_or}
use Rattle.std.specs.Int.{is_in_range}
use Rattle.std.specs.List.{AllZip, enumerate_from, join_by}
use Rattle.comfy_parts.specs.CellValue.{CellValue, ColumnInfo, ColumnValue, RowValue, info_of}
use Rattle.comfy_parts.specs.Columns.{AddsOneColumn, CharactersFit}
use Rattle.comfy_parts.specs.Text.{AddsOneColumnEach, Text, greatest, is_printable_ascii, measure, spaces}
use Rattle.comfy_parts.specs.VisibleLines.{CellLine, LineStart}
use Rattle.comfy_parts.specs.VisibleText.{active, open_after, parts, parts_before, visible_text}
use Rattle.comfy_parts.specs.Wrapping.{IsWrapped}
use Rattle.comfy_parts.specs.declared.style.cell.CellAlignment.{CellAlignment}
use Rattle.comfy_parts.specs.declared.style.cell.CellAlignment.TheVariants.{Left}
use Rattle.comfy_parts.specs.declared.style.table.ContentArrangement.TheVariants.{Disabled, Dynamic, DynamicFullWidth}
use Rattle.comfy_table.specs.Arrangement.{is_full_width}
use Rattle.comfy_parts.specs.declared.style.table_style.ContentLineStyle.{ContentLineStyle}
use Rattle.comfy_parts.specs.declared.style.table_style.LineStyle.{LineStyle}
use Rattle.comfy_table.specs.Frame.{border_count, content_line, frame_line, optional_frame_line}
use Rattle.comfy_table.specs.Laws.{HasSequencesInTextsAlone, LeavesNoneOpen, NoConstraints, count, least_total}
use Rattle.comfy_table.specs.Lines.{cell_delimiter, cut_text, cut_to_limit, fitting_indicator}
use Rattle.comfy_table.specs.Pieces.{free_before}
use Rattle.comfy_table.specs.TableValue.{TableValue, cell_content_width, header_and_rows, measured_table, should_style, shown_columns, table_width}
use Rattle.promises.specs.Shown.{IsStyled}

-- ---- the lines of a cell

-- the lines of a text line in a column of w terminal columns: the text itself if it fits, or else
-- slices of it, which end where lines end and leave out only the delimiter d. No line is wider than
-- w, if each character fits.
pub record AreLinesOfText (w d : ℕ) (text : Text) (lines : List Text) : Type 0 where
  pub whole : measure text ≤ w → lines ≡ text ∷ []
  pub slices : w < measure text → IsWrapped w d text lines
  pub fit : AddsOneColumn d → CharactersFit w text → All (λ line. measure line ≤ w) lines

-- the lines of all text lines of a cell, from top to bottom
abbrev pub AreLinesOfCell : ℕ → ℕ → CellValue → List Text → Type 0
AreLinesOfCell w d cell lines =
    (of_texts : List (List Text)) × AllZip (AreLinesOfText w d) cell.text_lines of_texts
    × (lines ≡ flat_map (λ (of_text : List Text). of_text) of_texts)

-- P holds of each cell in a shown column, with its row
abbrev pub EachShownCell : (RowValue → ℕ × ColumnValue → CellValue → Type 0) → TableValue → Type 0
EachShownCell P table =
    All (λ (row : RowValue). All (λ (p : ℕ × ColumnValue). (cell : CellValue)
    → slice_get row.cells p.0 ≡ Some cell → P row p cell) (shown_columns table))
    (header_and_rows table)

-- ---- pieces

-- the whole width of a column: its paddings, and w terminal columns for its content
abbrev pub whole_width : ColumnValue → ℕ → ℕ
whole_width column w = column.padding.0 + w + column.padding.1

-- spaces, with SGR sequences among them if styles are written
abbrev pub AreSpaces : Bool → ℕ → Text → Type 0
AreSpaces true n text = IsStyled (spaces n) text
AreSpaces false n text = text ≡ spaces n

-- a piece: a line between spaces, which are at least the column's paddings. The piece is as wide as
-- the column, unless the line is wider. The line is at this side of the column.
pub record IsPiece (styles : Bool) (side : CellAlignment) (column : ColumnValue) (w : ℕ)
    (line piece : Text) : Type 0 where
  pub left : ℕ
  pub right : ℕ
  pub before : Text
  pub after : Text
  pub drawn : piece ≡ before ++ (line ++ after)
  pub are_spaces : AreSpaces styles left before × AreSpaces styles right after
  pub padded : (column.padding.0 ≤ left) × (column.padding.1 ≤ right)
  pub wide : left + measure line + right ≡ whole_width column (max w (measure line))
  -- the spaces beyond the paddings are after a left-aligned line, before a right-aligned one, and
  -- half of them, rounded up, before a centred one
  pub aligned : left ≡ column.padding.0 + free_before side (w - measure line)

-- the whole widths of the shown columns
abbrev pub widths_shown : TableValue → (ℕ → ℕ) → List ℕ
widths_shown table width =
    map (λ (p : ℕ × ColumnValue). whole_width p.1 (width p.0)) (shown_columns table)

-- a frame line over columns of these widths, if one of its characters is set
abbrev pub framed : TableValue → (ℕ → ℕ) → LineStyle → List Text
framed table width line = optional_frame_line table.style line (widths_shown table width)

-- the side of a column at which a cell or a missing cell is drawn
abbrev pub side_in : Option CellValue → ColumnValue → CellAlignment
side_in None column = unwrap_or column.alignment Left
side_in (Some cell) column = unwrap_or cell.alignment (unwrap_or column.alignment Left)

-- the cell has a colour or an attribute
abbrev pub is_coloured : Option CellValue → Bool
is_coloured None = false
is_coloured (Some cell) =
    is_some cell.foreground || (is_some cell.background || nat_lt 0 (length cell.attributes))

-- styles are written for the cell of a row
abbrev pub is_styled : Bool → RowValue → ℕ × ColumnValue → Bool
is_styled styles row p = styles && is_coloured (slice_get row.cells p.0)

-- the side at which the cell of a row is drawn: the cell's own, or else its column's, or else left
abbrev pub side_of : RowValue → ℕ × ColumnValue → CellAlignment
side_of row p = side_in (slice_get row.cells p.0) p.1

-- the lines of a row whose shown columns have these parts: as many lines as the longest part has.
-- Each line has the pieces of the shown columns, side by side between these borders.
pub record AreLinesOfParts (styles : Bool) (table : TableValue) (row : RowValue) (width : ℕ → ℕ)
    (parts : ℕ × ColumnValue → List Text) (borders : ContentLineStyle) (lines : List Text)
    : Type 0 where
  pub as_high : length lines
      ≡ greatest (map (λ (p : ℕ × ColumnValue). length (parts p)) (shown_columns table))
  pub drawn : EachIndex lines (λ k. (pieces : List Text) × AllZip (λ (p : ℕ × ColumnValue).
      IsPiece (is_styled styles row p) (side_of row p) p.1 (width p.0)
      (slice_index_or (parts p) k [])) (shown_columns table) pieces
      × (slice_index_or lines k [] ≡ content_line table.style borders pieces))

-- ---- sequences in texts

-- a written line of a cell shows a part of one of its text lines. Before each visible byte, the
-- open sequences are those that are active there in the cell.
pub record ResumesSequences (cell : CellValue) (from : LineStart) (line : CellLine) : Type 0 where
  pub later : List Text
  pub in_cell : cell.text_lines ≡ from.earlier ++ from.text ∷ later
  pub part : take (length line.measured) (drop from.at (visible_text from.text)) ≡ line.measured
  pub visible : visible_text line.written ≡ line.measured
  pub resumed : (k : ℕ) → k < length line.measured
      → open_after (parts_before k (parts line.written))
      ≡ active from.earlier from.text (from.at + k)

-- each line begins where the line above it ends, or later: in a later text line, or in the same one
-- after at least as many visible bytes
abbrev pub AreInOrder : ℕ → ℕ → List LineStart → List CellLine → Type 0
AreInOrder earlier at [] lines = Unit {0}
AreInOrder earlier at (from ∷ starts) [] = Unit {0}
AreInOrder earlier at (from ∷ starts) (line ∷ lines) =
    ((earlier < length from.earlier) ⊎ ((earlier ≡ length from.earlier) × (at ≤ from.at)))
    × AreInOrder (length from.earlier) (from.at + length line.measured) starts lines

-- the written lines of a cell resume their sequences, from top to bottom
abbrev pub ResumeTheirSequences : CellValue → List Text → Type 0
ResumeTheirSequences cell texts =
    (starts : List LineStart) × (lines : List CellLine)
    × AllZip (ResumesSequences cell) starts lines × AreInOrder 0 0 starts lines
    × (texts ≡ map (λ (line : CellLine). line.written) lines)

-- a text between spaces, which may have SGR sequences among them
pub record IsBetweenSpaces (text piece : Text) : Type 0 where
  pub left : ℕ
  pub right : ℕ
  pub before : Text
  pub after : Text
  pub drawn : piece ≡ before ++ (text ++ after)
  pub are_spaces : IsStyled (spaces left) before × IsStyled (spaces right) after

-- each line of a row consists of the pieces of the shown columns, side by side between these
-- borders. A piece is a written text between spaces. With custom styling these texts resume their
-- sequences, unless the row has a greatest height.
pub record AreWrittenLines (table : TableValue) (borders : ContentLineStyle) (row : RowValue)
    (lines : List Text) : Type 0 where
  pub texts : ℕ × ColumnValue → List Text
  pub drawn : EachIndex lines (λ k. (pieces : List Text) × AllZip (λ (p : ℕ × ColumnValue).
      IsBetweenSpaces (slice_index_or (texts p) k [])) (shown_columns table) pieces
      × (slice_index_or lines k [] ≡ content_line table.style borders pieces))
  pub resumed : table.custom_styling ≡ true → row.max_height ≡ None
      → All (λ (p : ℕ × ColumnValue). MatchOption (slice_get row.cells p.0) (texts p ≡ [] ∷ [])
      (λ cell. ResumeTheirSequences cell (texts p))) (shown_columns table)

-- ---- the lines of a row

-- `width` has the widths of the columns, and `cell_lines` the lines of the cells
module _ (table : TableValue) (width : ℕ → ℕ)
    (cell_lines : ℕ × ColumnValue → CellValue → List Text) where
  -- the lines of a row's cell, cut at the row's greatest height; one empty line if there is no cell
  abbrev pub lines_in : RowValue → ℕ × ColumnValue → List Text
  lines_in row p =
      unwrap_or (option_map (λ (cell : CellValue). cut_to_limit
      (cut_text (width p.0) table.indicator) row.max_height (cell_lines p cell))
      (slice_get row.cells p.0)) ([] ∷ [])

  -- the lines of a row without styles
  abbrev pub AreLinesOfRow : ContentLineStyle → RowValue → List Text → Type 0
  AreLinesOfRow borders row lines =
      AreLinesOfParts false table row width (lines_in row) borders lines

  -- the lines of a row; without custom styling they consist of the cells' lines
  pub record AreContentLines (borders : ContentLineStyle) (row : RowValue) (lines : List Text)
      : Type 0 where
    pub written : AreWrittenLines table borders row lines
    pub are : table.custom_styling ≡ false
        → AreLinesOfParts (should_style table) table row width (lines_in row) borders lines

-- the lines show the header, if there is one, and all rows, between frame lines over the same
-- widths
pub record IsFramedBy (Shows : ContentLineStyle → RowValue → List Text → Type 0)
    (table : TableValue) (width : ℕ → ℕ) (lines : List Text) : Type 0 where
  pub header : List Text
  pub rows : List (List Text)
  pub is_header : MatchOption table.header (header ≡ []) (λ row. (block : List Text)
      × Shows table.style.header_lines row block
      × (header ≡ block ++ framed table width table.style.header_separator))
  pub are_rows : AllZip (Shows table.style.content_lines) table.rows rows
  pub drawn : lines ≡ framed table width table.style.top_border ++ (header
      ++ (join_by (λ block. block) (framed table width table.style.row_separator) rows
      ++ framed table width table.style.bottom_border))

-- the text lines and the delimiter of each shown cell are printable ASCII
abbrev pub IsPrintable : TableValue → Type 0
IsPrintable table =
    EachShownCell (λ row p cell. All (λ text. is_printable_ascii text ≡ true) cell.text_lines
    × (is_in_range 0x20 0x7E (cell_delimiter table p.1.delimiter cell) ≡ true)) table

-- the terminal columns of the widest text in a column, at least 1
abbrev pub widest : TableValue → ℕ → ℕ
widest table i =
    max 1 (greatest (map cell_content_width (filter_map (λ (row : RowValue). slice_get row.cells i)
    (header_and_rows table))))

-- the terminal columns that a width leaves for texts, after borders and paddings
abbrev pub room_for_texts : TableValue → ℕ → ℕ
room_for_texts table w =
    w - (border_count table.style (length (shown_columns table))
    + sum (widths_shown table (λ i. 0)))

-- a column is as wide as a text, or at least as wide if columns may be widened
abbrev pub IsAsWide : Bool → ℕ → ℕ → Type 0
IsAsWide false text width = width ≡ text
IsAsWide true text width = text ≤ width

-- no line of a column's cells is wider than n, if the column has width w
abbrev pub HasLinesWithin : TableValue → ℕ × ColumnValue → ℕ → ℕ → Type 0
HasLinesWithin table p w n =
    All (λ (row : RowValue). (cell : CellValue) (lines : List Text)
    → slice_get row.cells p.0 ≡ Some cell
    → AreLinesOfCell w (cell_delimiter table p.1.delimiter cell) cell lines
    → All (λ line. measure line ≤ n) lines) (header_and_rows table)

-- a column whose widest text is at most the level is as wide as this text. Any other column is at
-- least as wide as the level, or has room for its lines at a width of at least the level.
pub record KeepsToLevel (table : TableValue) (width : ℕ → ℕ) (level : ℕ) (p : ℕ × ColumnValue)
    : Type 0 where
  pub narrow : widest table p.0 ≤ level
      → IsAsWide (is_full_width table.arrangement) (widest table p.0) (width p.0)
  pub wide : level < widest table p.0 → (level ≤ width p.0)
      ⊎ ((w : ℕ) × (level ≤ w) × HasLinesWithin table p w (width p.0))

-- the lines of a table without styles
pub record IsFramedDrawing (table : TableValue) (lines : List Text) : Type 0 where
  pub width : ℕ → ℕ
  pub cell_lines : ℕ × ColumnValue → CellValue → List Text
  pub are_cell_lines : EachShownCell (λ row p cell. AreLinesOfCell (width p.0)
      (cell_delimiter table p.1.delimiter cell) cell (cell_lines p cell)) table
  pub frame : IsFramedBy (AreLinesOfRow table width cell_lines) table width lines

-- the lines of a table without styles, and the widths of its columns
pub record IsPlainDrawing (table : TableValue) (lines : List Text) : Type 0 where
  pub framed : IsFramedDrawing table lines
  -- if the table keeps to no width, a column without a constraint is as wide as its widest text
  pub by_content : (table.arrangement ≡ Disabled) ⊎ (table_width table ≡ None)
      → All (λ (p : ℕ × ColumnValue). p.1.constraint ≡ None → framed.width p.0 ≡ widest table p.0)
      (shown_columns table)
  -- if the table keeps to a width that has room for all texts, each column is as wide as its widest
  -- text too, or wider under `DynamicFullWidth`
  pub keeps_contents : (w : ℕ) → table_width table ≡ Some w → NoConstraints table
      → table.arrangement ≢ Disabled
      → border_count table.style (length (shown_columns table))
      + sum (widths_shown table (widest table)) ≤ w
      → All (λ (p : ℕ × ColumnValue). IsAsWide (is_full_width table.arrangement)
      (widest table p.0) (framed.width p.0)) (shown_columns table)
  -- if the table keeps to a width, columns keep to a level, which is at least an even share of the
  -- room
  pub keeps_to_level : (w : ℕ) → table_width table ≡ Some w → NoConstraints table
      → table.arrangement ≢ Disabled
      → (level : ℕ) × (room_for_texts table w / length (shown_columns table) ≤ level)
      × All (KeepsToLevel table framed.width level) (shown_columns table)
  -- all frame lines have the same number of characters, whatever the texts are
  pub total : ℕ
  pub frame_total : (line : LineStyle)
      → count (frame_line table.style line (widths_shown table framed.width))
      ≡ total
  -- all lines have as many characters as frame lines, if the table is printable ASCII and each
  -- indicator that is written adds one terminal column for each of its characters
  pub plain_total : IsPrintable table
      → EachShownCell (λ row p cell. (h : ℕ) → row.max_height ≡ Some h
      → h < length (framed.cell_lines p cell)
      → AddsOneColumnEach (fitting_indicator (framed.width p.0) table.indicator)) table
      → All (λ line. count line ≡ total) lines
  -- under `Dynamic` lines keep to the width, set or the terminal's, or to borders, paddings and one
  -- terminal column for each column if that is more
  pub keeps_to_width : (w : ℕ) → table_width table ≡ Some w → NoConstraints table
      → table.arrangement ≡ Dynamic
      → total ≤ max w (least_total table)
  -- under `DynamicFullWidth` lines have exactly that width, if a column is shown
  pub fills_width : (w : ℕ) → table_width table ≡ Some w → NoConstraints table
      → table.arrangement ≡ DynamicFullWidth → 0 < length (shown_columns table)
      → total ≡ max w (least_total table)

-- the lines are those of a table without styles, except for SGR sequences, which are in pieces
-- around the texts if styles are written
pub record IsFramedTable (table : TableValue) (lines : List Text) : Type 0 where
  pub plain : List Text
  pub is_plain : IsFramedDrawing table plain
  pub styled : AllZip IsStyled plain lines
  pub unstyled : should_style table ≡ false → lines ≡ plain
  pub frame : IsFramedBy (AreContentLines table is_plain.width is_plain.cell_lines) table
      is_plain.width lines

-- a cell without colours and attributes
pub record IsUncoloured (cell : CellValue) : Type 0 where
  pub no_foreground : cell.foreground ≡ None
  pub no_background : cell.background ≡ None
  pub no_attributes : cell.attributes ≡ []

-- the lines are those of the table as it is measured, except for SGR sequences. The sequences are
-- in pieces, if styles are written, or in texts. With custom styling a text is measured by its
-- visible text.
pub record IsHeadline (table : TableValue) (lines : List Text) : Type 0 where
  pub plain : List Text
  pub is_plain : IsPlainDrawing (measured_table table) plain
  pub styled : AllZip IsStyled plain lines
  pub unstyled : should_style table ≡ false → table.custom_styling ≡ false → lines ≡ plain
  pub frame : IsFramedBy (AreContentLines table is_plain.framed.width is_plain.framed.cell_lines)
      table is_plain.framed.width lines
  -- a table whose cells have neither colours nor attributes is drawn without sequences
  pub uncoloured : All (λ (row : RowValue). All IsUncoloured row.cells) (header_and_rows table)
      → table.custom_styling ≡ false → lines ≡ plain
  -- with custom styling no line leaves a sequence open, if only texts have sequences
  pub closed : table.custom_styling ≡ true → HasSequencesInTextsAlone table
      → All LeavesNoneOpen lines

-- `columns` are the columns of the table, with the widths of the drawing
abbrev pub AreColumnsOf : TableValue → List Text → List ColumnInfo → Type 0
AreColumnsOf table lines columns =
    (drawing : IsHeadline table lines)
    × (columns ≡ map (λ (p : ℕ × ColumnValue). info_of p.1 (drawing.is_plain.framed.width p.0))
    (enumerate_from 0 table.columns))
