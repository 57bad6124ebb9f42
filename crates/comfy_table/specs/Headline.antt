-- Promises that every drawing of a table keeps.
-- Source: this library's own.
use Rattle.std.specs.Prelude.{◌≡◌, ◌⊎◌, ℕ, ◌<◌, ◌≤◌, Bool, true, false, List, [], ◌∷◌, Some, map, max, All, IsUtf8}
use Rattle.std.specs.Char.{IsScalar}
use Rattle.comfy_parts.specs.CellValue.{CellValue, ColumnInfo, RowValue}
use Rattle.comfy_parts.specs.Wrapping.{IsWrapped, lines_of_text}
use Rattle.comfy_parts.specs.Text.{Text, measure}
use Rattle.comfy_parts.specs.VisibleText.{visible_text}
use Rattle.comfy_parts.specs.declared.style.table.ContentArrangement.TheVariants.{Dynamic, DynamicFullWidth}
use Rattle.comfy_parts.specs.declared.style.table_style.LineStyle.{LineStyle}
use Rattle.comfy_table.specs.Arrangement.{IsArranged, room_beside_borders}
use Rattle.comfy_table.specs.Drawing.{drawing, infos_of, terminated_text_of, text_of, trimmed_text_of, outer_widths}
use Rattle.comfy_table.specs.Dynamic.{Steps, IsArrangedBy}
use Rattle.comfy_table.specs.Frame.{frame_line}
use Rattle.comfy_table.specs.Laws.{CutLinesAreClosed, HasNoBreak, HasNoControl, HasSequencesInTextsAlone, HasUnbrokenStyle, IsFreeOfControls, IsFreeOfEscapes, IsPrintableTable, LeavesNoneOpen, LinesAreResumedInRow, NoConstraints, NoneIsOpenAtTheEnd, count, least_total, line_total, unstyled}
use Rattle.comfy_table.specs.Lines.{cell_delimiter}
use Rattle.comfy_table.specs.Straight.{EachCell, EachShownCell, IsStraightTable}
use Rattle.comfy_table.specs.TableLaws.{shown_contents, wider_total}
use Rattle.comfy_table.specs.TableValue.{TableValue, header_and_rows, measured_rows, should_style, table_width}
use Rattle.comfy_table.specs.Widths.{shown_count, shown_needs}

-- the lines of a text line in a column of w terminal columns are the text as it is, or slices of it
-- that leave out only the delimiter d
abbrev pub IsTextOrSlices : ℕ → ℕ → Text → Type 0
IsTextOrSlices w d text =
    (lines_of_text w d text ≡ text ∷ []) ⊎ IsWrapped w d text (lines_of_text w d text)

-- the lines of each text line of a cell are the text as it is, or slices of it
abbrev pub AreTextsOrSlices : TableValue → RowValue → ColumnInfo → CellValue → Type 0
AreTextsOrSlices table row info cell =
    All (IsTextOrSlices info.content_width (cell_delimiter table info.delimiter cell))
    cell.text_lines

-- cells are drawn from their texts, as they are measured
pub record KeepsTexts (table : TableValue) (widths : List ℕ) : Type 0 where
  -- the text lines of cells consist of whole characters
  pub whole_texts : All (λ (row : RowValue). All (λ (cell : CellValue). All IsUtf8 cell.text_lines)
      row.cells) (measured_rows table)
  -- the delimiters of shown cells are characters
  pub scalar_delimiters :
      EachCell (λ row info cell. IsScalar (cell_delimiter table info.delimiter cell)) table widths
  -- the lines of shown cells are their texts, or slices of them
  pub slices : EachCell (AreTextsOrSlices table) table widths

-- the edges of the table are straight: its lines without styling and custom styling are equally
-- wide
pub record HasEdges (table : TableValue) (widths : List ℕ) (lines : List Text) : Type 0 where
  -- each frame line has the same number of characters, for every style and all texts
  pub frame_counts : (line : LineStyle)
      → count (frame_line table.style line (outer_widths (infos_of table widths)))
      ≡ line_total table widths
  pub unstyled_lines : should_style table ≡ false → table.custom_styling ≡ false
      → lines ≡ drawing (unstyled table) widths
  -- for printable ASCII, all lines have the same number of characters
  pub equal_counts : IsPrintableTable table widths
      → All (λ line. count line ≡ line_total table widths) (drawing (unstyled table) widths)
  -- in a straight table, all lines take the same number of terminal columns, in every script
  pub straight : IsStraightTable table widths
      → All (λ line. measure line ≡ line_total table widths) (drawing (unstyled table) widths)

-- P holds of the number of characters of each frame line, for every style and all texts. If the
-- table is printable ASCII, P holds of the number of characters of every line as it is measured. If
-- the table is straight, P holds of the terminal columns of every line as it is measured.
pub record LineWidthsSatisfy (P : ℕ → Type 0) (table : TableValue) (widths : List ℕ) : Type 0 where
  pub frame_lines : (line : LineStyle)
      → P (count (frame_line table.style line (outer_widths (infos_of table widths))))
  pub printable_lines : IsPrintableTable table widths
      → All (λ line. P (count line)) (drawing (unstyled table) widths)
  pub straight_lines : IsStraightTable table widths
      → All (λ line. P (measure line)) (drawing (unstyled table) widths)

-- these steps lead to the content widths of the shown columns, in a table of width w less the
-- borders
abbrev pub LeadToWidths : TableValue → ℕ → Bool → List ℕ → Steps → Type 0
LeadToWidths table w full widths steps =
    IsArrangedBy (room_beside_borders table w) (shown_needs table) full steps
    (shown_contents table widths)

-- lines keep to the table's width w, if it is known: under `Dynamic` they have at most that many
-- characters, and under `DynamicFullWidth` exactly that many, if a column is shown
pub record KeepsKnownWidth (table : TableValue) (widths : List ℕ) : Type 0 where
  -- without constraints on shown columns: w, or the borders, paddings and one character for each
  -- shown column, whichever is more
  pub keeps_to_width : (w : ℕ) → NoConstraints table → table.arrangement ≡ Dynamic
      → table_width table ≡ Some w
      → LineWidthsSatisfy (λ n. n ≤ max w (least_total table)) table widths
  pub fills_width : (w : ℕ) → NoConstraints table → table.arrangement ≡ DynamicFullWidth
      → table_width table ≡ Some w → 0 < shown_count table
      → LineWidthsSatisfy (λ n. n ≡ max w (least_total table)) table widths
  -- with any constraints: w, or the wider total of the steps to the widths, whichever is more
  pub keeps_to_wider_total : (w : ℕ) → table.arrangement ≡ Dynamic → table_width table ≡ Some w
      → (steps : Steps) × LeadToWidths table w false widths steps
      × LineWidthsSatisfy (λ n. n ≤ max w (wider_total table steps)) table widths
  pub keeps_to_wider_total_in_full : (w : ℕ) → table.arrangement ≡ DynamicFullWidth
      → table_width table ≡ Some w
      → (steps : Steps) × LeadToWidths table w true widths steps
      × LineWidthsSatisfy (λ n. n ≤ max w (wider_total table steps)) table widths
  pub fills_wider_total : (w : ℕ) → table.arrangement ≡ DynamicFullWidth
      → table_width table ≡ Some w → 0 < shown_count table
      → (steps : Steps) × LeadToWidths table w true widths steps
      × LineWidthsSatisfy (λ n. n ≡ max w (wider_total table steps)) table widths

-- except for SGR sequences the lines are the unstyled lines, and with custom styling no sequence
-- stays open
pub record ClosesSequences (table : TableValue) (widths : List ℕ) (lines : List Text) : Type 0 where
  -- without their SGR sequences the lines are the unstyled lines, if nothing else has ESC
  pub without_sequences : IsFreeOfEscapes table
      → map visible_text lines ≡ drawing (unstyled table) widths
  -- so the visible texts of the lines of a straight table are equally wide too
  pub straight_without_sequences : IsFreeOfEscapes table → IsStraightTable table widths
      → All (λ line. measure (visible_text line) ≡ line_total table widths) lines
  -- with custom styling no line of a cell leaves a sequence open
  pub closed : table.custom_styling ≡ true
      → EachShownCell (NoneIsOpenAtTheEnd table) (header_and_rows table) table widths
  -- lines that aren't cut resume the sequences that are active in the cell
  pub resumed : table.custom_styling ≡ true
      → EachShownCell (LinesAreResumedInRow table) (header_and_rows table) table widths
  -- lines that are cut are written as they are measured, with their sequences closed
  pub cut_closed : table.custom_styling ≡ true
      → EachShownCell (CutLinesAreClosed table) (header_and_rows table) table widths
  -- no whole line leaves a sequence open, if only texts of cells have sequences
  pub closed_lines : table.custom_styling ≡ true → HasSequencesInTextsAlone table
      → All LeavesNoneOpen lines

-- lines have no line feeds and control characters that the parts of the table don't have
pub record AddsNoControls (table : TableValue) (lines : List Text) : Type 0 where
  -- no line has a line feed, if neither the style nor the indicator has one
  pub without_breaks : HasUnbrokenStyle table → All HasNoBreak lines
  -- without its sequences no line has a control character, if no text line as it is measured, no
  -- character of the style and no indicator has one
  pub without_controls : IsFreeOfControls table
      → All (λ line. HasNoControl (visible_text line)) lines

-- All promises of a drawing. The headline of docs/PROVED.md is in these fields:
--
-- Every table is drawn as frame lines and rows of padded pieces (`drawn`). Until `max_height` cuts
-- them (in `drawing`), the pieces are, in order, slices of cells' text lines that leave out only
-- delimiters (`texts.slices`). Let the width w be known, and let no column have a constraint except
-- `Hidden` (`known_width`). Under `Dynamic` each frame line (`frame_lines`) has at most max(w,
-- borders + paddings + shown columns) characters (`keeps_to_width`), and under `DynamicFullWidth`
-- exactly that many (`fills_width`). Rows of printable ASCII have as many (`printable_lines`).
pub record IsTableDrawing (table : TableValue) (lines : List Text) : Type 0 where
  pub widths : List ℕ
  pub arranged : IsArranged table widths
  pub drawn : lines ≡ drawing table widths
  pub texts : KeepsTexts table widths
  pub edges : HasEdges table widths lines
  pub known_width : KeepsKnownWidth table widths
  pub sequences : ClosesSequences table widths lines
  pub controls : AddsNoControls table lines

-- the text is the lines of a drawing of the table, joined by line feeds
abbrev pub JoinsLines : TableValue → Text → Type 0
JoinsLines table text = (lines : List Text) × IsTableDrawing table lines × (text ≡ text_of lines)

-- the text is the lines of a drawing of the table without their trailing white space, joined by
-- line feeds
abbrev pub JoinsTrimmedLines : TableValue → Text → Type 0
JoinsTrimmedLines table text =
    (lines : List Text) × IsTableDrawing table lines × (text ≡ trimmed_text_of lines)

-- the text is the lines of a drawing of the table, each followed by a line feed
abbrev pub TerminatesLines : TableValue → Text → Type 0
TerminatesLines table text =
    (lines : List Text) × IsTableDrawing table lines × (text ≡ terminated_text_of lines)
