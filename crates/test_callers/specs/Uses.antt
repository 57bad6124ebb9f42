-- Claims of the callers in `uses` about drawings and rows.
use Rattle.std.specs.Prelude.{◌≡◌, ◌≤◌, ◌==◌, ◌∷◌, ◌++◌, ℕ, [], List, Some, false, All, map}
use Rattle.std.specs.List.{concat, slice_split}
use Rattle.comfy_parts.specs.CellValue.{CellValue, ColumnInfo, RowValue, info_of, new_column, plain_cell, plain_row}
use Rattle.comfy_parts.specs.Laws.{characters_without}
use Rattle.comfy_parts.specs.Presets.{ascii_full}
use Rattle.comfy_parts.specs.Text.{Text}
use Rattle.comfy_parts.specs.VisibleLines.{CellLine}
use Rattle.comfy_parts.specs.declared.style.table.ContentArrangement.TheVariants.{Dynamic}
use Rattle.comfy_parts.specs.declared.style.table_style.LineStyle.{LineStyle}
use Rattle.comfy_table.specs.Drawing.{drawing, infos_of, outer_widths}
use Rattle.comfy_table.specs.Frame.{frame_line}
use Rattle.comfy_table.specs.Laws.{HasUnbrokenStyle, IsPrintableTable, NoConstraints, count, least_total, unstyled}
use Rattle.comfy_table.specs.Pieces.{row_cell_lines}
use Rattle.comfy_table.specs.Straight.{EachShownCell}
use Rattle.comfy_table.specs.TableValue.{TableValue, header_and_rows, new_table, should_style, table_width, with_header, with_row}
use Rattle.test_callers.specs.declared.uses.items.NumberRows.{NumberRows}

-- the lines are a drawing of the table, and each frame line has n characters
abbrev pub HasFrameOf : ℕ → TableValue → List Text → Type 0
HasFrameOf n table lines =
    (widths : List ℕ) × (lines ≡ drawing table widths)
    × ((line : LineStyle)
    → count (frame_line table.style line (outer_widths (infos_of table widths))) ≡ n)

-- a table of a header and a row with a width
abbrev pub table_within : ℕ → RowValue → RowValue → TableValue
table_within w header row =
    with_row row (with_header header
    (record (new_table ascii_full) { set_width = Some w; arrangement = Dynamic }))

-- a new table of a header and a row
abbrev pub table_of_two : RowValue → RowValue → TableValue
table_of_two header row = with_row row (with_header header (new_table ascii_full))

-- no line of the text has more than w characters, if the table is plain and w is enough for it
abbrev pub IsPrintedWithin : ℕ → TableValue → Text → Type 0
IsPrintedWithin w table text =
    NoConstraints table → ((widths : List ℕ) → IsPrintableTable table widths)
    → least_total table ≤ w
    → All (λ line. count line ≤ w) (slice_split (λ b. b == 0x0A) text)

-- A page is appended without lines of more than w characters. This holds if the table, without
-- styling and without line feeds of its own, keeps to w, is plain, and w is enough for it.
abbrev pub AppendsPageWithin : TableValue → Text → Text → Type 0
AppendsPageWithin table old new =
    (page : Text) × (new ≡ old ++ page)
    × ((w : ℕ) → table.arrangement ≡ Dynamic → table_width table ≡ Some w
    → should_style table ≡ false → table.custom_styling ≡ false → HasUnbrokenStyle table
    → IsPrintedWithin w table page)

-- a table of one text with a width
abbrev pub text_within : ℕ → Text → TableValue
text_within w text =
    with_row (plain_row (plain_cell text ∷ []))
    (record (new_table ascii_full) { set_width = Some w; arrangement = Dynamic })

-- the lines of the text of `text_within`, without SGR sequences, in a new column of content width w
abbrev pub lines_of_one : TableValue → ℕ → Text → List Text
lines_of_one table w text =
    map (λ (line : CellLine). line.measured)
    (row_cell_lines table (plain_row (plain_cell text ∷ [])) (info_of (new_column 0) w)
    (plain_cell text))

-- The lines are a drawing of the table. The lines of the text in it, one after another, have all
-- its characters, in order, except spaces and line feeds.
abbrev pub IsDrawnWhole : TableValue → Text → List Text → Type 0
IsDrawnWhole table text lines =
    (w : ℕ) × (lines ≡ drawing table (w ∷ []))
    × (characters_without 0x20 (concat (lines_of_one table w text))
    ≡ characters_without 0x20 (concat (slice_split (λ b. b == 0x0A) text)))

-- the lines are a drawing of the table without colours and attributes
abbrev pub IsUnstyledDrawing : TableValue → List Text → Type 0
IsUnstyledDrawing table lines = (widths : List ℕ) × (lines ≡ drawing (unstyled table) widths)

-- the lines are a drawing of the table, in which P holds for the cells of rows and header in each
-- shown column
abbrev pub IsDrawnWithCells : (RowValue → ColumnInfo → CellValue → Type 0) → TableValue → List Text
    → Type 0
IsDrawnWithCells P table lines =
    (widths : List ℕ) × (lines ≡ drawing table widths)
    × EachShownCell P (header_and_rows table) table widths

-- the rows that the iterator hasn't given: each remaining number in a list of its own
abbrev pub rows_left : NumberRows → List (List ℕ)
rows_left numbers = map (λ number. number ∷ []) numbers.left.now
