-- Tables as values, and the meaning of their settings.
-- Source: Table of comfy-table 8.0.1.
use Rattle.std.specs.Prelude.{◌≡◌, ℕ, ◌<◌, ◌≤◌, Bool, false, not, ◌&&◌, ◌||◌, List, [], ◌∷◌, ◌++◌, Option, Some, None, option_to_list, option_and_then, option_map, map, fold, length, take, filter, filter_map, slice_get, max, min, All, IfSome, if◌then◌else◌, String, string_bytes}
use Rattle.std.specs.List.{enumerate_from, range_with_len}
use Rattle.comfy_parts.specs.CellValue.{CellValue, RowValue, ColumnValue, IsColumn, IsDelimiter, IsRow, columns_grown_to, is_hidden_column}
use Rattle.comfy_parts.specs.Text.{Text, measure, greatest}
use Rattle.comfy_parts.specs.VisibleText.{visible_text}
use Rattle.comfy_parts.specs.declared.style.column.ColumnConstraint.{ColumnConstraint}
use Rattle.comfy_parts.specs.declared.style.table.ContentArrangement.{ContentArrangement}
use Rattle.comfy_parts.specs.declared.style.table.ContentArrangement.TheVariants.{Disabled}
use Rattle.comfy_parts.specs.declared.style.table_style.TableStyle.{TableStyle}
use Rattle.comfy_table.specs.declared.table.terminal.Terminal.{Terminal}

-- a table: its columns, its header and rows, and its settings
pub record TableValue : Type 0 where
  pub columns : List ColumnValue
  pub header : Option RowValue
  pub rows : List RowValue
  pub style : TableStyle
  pub arrangement : ContentArrangement
  pub delimiter : Option ℕ
  pub indicator : Text
  pub set_width : Option ℕ
  pub terminal : Terminal
  pub no_tty : Bool
  pub use_stderr : Bool
  pub enforce_styling : Bool
  pub style_text_only : Bool
  pub custom_styling : Bool

-- a terminal about which nothing is known
abbrev pub no_terminal : Terminal
no_terminal = record { stdout_is_tty = false; stderr_is_tty = false; width = None }

-- the truncation indicator of a new table: `…` (U+2026)
abbrev pub ellipsis : Text
ellipsis = 0xE2 ∷ 0x80 ∷ 0xA6 ∷ []

-- the truncation indicator that was set, or else that of a new table
abbrev pub indicator_of : {A : Type 0} → Option (String A) → Text
indicator_of None = ellipsis
indicator_of (Some set) = string_bytes set

-- a new table with this style, without columns, header and rows
abbrev pub new_table : TableStyle → TableValue
new_table style =
    record {
      columns = [];
      header = None;
      rows = [];
      style = style;
      arrangement = Disabled;
      delimiter = None;
      indicator = ellipsis;
      set_width = None;
      terminal = no_terminal;
      no_tty = false;
      use_stderr = false;
      enforce_styling = false;
      style_text_only = false;
      custom_styling = false;
    }

-- the table with this header, and columns appended until there are at least as many as the header
-- has cells
abbrev pub with_header : RowValue → TableValue → TableValue
with_header row table =
    record table { header = Some row; columns = columns_grown_to (length row.cells) table.columns }

-- the table with this row appended, and columns appended until there are at least as many as the
-- row has cells
abbrev pub with_row : RowValue → TableValue → TableValue
with_row row table =
    record table {
      rows = table.rows ++ row ∷ [];
      columns = columns_grown_to (length row.cells) table.columns;
    }

-- the table with these rows appended one after another
abbrev pub with_rows : List RowValue → TableValue → TableValue
with_rows rows table = fold (λ (t : TableValue) (row : RowValue). with_row row t) table rows

-- the table with these rows in place of its own
abbrev pub with_other_rows : List RowValue → TableValue → TableValue
with_other_rows rows table = record table { rows = rows }

-- after memory ran out at one of these rows: exactly the rows before it were appended
abbrev pub IsWithRowsBeforeOne : List RowValue → TableValue → TableValue → Type 0
IsWithRowsBeforeOne rows old new = (n : ℕ) × (n < length rows) × (new ≡ with_rows (take n rows) old)

-- the header, if there is one, and then the rows
abbrev pub header_and_rows : TableValue → List RowValue
header_and_rows table = option_to_list table.header ++ table.rows

-- the invariants of the parts of a table: its columns, its header, its rows, and its delimiter
pub record KeepsParts (table : TableValue) : Type 0 where
  pub columns : All IsColumn table.columns
  pub header : IfSome table.header IsRow
  pub rows : All IsRow table.rows
  pub delimiter : IsDelimiter table.delimiter

-- the greatest number of cells in a row; 0 if there are no rows
abbrev pub greatest_cell_count : List RowValue → ℕ
greatest_cell_count rows = greatest (map (λ (row : RowValue). length row.cells) rows)

-- the table with columns appended until each cell of a row has a column
abbrev pub discovered : TableValue → TableValue
discovered table =
    record table { columns = columns_grown_to (greatest_cell_count table.rows) table.columns }

-- each cell of a row has a column
abbrev pub AllCellsHaveColumns : TableValue → Type 0
AllCellsHaveColumns table =
    All (λ (row : RowValue). length row.cells ≤ length table.columns) table.rows

-- the columns with these constraints: the i-th constraint for the i-th column. Constraints without
-- a column are ignored, and columns without a constraint in the list keep their own.
abbrev pub constrained : List ColumnConstraint → List ColumnValue → List ColumnValue
constrained [] columns = columns
constrained (constraint ∷ more) [] = []
constrained (constraint ∷ more) (column ∷ columns) =
    record column { constraint = Some constraint } ∷ constrained more columns

-- the cell at position i of each of these rows; `None` if a row has no such cell
abbrev pub cells_at : List RowValue → ℕ → List (Option CellValue)
cells_at rows i = map (λ (row : RowValue). slice_get row.cells i) rows

-- the cell at position i of each row of a table, without the header
abbrev pub cells_by_row : TableValue → ℕ → List (Option CellValue)
cells_by_row table i = cells_at table.rows i

-- the header's cell at position i, or `None` if there is none, and then the cell of each row
abbrev pub cells_with_header : TableValue → ℕ → List (Option CellValue)
cells_with_header table i =
    option_and_then (λ (row : RowValue). slice_get row.cells i) table.header ∷ cells_by_row table i

-- the output is a terminal: not after `force_no_tty`, and otherwise according to the fact about
-- standard error after `use_stderr`, or else about standard output
abbrev pub is_tty : TableValue → Bool
is_tty table =
    not table.no_tty && (if table.use_stderr
    then table.terminal.stderr_is_tty
    else table.terminal.stdout_is_tty)

-- the width that was set, or else the terminal's width if the output is a terminal
abbrev pub width_or_terminal : Option ℕ → Bool → Option ℕ → Option ℕ
width_or_terminal (Some w) tty fact = Some w
width_or_terminal None tty fact = if tty then fact else None

-- the width that a table keeps to, if it is known
abbrev pub table_width : TableValue → Option ℕ
table_width table = width_or_terminal table.set_width (is_tty table) table.terminal.width

-- colours and attributes are written
abbrev pub should_style : TableValue → Bool
should_style table = table.enforce_styling || is_tty table

-- the cell with each text line replaced by its visible text
abbrev pub visible_cell : CellValue → CellValue
visible_cell cell = record cell { text_lines = map visible_text cell.text_lines }

-- the row with each text line of its cells replaced by its visible text
abbrev pub visible_row : RowValue → RowValue
visible_row row = record row { cells = map visible_cell row.cells }

-- a cell as it is measured: with custom styling by its visible texts. Its widths, line ends and
-- cuts depend on these.
abbrev pub measured_cell : TableValue → CellValue → CellValue
measured_cell table cell =
    record cell {
      text_lines =
          if table.custom_styling then map visible_text cell.text_lines else cell.text_lines;
    }

-- a table as it is measured: with custom styling by its visible texts. Its widths, line ends and
-- cuts depend on these. It has no custom styling itself, so that a sequence which comes to exist
-- where others were taken out isn't taken out again.
abbrev pub measured_table : TableValue → TableValue
measured_table table =
    record table {
      header = if table.custom_styling then option_map visible_row table.header else table.header;
      rows = if table.custom_styling then map visible_row table.rows else table.rows;
      custom_styling = false;
    }

-- the header, if there is one, and the rows, as they are measured
abbrev pub measured_rows : TableValue → List RowValue
measured_rows table = header_and_rows (measured_table table)

-- the cells at position i of the header and the rows, as they are measured, from the top; rows
-- without such a cell are skipped
abbrev pub column_cells : TableValue → ℕ → List CellValue
column_cells table i = filter_map (λ (row : RowValue). slice_get row.cells i) (measured_rows table)

-- the content of a cell: the greatest measure of its text lines, at least 1 and at most 65535
abbrev pub cell_content_width : CellValue → ℕ
cell_content_width cell = max 1 (min 65535 (greatest (map measure cell.text_lines)))

-- the widths, each raised to the content of the row's cell in its column
abbrev pub widened : TableValue → List CellValue → List ℕ → List ℕ
widened table [] widths = widths
widened table (cell ∷ cells) [] = []
widened table (cell ∷ cells) (width ∷ widths) =
    max width (cell_content_width (measured_cell table cell)) ∷ widened table cells widths

-- the content of the column at position i: the greatest content of its cells, or 0 without cells
abbrev pub column_content_width : TableValue → ℕ → ℕ
column_content_width table i = greatest (map cell_content_width (column_cells table i))

-- the content of each column, in the order of the table's columns
abbrev pub max_content_widths : TableValue → List ℕ
max_content_widths table =
    map (column_content_width table) (range_with_len 0 (length table.columns))

-- the shown columns, each with its position in the table
abbrev pub shown_columns : TableValue → List (ℕ × ColumnValue)
shown_columns table =
    filter (λ (p : ℕ × ColumnValue). not (is_hidden_column p.1)) (enumerate_from 0 table.columns)
