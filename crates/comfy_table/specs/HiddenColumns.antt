-- A table without its hidden columns, and their effect on a drawing: none.
-- Source: this library's own.
use Rattle.std.specs.Prelude.{◌≡◌, Bool, not, List, map, filter, option_map, zip}
use Rattle.comfy_parts.specs.CellValue.{ColumnValue, RowValue, is_hidden_column}
use Rattle.comfy_parts.specs.Text.{Text}
use Rattle.comfy_table.specs.Arrangement.{IsDrawingOf}
use Rattle.comfy_table.specs.TableValue.{TableValue}

-- the column is visible
abbrev pub is_shown : ColumnValue → Bool
is_shown column = not (is_hidden_column column)

-- the elements of a list at the positions of shown columns; elements after the last column are left
-- out
abbrev pub beside_shown : {X : Type 0} → List ColumnValue → List X → List X
beside_shown {X} columns xs =
    map (λ (p : ColumnValue × X). p.1)
    (filter (λ (p : ColumnValue × X). is_shown p.0) (zip columns xs))

-- the row with only the cells of shown columns
abbrev pub shown_row : List ColumnValue → RowValue → RowValue
shown_row columns row = record row { cells = beside_shown columns row.cells }

-- a table without its hidden columns and their cells
abbrev pub without_hidden : TableValue → TableValue
without_hidden table =
    record table {
      columns = filter is_shown table.columns;
      header = option_map (shown_row table.columns) table.header;
      rows = map (shown_row table.columns) table.rows;
    }

-- the lines are a drawing of the table if and only if they are a drawing of the table without its
-- hidden columns
abbrev pub IsDrawnWithoutHidden : TableValue → List Text → Type 0
IsDrawnWithoutHidden table lines =
    (IsDrawingOf table lines → IsDrawingOf (without_hidden table) lines)
    × (IsDrawingOf (without_hidden table) lines → IsDrawingOf table lines)

-- tables that differ only in hidden columns have the same drawing
abbrev pub HiddenColumnsChangeNothing : TableValue → TableValue → List Text → List Text → Type 0
HiddenColumnsChangeNothing table other lines others =
    without_hidden table ≡ without_hidden other → IsDrawingOf table lines → IsDrawingOf other others
    → lines ≡ others
