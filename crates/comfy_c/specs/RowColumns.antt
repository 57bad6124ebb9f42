-- The columns of a table of rows, with their settings.
-- Source: this library's own.
use Rattle.std.specs.Prelude.{◌==◌, ◌&&◌, ◌||◌, not, nat_le, ℕ, Bool, List, [], Option, Some, None, drop, length, map, if◌then◌else◌}
use Rattle.std.specs.List.{filter, list_all, range_with_len, slice_index_or}
use Rattle.comfy_parts.specs.Text.{Text}
use Rattle.comfy_c.specs.declared.rows_columns.RowsColumn.{RowsColumn}
use Rattle.csv_tables.specs.Columns.{ColumnsValue}
use Rattle.csv_tables.specs.Drawn.{column_count}
use Rattle.csv_tables.specs.declared.selection.Selection.{Selection}
use Rattle.csv_tables.specs.declared.settings.ColumnSettings.{ColumnSettings}

-- true if each side has a meaning
abbrev pub have_sides : List RowsColumn → Bool
have_sides columns = list_all (λ (column : RowsColumn). nat_le column.side 4) columns

-- a column without settings
abbrev pub unset_column : RowsColumn
unset_column = record { left_padding = 1; right_padding = 1; side = 0; least = 0; greatest = 0 }

-- true if a column has no settings except a left or right side
abbrev pub is_unset : RowsColumn → Bool
is_unset column =
    (column.left_padding == 1)
    && ((column.right_padding == 1)
    && ((column.least == 0) && ((column.greatest == 0) && not (column.side == 4))))

abbrev pub are_unset : List RowsColumn → Bool
are_unset columns = list_all is_unset columns

-- a width, or `None` for 0
abbrev pub width_unless_zero : ℕ → Option ℕ
width_unless_zero width = if width == 0 then None else Some width

-- the settings of a column
abbrev pub column_settings : RowsColumn → ColumnSettings
column_settings column =
    record {
      padding = (column.left_padding, column.right_padding);
      least = width_unless_zero column.least;
      greatest = width_unless_zero column.greatest;
      is_centered = column.side == 4;
    }

-- the settings of all columns, if a column has any
abbrev pub settings_for : List RowsColumn → List ColumnSettings
settings_for columns = if are_unset columns then [] else map column_settings columns

-- the side of a column, which is 0 after the last one
abbrev pub side_at : List RowsColumn → ℕ → ℕ
side_at columns position = (slice_index_or columns position unset_column).side

-- the positions of the first `count` columns whose side passes
abbrev pub positions_where : (ℕ → Bool) → List RowsColumn → ℕ → List ℕ
positions_where passes columns count =
    filter (λ position. passes (side_at columns position)) (range_with_len 0 count)

-- the first `count` columns with their left and right sides; some aren't drawn
abbrev pub columns_by : List RowsColumn → ℕ → ColumnsValue
columns_by columns count =
    record {
      drawn = positions_where (λ side. not (side == 3)) columns count;
      right = positions_where (λ side. side == 2) columns count;
      left = positions_where (λ side. side == 1) columns count;
    }

-- true if no column after the first `count` has settings
abbrev pub are_there : List RowsColumn → ℕ → Bool
are_there columns count =
    list_all (λ (column : RowsColumn). (column.side == 0) && is_unset column) (drop count columns)

-- the number of columns that the rows have, drawn or not
abbrev pub count_in_all : Selection → List (List Text) → ℕ
count_in_all selection rows = column_count (record selection { limit = None }) rows

-- True if the columns of rows can be drawn: there is no setting of a column that no row has, and a
-- column is left. Without a row nothing is drawn
abbrev pub can_be_drawn : Selection → List RowsColumn → List (List Text) → Bool
can_be_drawn selection columns rows =
    (length rows == 0) || (are_there columns (count_in_all selection rows)
    && not (length (columns_by columns (column_count selection rows)).drawn == 0))

-- the columns of the header and the drawn rows, if they can be drawn
abbrev pub columns_for : Selection → List RowsColumn → List (List Text) → Option ColumnsValue
columns_for selection columns rows =
    if can_be_drawn selection columns rows
    then Some (columns_by columns (column_count selection rows))
    else None
