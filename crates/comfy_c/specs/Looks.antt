-- The meaning of the looks and heights of a table of rows.
-- Source: this library's own.
use Rattle.std.specs.Prelude.{◌==◌, ◌&&◌, ◌||◌, ◌++◌, ℕ, Bool, List, [], ◌∷◌, None, drop, length, map, slice_index, if◌then◌else◌}
use Rattle.comfy_table.specs.Styling.{all_attributes}
use Rattle.csv_records.specs.CutLists.{cut_by}
use Rattle.csv_tables.specs.Settings.{CellSettingsValue, RowSettingsValue, SettingsValue}
use Rattle.comfy_c.specs.RowColumns.{settings_for}
use Rattle.comfy_c.specs.Numbers.{alignment_of, attributes_by, color_of, height_of}
use Rattle.comfy_c.specs.declared.cells_numbers.LookNumbers.{LookNumbers}
use Rattle.comfy_c.specs.declared.rows_columns.RowsColumn.{RowsColumn}

-- true if a list is empty, or has the number of items that it should have
abbrev pub is_none_or : ℕ → ℕ → Bool
is_none_or given count = (given == 0) || (given == count)

-- true if there is a look for each text, or none, and a height for each row, or none
abbrev pub are_each : List LookNumbers → List ℕ → List ℕ → List ℕ → Bool
are_each looks lengths heights counts =
    is_none_or (length looks) (length lengths) && is_none_or (length heights) (length counts)

-- the settings of a text with this look
abbrev pub look_settings : LookNumbers → CellSettingsValue
look_settings look =
    record {
      alignment = alignment_of look.alignment;
      foreground = color_of look.foreground;
      background = color_of look.background;
      attributes = attributes_by all_attributes look.attributes;
    }

-- the settings of a row of texts with these looks and this greatest height
abbrev pub row_settings : List LookNumbers → ℕ → RowSettingsValue
row_settings looks height =
    record { max_height = height_of height; cells = map look_settings looks }

-- the settings of rows, of which the first ones have heights
abbrev pub rows_by : List (List LookNumbers) → List ℕ → List RowSettingsValue
rows_by [] heights = []
rows_by (looks ∷ rows) heights =
    row_settings looks (slice_index heights 0) ∷ rows_by rows (drop 1 heights)

-- a row without settings
abbrev pub unset_row : RowSettingsValue
unset_row = record { max_height = None; cells = [] }

-- the settings of the header, which may be missing, and of the rows below it
abbrev pub rows_settings : Bool → List ℕ → List LookNumbers → List ℕ → List RowSettingsValue
rows_settings has_header counts looks heights =
    if (length looks == 0) && (length heights == 0)
    then []
    else (if has_header then [] else unset_row ∷ []) ++ rows_by (cut_by counts looks) heights

-- the settings of a table of rows with these numbers of texts
abbrev pub table_settings : Bool → List ℕ → List LookNumbers → List ℕ → List RowsColumn
    → SettingsValue
table_settings has_header counts looks heights columns =
    record {
      columns = settings_for columns;
      rows = rows_settings has_header counts looks heights;
    }
