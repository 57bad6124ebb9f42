-- Private: the rows of records that haven't been made yet.
-- Source: this library's own.
use Rattle.std.specs.Prelude.{ℕ, ◌+◌, ◌≡◌, ◌⊎◌, Bool, true, false, List, [], ◌∷◌, ◌++◌, Option, Some, None, chars, length, map, slice_get, unwrap_or, if◌then◌else◌}
use Rattle.std.specs.List.{list_any}
use Rattle.comfy_parts.specs.CellValue.{CellValue, ColumnInfo, RowValue}
use Rattle.comfy_parts.specs.Text.{Text, greatest, spaces}
use Rattle.comfy_table.specs.Drawing.{part_of_drawing, terminated_text_of}
use Rattle.comfy_table.specs.TableValue.{TableValue, cells_at, measured_cell}
use Rattle.csv_tables.specs.Cells.{Shown, cell_for, columns_within, is_blank, row_for, shown_in, text_in, with_weight}
use Rattle.csv_tables.specs.LazyTableValue.{LazyTableValue}
use Rattle.csv_tables.specs.Drawn.{SelectedValue, empty_table, headed_table, pairs_of, pairs_table, record_line, rows_table, separators_in}
use Rattle.csv_tables.specs.Markdown.{may_be_escaped}
use Rattle.csv_tables.specs.Separators.{AreRowsSeparated}
use Rattle.csv_tables.specs.Settings.{CellSettingsValue, RowSettingsValue, SettingsValue, dressed}
use Rattle.csv_tables.specs.Styled.{dressed_row, dressed_table, is_expanded_by, styled_table}
use Rattle.csv_tables.specs.declared.options.ColumnPlan.{ColumnPlan}
use Rattle.csv_tables.specs.declared.options.Look.{Look}
use Rattle.csv_tables.specs.declared.rows.RecordRows.{RecordRows}

-- the texts that the row of the record at a place shows
abbrev pub shown_by : RecordRows → ℕ → List Text → List Shown
shown_by rows at fields =
    shown_in rows.look rows.is_aligned rows.selected.is_numbered
    (columns_within fields rows.selected.columns) (at + 1, fields)

-- the cell of the field of a column, with its settings
abbrev pub field_cell : Look → Bool → Bool → List CellSettingsValue → List Text → ColumnPlan
    → CellValue
field_cell look is_bold is_aligned settings fields column =
    dressed (slice_get settings column.position)
    (with_weight is_bold (cell_for look column.alignment (text_in look is_aligned column fields)))

-- the cells of the fields of columns
abbrev pub field_cells : Look → Bool → Bool → List CellSettingsValue → List ColumnPlan
    → List Text → List CellValue
field_cells look is_bold is_aligned settings columns fields =
    map (field_cell look is_bold is_aligned settings fields) columns

-- the settings of the row of the record at a place
abbrev pub settings_by : RecordRows → ℕ → Option RowSettingsValue
settings_by rows at = slice_get rows.settings.rows (at + 1)

-- the row of the record at a place, without settings
abbrev pub plain_by : RecordRows → ℕ → List Text → RowValue
plain_by rows at fields =
    row_for rows.look rows.is_aligned rows.selected.is_numbered rows.selected.columns
    (at + 1, fields)

-- a row with its settings, if it has any
abbrev pub dressed_by : SelectedValue → Option RowSettingsValue → RowValue → RowValue
dressed_by content None row = row
dressed_by content (Some own) row = dressed_row content own row

-- the row of the record at a place
abbrev pub made_by : RecordRows → ℕ → List Text → RowValue
made_by rows at fields =
    dressed_by rows.selected (settings_by rows at) (plain_by rows at fields)

-- the rows of an expanded record: each field beside the name of its column
abbrev pub pairs_by : RecordRows → List Text → List RowValue
pairs_by rows fields =
    pairs_of rows.look rows.selected.columns (unwrap_or rows.selected.names []) fields

-- the rows of the record at a place
abbrev pub rows_at : RecordRows → ℕ → List Text → List RowValue
rows_at rows at fields =
    if rows.is_expanded then pairs_by rows fields else made_by rows at fields ∷ []

-- the rows of records, from a place on
abbrev pub rows_from : RecordRows → ℕ → List (List Text) → List RowValue
rows_from rows at [] = []
rows_from rows at (fields ∷ left) = rows_at rows at fields ++ rows_from rows (at + 1) left

-- the table of records without its rows, before its columns grow
abbrev pub headed_by : RecordRows → TableValue
headed_by rows =
    if rows.is_expanded
    then empty_table rows.look
    else dressed_table rows.selected rows.settings.rows
    (headed_table rows.look rows.selected.is_numbered rows.selected.columns
    rows.selected.names)

-- the table of records
abbrev pub table_by : RecordRows → TableValue
table_by rows =
    if rows.is_expanded
    then pairs_table rows.look rows.selected
    else dressed_table rows.selected rows.settings.rows
    (rows_table rows.look rows.is_aligned rows.selected)

-- the value of `f` for a cell as it is measured, or 0 without a cell
abbrev pub measured_at : TableValue → (CellValue → ℕ) → Option CellValue → ℕ
measured_at table f None = 0
measured_at table f (Some cell) = f (measured_cell table cell)

-- the greatest value of `f` for the cells of rows at a position
abbrev pub greatest_at : TableValue → (CellValue → ℕ) → List RowValue → ℕ → ℕ
greatest_at table f rows i = greatest (map (measured_at table f) (cells_at rows i))

-- the greatest number of cells of a row
abbrev pub most_cells : List RowValue → ℕ
most_cells rows = greatest (map (λ (row : RowValue). length row.cells) rows)

-- A cleaned field with `after` spaces after it is drawn without further spaces and without
-- backslashes, and isn't emptied.
abbrev pub IsKept : Look → Text → ℕ → Type 0
IsKept look field after =
    (look.is_markdown ≡ false) × ((is_blank field ≡ false) ⊎ (field ++ spaces after ≡ []))
    ⊎ (look.is_markdown ≡ true) × (after ≡ 0)
    × (list_any may_be_escaped (chars field) ≡ false)

-- ---- drawings

-- the lines of a part of a table with the rows of an expanded record, if it has any
abbrev pub fields_text : TableValue → List ColumnInfo → List RowValue → Text
fields_text table infos [] = []
fields_text table infos (row ∷ rows) =
    terminated_text_of (part_of_drawing table infos true true (row ∷ rows))

-- an expanded record: its heading, and its fields
abbrev pub expanded_record : RecordRows → TableValue → List ColumnInfo → ℕ → List Text → Text
expanded_record rows table infos at fields =
    record_line rows.selected.noun (at + 1) rows.selected.count
    ++ fields_text table infos (pairs_by rows fields)

-- the text of expanded records from a place on
abbrev pub expanded_from : RecordRows → TableValue → List ColumnInfo → ℕ → List (List Text)
    → Text
expanded_from rows table infos at [] = []
expanded_from rows table infos at (fields ∷ left) =
    expanded_record rows table infos at fields ++ expanded_from rows table infos (at + 1) left

-- the text of the next records from a place on. The lines above them are included if `is_first` is
-- true, and those below them if `is_last` is true.
abbrev pub drawn_next : RecordRows → TableValue → List ColumnInfo → ℕ → Bool → Bool
    → List (List Text) → Text
drawn_next rows table infos at is_first is_last next =
    if rows.is_expanded
    then expanded_from rows table infos at next
    else terminated_text_of
    (part_of_drawing table infos is_first is_last (rows_from rows at next))

-- ---- tables that are drawn

-- `contents` are those of rows, or of expanded records
pub record AreContentsOf (is_expanded : Bool) (look : Look) (content : SelectedValue)
    (contents : LazyTableValue) : Type 0 where
  pub look_is : contents.rows.look ≡ look
  pub selected_is : contents.rows.selected ≡ content
  pub expanded_is : contents.rows.is_expanded ≡ is_expanded

-- `contents` are those of a table that is drawn, with lines between rows or without
pub record AreDrawnAs (is_expanded : Bool) (look : Look) (content : SelectedValue)
    (table : TableValue) (contents : LazyTableValue) : Type 0 where
  pub are_contents : AreContentsOf is_expanded look content contents
  pub separated :
      AreRowsSeparated (separators_in is_expanded look.separators) table contents.table

-- records are expanded or not as the settings and the look require
pub record AreDrawnContents (settings : SettingsValue) (look : Look)
    (content : SelectedValue) (contents : LazyTableValue) : Type 0 where
  pub is_expanded : Bool
  pub expansion : is_expanded ≡ is_expanded_by settings look content
  pub drawn :
      AreDrawnAs is_expanded look content (styled_table settings is_expanded look content)
      contents
