-- Drawings of records whose columns, rows and cells have settings of their own. Without settings
-- each definition computes to its counterpart in `Drawn`.
-- Source: this library's own.
use Rattle.std.specs.Prelude.{ℕ, ◌==◌, Bool, true, false, ◌&&◌, ◌||◌, ◌≡◌, List, [], ◌∷◌, ◌++◌, Option, Some, None, is_some, length, map, max, option_map, slice_get, if◌then◌else◌}
use Rattle.std.specs.Option.{option_or}
use Rattle.comfy_parts.specs.CellValue.{RowValue}
use Rattle.comfy_parts.specs.Text.{Text}
use Rattle.comfy_table.specs.Parts.{ArrangedValue, IsArrangedTable}
use Rattle.comfy_table.specs.TableValue.{TableValue}
use Rattle.comfy_parts.specs.declared.style.cell.CellAlignment.TheVariants.{Center}
use Rattle.csv_tables.specs.Drawn.{HasSeparators, RendersAsMarkdown, SelectedValue, count_below, is_expanded_in, note_for, output_table, rows_table, selected_of, separated_table, separators_in, table_text, wanted_in}
use Rattle.csv_tables.specs.Limits.{has_room_in, limited_by, limits_of, no_limits, settings_at}
use Rattle.csv_tables.specs.Settings.{CellSettingsValue, RowSettingsValue, SettingsValue, dressed_cells}
use Rattle.csv_tables.specs.declared.limits.ColumnLimits.{ColumnLimits}
use Rattle.csv_tables.specs.declared.options.ColumnPlan.{ColumnPlan}
use Rattle.csv_tables.specs.declared.settings.ColumnSettings.{ColumnSettings}
use Rattle.csv_tables.specs.declared.options.Layout.{Layout}
use Rattle.csv_tables.specs.declared.options.Look.{Look}

-- a column, centred if its settings centre it; a centred column has no aligned decimal points
abbrev pub centered : List ColumnSettings → ColumnPlan → ColumnPlan
centered settings column =
    if (settings_at settings column.position).is_centered
    then record column { alignment = Some Center; points = None }
    else column

abbrev pub with_centers : List ColumnSettings → SelectedValue → SelectedValue
with_centers settings content =
    if length settings == 0
    then content
    else record content { columns = map (centered settings) content.columns }

-- the limits of the columns that are drawn; settings are listed by the positions of fields in
-- records
abbrev pub column_limits : List ColumnSettings → SelectedValue → List ColumnLimits
column_limits settings content =
    (if content.is_numbered then no_limits ∷ [] else [])
    ++ map (λ (column : ColumnPlan).
    limits_of (settings_at settings column.position) (is_some column.points)) content.columns

abbrev pub limits_in : List ColumnSettings → SelectedValue → List ColumnLimits
limits_in settings content =
    if length settings == 0 then [] else column_limits settings content

-- ---- rows and cells

-- the settings of the cells of a row, in their order; the cell of its number has none
abbrev pub placed : Bool → List ColumnPlan → List CellSettingsValue
    → List (Option CellSettingsValue)
placed is_numbered columns cells =
    (if is_numbered then None ∷ [] else [])
    ++ map (λ (column : ColumnPlan). slice_get cells column.position) columns

-- the header with its settings, of which the greatest height doesn't count
abbrev pub dressed_header : SelectedValue → RowSettingsValue → RowValue → RowValue
dressed_header content own row =
    record row {
      cells = dressed_cells (placed content.is_numbered content.columns own.cells) row.cells;
    }

-- the row of a record with its settings
abbrev pub dressed_row : SelectedValue → RowSettingsValue → RowValue → RowValue
dressed_row content own row =
    record row {
      cells = dressed_cells (placed content.is_numbered content.columns own.cells) row.cells;
      max_height = option_or (option_map (max 1) own.max_height) row.max_height;
    }

-- the rows of records, of which the first ones have settings
abbrev pub dressed_rows : SelectedValue → List RowSettingsValue → List RowValue → List RowValue
dressed_rows content settings [] = []
dressed_rows content [] (row ∷ rows) = row ∷ rows
dressed_rows content (own ∷ settings) (row ∷ rows) =
    dressed_row content own row ∷ dressed_rows content settings rows

-- a table of rows with the settings of its header and its rows; colours and attributes are always
-- written
abbrev pub dressed_table : SelectedValue → List RowSettingsValue → TableValue → TableValue
dressed_table content [] table = table
dressed_table content (heading ∷ settings) table =
    record table {
      header = option_map (dressed_header content heading) table.header;
      rows = dressed_rows content settings table.rows;
      enforce_styling = true;
    }

-- the table of rows, before columns have limits
abbrev pub styled_rows : SettingsValue → Look → SelectedValue → Bool → TableValue
styled_rows settings look content is_aligned =
    dressed_table content settings.rows (rows_table look is_aligned content)

-- ---- tables

-- true if there is room for the table of rows: for the spaces that align decimal points, and for
-- its width
abbrev pub has_room_by : SettingsValue → Look → SelectedValue → Bool → Bool
has_room_by settings look content is_aligned =
    has_room_in (limits_in settings.columns content) look.width is_aligned (wanted_in look content)
    (styled_rows settings look content is_aligned)

-- true if decimal points are aligned: there is room for the spaces
abbrev pub is_aligned_by : SettingsValue → Look → SelectedValue → Bool
is_aligned_by settings look content =
    look.aligns_decimals && has_room_by settings look content true

-- the table that is drawn, with all lines of its style; expanded records have no settings
abbrev pub styled_table : SettingsValue → Bool → Look → SelectedValue → TableValue
styled_table settings true look content = output_table true look content
styled_table settings false look content =
    limited_by (limits_in settings.columns content) look.width (wanted_in look content)
    (styled_rows settings look content (is_aligned_by settings look content))

-- true if records are expanded
abbrev pub is_expanded_by : SettingsValue → Look → SelectedValue → Bool
is_expanded_by settings look content =
    is_expanded_in look.expansion
    ((length content.rows == 0) || has_room_by settings look content
    (is_aligned_by settings look content))

-- `text` is the text of a table with settings, with lines between rows or without
pub record RendersStyledTable (settings : SettingsValue) (is_expanded : Bool) (look : Look)
    (content : SelectedValue) (text : Text) : Type 0 where
  pub has_separators : Bool
  pub separators :
      HasSeparators (separators_in is_expanded look.separators)
      (separated_table false (styled_table settings is_expanded look content)) has_separators
  pub arranged : ArrangedValue
  pub is_arranged :
      IsArrangedTable
      (separated_table has_separators (styled_table settings is_expanded look content)) arranged
  pub is : text ≡ table_text is_expanded content arranged

-- `text` is the text of a table of rows, or of expanded records
pub record RendersStyled (settings : SettingsValue) (look : Look) (content : SelectedValue)
    (text : Text) : Type 0 where
  pub is_expanded : Bool
  pub expansion : is_expanded ≡ is_expanded_by settings look content
  pub drawn : RendersStyledTable settings is_expanded look content text

-- Markdown has no settings
abbrev pub RendersStyledContent : SettingsValue → Bool → Look → SelectedValue → Text
    → Type 0
RendersStyledContent settings true look content text = RendersAsMarkdown look content text
RendersStyledContent settings false look content text =
    RendersStyled settings look (with_centers settings.columns content) text

-- `output` is the output for some records; `counted` is the number of records below the header, if
-- it is known
pub record RendersStyledRecords (settings : SettingsValue) (counted : Option ℕ)
    (layout : Layout) (records : List (List Text)) (output : Text) : Type 0 where
  pub content : SelectedValue
  pub is_content : selected_of counted layout records ≡ content
  pub text : Text
  pub is_text : RendersStyledContent settings layout.look.is_markdown layout.look content text
  pub joined :
      output
      ≡ text ++ note_for content.noun layout.look.is_markdown layout.selection.limit content.count

-- the output for records that are counted: nothing if there are none
abbrev pub RendersAnyStyledRecords : SettingsValue → Layout → List (List Text) → Text
    → Type 0
RendersAnyStyledRecords settings layout [] output = output ≡ []
RendersAnyStyledRecords settings layout (first ∷ rest) output =
    RendersStyledRecords settings (Some (count_below layout.selection (first ∷ rest))) layout
    (first ∷ rest) output
