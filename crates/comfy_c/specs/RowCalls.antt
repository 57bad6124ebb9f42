-- The meaning of the settings and columns of a table of rows, and the drawing of its texts.
-- Source: this library's own.
use Rattle.std.specs.Prelude.{◌≡◌, ◌==◌, ◌&&◌, ◌||◌, not, ℕ, Bool, true, List, [], ◌∷◌, All, Option, Some, None, IsUtf8, length, slice_get, if◌then◌else◌}
use Rattle.comfy_parts.specs.Text.{Text}
use Rattle.comfy_parts.specs.declared.style.table_style.TableStyle.{TableStyle}
use Rattle.comfy_c.specs.Calls.{is_set, limit_of, width_of}
use Rattle.comfy_c.specs.Frames.{style_for}
use Rattle.comfy_c.specs.Looks.{are_each, table_settings}
use Rattle.comfy_c.specs.RowColumns.{are_unset, columns_for, have_sides}
use Rattle.comfy_c.specs.Texts.{AddUp, rows_of}
use Rattle.comfy_c.specs.declared.cells_numbers.LookNumbers.{LookNumbers}
use Rattle.comfy_c.specs.declared.refusal.DrawRefusal.{DrawRefusal}
use Rattle.comfy_c.specs.declared.refusal.DrawRefusal.TheVariants.{Lengths, NotUtf8, OutOfMemory, Settings}
use Rattle.comfy_c.specs.declared.rows_columns.RowsColumn.{RowsColumn}
use Rattle.comfy_c.specs.declared.rows_settings.RowsSettings.{RowsSettings}
use Rattle.csv_records.specs.CutLists.{cut_by}
use Rattle.csv_tables.specs.Columns.{ColumnsValue}
use Rattle.csv_tables.specs.Styled.{RendersAnyStyledRecords}
use Rattle.csv_tables.specs.declared.options.Expansion.{Expansion}
use Rattle.csv_tables.specs.declared.options.Expansion.TheVariants.{Always, Auto, Never as NeverExpanded}
use Rattle.csv_tables.specs.declared.options.Layout.{Layout}
use Rattle.csv_tables.specs.declared.options.Look.{Look}
use Rattle.csv_tables.specs.declared.options.RowSeparators.{RowSeparators}
use Rattle.csv_tables.specs.declared.options.RowSeparators.TheVariants.{Needed, Never, Styled}
use Rattle.csv_tables.specs.declared.selection.Noun.TheVariants.{Row}
use Rattle.csv_tables.specs.declared.selection.Selection.{Selection}

-- ---- settings

-- the settings for lines between rows, and for expanded rows, counted from 0
abbrev pub separators : List RowSeparators
separators = Styled ∷ Needed ∷ Never ∷ []

abbrev pub expansions : List Expansion
expansions = NeverExpanded ∷ Auto ∷ Always ∷ []

-- the look with this style and these rules, if none of the three is missing
abbrev pub look_by : RowsSettings → Option TableStyle → Option RowSeparators → Option Expansion
    → Option Look
look_by settings (Some style) (Some lines) (Some expansion) =
    Some (record {
      style = style;
      separators = lines;
      expansion = expansion;
      width = width_of settings.width;
      fills_width = is_set settings.fills_width;
      max_height = limit_of settings.max_height;
      has_bold_header = is_set settings.has_bold_header;
      aligns_decimals = is_set settings.aligns_decimals;
      has_sequences = is_set settings.has_sequences;
      is_markdown = is_set settings.is_markdown;
    })
look_by settings _ _ _ = None

-- the look of a table with these settings, if each number has a meaning
abbrev pub look_for : RowsSettings → Option Look
look_for settings =
    look_by settings (style_for settings.style settings.frame)
    (slice_get separators settings.row_lines) (slice_get expansions settings.expansion)

-- the rows that are drawn
abbrev pub selection_for : RowsSettings → Selection
selection_for settings =
    record {
      has_header = is_set settings.has_header;
      limit = limit_of settings.limit;
      is_numbered = is_set settings.is_numbered;
      noun = Row;
    }

-- ---- drawings

abbrev pub layout_by : Selection → Option Look → Option ColumnsValue → Option Layout
layout_by selection (Some look) (Some columns) =
    Some (record { selection = selection; columns = columns; look = look })
layout_by selection (Some look) None = None
layout_by selection None columns = None

-- true if rows are drawn as one table that isn't for Markdown, whatever the width is
abbrev pub is_table_of_rows : RowsSettings → Bool
is_table_of_rows settings = (settings.expansion == 0) && not (is_set settings.is_markdown)

-- true if nothing is set except left and right sides of columns
abbrev pub has_sides_alone : List LookNumbers → List ℕ → List RowsColumn → Bool
has_sides_alone looks heights columns =
    (length looks == 0) && ((length heights == 0) && are_unset columns)

-- true if the sides of columns have a meaning, and other settings are set only if rows are drawn
-- as one table
abbrev pub can_have : RowsSettings → List LookNumbers → List ℕ → List RowsColumn → Bool
can_have settings looks heights columns =
    have_sides columns
    && (has_sides_alone looks heights columns || is_table_of_rows settings)

-- the layout of rows for settings and columns, if each number has a meaning and the columns can be
-- drawn
abbrev pub layout_for : RowsSettings → List LookNumbers → List ℕ → List RowsColumn
    → List (List Text) → Option Layout
layout_for settings looks heights columns rows =
    if can_have settings looks heights columns
    then layout_by (selection_for settings) (look_for settings)
    (columns_for (selection_for settings) columns rows)
    else None

-- lengths and counts add up; there is no look or one for each text, and no height or one for each
-- row
abbrev pub AllAddUp : Text → List ℕ → List ℕ → List LookNumbers → List ℕ → Type 0
AllAddUp texts lengths counts looks heights =
    AddUp texts lengths counts × (are_each looks lengths heights counts ≡ true)

-- `drawing` is the drawing of the rows of texts, as `csvtable` draws such records; all rows are
-- counted
pub record IsRowsDrawing (texts : Text) (lengths counts : List ℕ) (looks : List LookNumbers)
    (heights : List ℕ) (columns : List RowsColumn) (settings : RowsSettings)
    (drawing : Text) : Type 0 where
  pub add_up : AllAddUp texts lengths counts looks heights
  pub are_texts : All IsUtf8 (cut_by lengths texts)
  pub is_text : IsUtf8 drawing
  pub layout : Layout
  pub is_layout :
      layout_for settings looks heights columns (rows_of texts lengths counts) ≡ Some layout
  pub is_output :
      RendersAnyStyledRecords
      (table_settings (is_set settings.has_header) counts looks heights columns) layout
      (rows_of texts lengths counts) drawing

-- settings, looks, heights or columns can't be drawn
abbrev pub IsSettingRefused : List (List Text) → List LookNumbers → List ℕ → List RowsColumn
    → RowsSettings → Type 0
IsSettingRefused rows looks heights columns settings =
    layout_for settings looks heights columns rows ≡ None

-- lengths, counts, looks and heights add up, but a text isn't UTF-8
abbrev pub HasNoText : Text → List ℕ → List ℕ → List LookNumbers → List ℕ → Type 0
HasNoText texts lengths counts looks heights =
    AllAddUp texts lengths counts looks heights × ¬ (All IsUtf8 (cut_by lengths texts))

-- the error for rows without a drawing
abbrev pub IsRowsRefusal : Text → List ℕ → List ℕ → List LookNumbers → List ℕ → List RowsColumn
    → RowsSettings → DrawRefusal → Type 0
IsRowsRefusal texts lengths counts looks heights columns settings Lengths =
    ¬ (AllAddUp texts lengths counts looks heights)
IsRowsRefusal texts lengths counts looks heights columns settings NotUtf8 =
    HasNoText texts lengths counts looks heights
IsRowsRefusal texts lengths counts looks heights columns settings Settings =
    IsSettingRefused (rows_of texts lengths counts) looks heights columns settings
IsRowsRefusal texts lengths counts looks heights columns settings OutOfMemory = Unit {0}
