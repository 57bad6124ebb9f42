-- Promises to a caller in C about a table of rows.
-- Source: this library's own.
use Rattle.std.specs.Prelude.{◌≡◌, ◌⊎◌, ◌<◌, ◌++◌, ℕ, Bool, false, true, List, Option, Some, None, IsUtf8, length}
use Rattle.comfy_parts.specs.Columns.{IsOneColumnStyle}
use Rattle.comfy_parts.specs.Text.{Text}
use Rattle.comfy_table.specs.Drawing.{terminated_text_of}
use Rattle.comfy_table.specs.TableValue.{TableValue}
use Rattle.csv_promises.specs.Counted.{EachLineFor}
use Rattle.csv_promises.specs.Fields.{ShowsAllFields}
use Rattle.csv_promises.specs.Harmless.{IsHarmlessFor}
use Rattle.csv_promises.specs.Straight.{EachField, IsPlainField}
use Rattle.csv_promises.specs.WideTexts.{HaveRoomEach}
use Rattle.csv_promises.specs.Width.{KeepsTo, frame_room, framed_columns_in}
use Rattle.csv_tables.specs.Controls.{IsHarmlessStyle}
use Rattle.csv_tables.specs.Drawn.{count_below, note_for, selected_of, separated_table}
use Rattle.csv_tables.specs.Laws.{CharactersFitEachWidth}
use Rattle.csv_tables.specs.Settings.{SettingsValue}
use Rattle.csv_tables.specs.Styled.{styled_table, with_centers}
use Rattle.csv_tables.specs.declared.options.Layout.{Layout}
use Rattle.csv_tables.specs.declared.options.Look.{Look}
use Rattle.promises.specs.Promises.{KeepsPromises}
use Rattle.promises.specs.Shown.{ShowsColumns}
use Rattle.comfy_c.specs.Calls.{is_set}
use Rattle.comfy_c.specs.Frames.{own_number, own_style}
use Rattle.comfy_c.specs.Looks.{table_settings}
use Rattle.comfy_c.specs.RowCalls.{has_sides_alone, is_table_of_rows, layout_for}
use Rattle.comfy_c.specs.Texts.{rows_of}
use Rattle.comfy_c.specs.declared.cells_numbers.LookNumbers.{LookNumbers}
use Rattle.comfy_c.specs.declared.rows_columns.RowsColumn.{RowsColumn}
use Rattle.comfy_c.specs.declared.rows_settings.RowsSettings.{RowsSettings}

-- the table isn't for Markdown, and no sequences of texts are kept
pub record IsPlainLook (look : Look) : Type 0 where
  pub unmarked : look.is_markdown ≡ false
  pub unkept : look.has_sequences ≡ false

-- a frame of the caller's own, if it is used, has no control character, and no character that turns
-- the direction of text
abbrev pub HasHarmlessFrame : RowsSettings → Type 0
HasHarmlessFrame settings =
    settings.style ≡ own_number → IsHarmlessStyle (own_style settings.frame)

-- each character of a frame of the caller's own, if it is used, takes one terminal column
abbrev pub HasOneColumnFrame : RowsSettings → Type 0
HasOneColumnFrame settings =
    settings.style ≡ own_number → IsOneColumnStyle (own_style settings.frame)

-- the number of all rows below the header is known
abbrev pub IsCountOf : Layout → List (List Text) → Option ℕ → Type 0
IsCountOf layout rows count = count ≡ Some (count_below layout.selection rows)

-- P holds for each line that is drawn of rows, except those that count them
abbrev pub EachRowsLine : (Text → Type 0) → Layout → List (List Text) → Text → Type 0
EachRowsLine P layout rows bytes = EachLineFor P (IsCountOf layout rows) layout rows bytes

-- there is no width and no height, and each text is drawn as it is
pub record AreDrawnWhole (layout : Layout) (rows : List (List Text)) : Type 0 where
  pub no_width : layout.look.width ≡ None
  pub uncut : layout.look.max_height ≡ None
  pub plain : EachField IsPlainField rows

-- Each character of each text takes at most one terminal column. Or each takes at most two, and the
-- width has room for two in each column of the frame.
abbrev pub FitTheWidth : Layout → List (List Text) → Type 0
FitTheWidth layout rows = HaveRoomEach layout.look.width (framed_columns_in layout rows) rows

-- Each character of each text has room in its column. The characters fit the width, or texts are
-- drawn whole without a width, or the widths that are arranged for the table have room.
abbrev pub HaveRoom : Layout → List (List Text) → Type 0
HaveRoom layout rows =
    (FitTheWidth layout rows ⊎ AreDrawnWhole layout rows)
    ⊎ CharactersFitEachWidth (Some (count_below layout.selection rows)) layout rows

-- if characters have room, all drawn lines show the same number of terminal columns
abbrev pub AreStraightLines : Layout → List (List Text) → Text → Type 0
AreStraightLines layout rows bytes =
    IsPlainLook layout.look → HaveRoom layout rows
    → (columns : ℕ) × EachRowsLine (ShowsColumns columns) layout rows bytes

-- Under a width, each drawn line shows at most as many terminal columns as the width or the frame
-- has. If the width is filled and has room for the frame, it shows exactly those of the width.
abbrev pub KeepToWidth : Layout → List (List Text) → Text → Type 0
KeepToWidth layout rows bytes =
    (width : ℕ) → layout.look.width ≡ Some width → IsPlainLook layout.look
    → FitTheWidth layout rows
    → EachRowsLine
    (KeepsTo width (frame_room (framed_columns_in layout rows)) layout.look.fills_width) layout
    rows bytes

-- each text is shown in its own row and column, if no height cuts rows
abbrev pub ShowAllTexts : Layout → List (List Text) → Text → Type 0
ShowAllTexts layout rows bytes =
    IsPlainLook layout.look → layout.look.max_height ≡ None
    → ShowsAllFields (IsCountOf layout rows) layout rows bytes

-- the promises about the lines that are drawn of rows with no settings but left and right sides
pub record KeepRowPromises (settings : RowsSettings) (layout : Layout) (rows : List (List Text))
    (bytes : Text) : Type 0 where
  pub all : HasHarmlessFrame settings → ShowAllTexts layout rows bytes
  pub harmless : HasHarmlessFrame settings → IsHarmlessFor layout.look bytes
  pub straight : HasHarmlessFrame settings → HasOneColumnFrame settings
      → AreStraightLines layout rows bytes
  pub width : HasHarmlessFrame settings → HasOneColumnFrame settings
      → KeepToWidth layout rows bytes

-- the table that is drawn of rows, with lines between rows or without
abbrev pub table_by : SettingsValue → Layout → Bool → List (List Text) → TableValue
table_by settings layout has_separators rows =
    separated_table has_separators (styled_table settings false layout.look
    (with_centers settings.columns
    (selected_of (Some (count_below layout.selection rows)) layout rows)))

-- The bytes are the lines of the table `table_by`, which keep each promise on a table's lines. The
-- line that counts rows follows if not all rows are drawn.
pub record KeepTablePromises (settings : SettingsValue) (layout : Layout) (rows : List (List Text))
    (bytes : Text) : Type 0 where
  pub has_separators : Bool
  pub lines : List Text
  pub keep : KeepsPromises (table_by settings layout has_separators rows) lines
  pub written :
      bytes ≡ terminated_text_of lines
      ++ note_for layout.selection.noun false layout.selection.limit
      (Some (count_below layout.selection rows))

-- the bytes are UTF-8, and the lines of the table of rows for these settings, looks, heights and
-- columns
pub record ShowRows (texts : Text) (lengths counts : List ℕ) (looks : List LookNumbers)
    (heights : List ℕ) (columns : List RowsColumn) (settings : RowsSettings)
    (bytes : Text) : Type 0 where
  pub are_text : IsUtf8 bytes
  pub layout : Layout
  pub is_layout :
      layout_for settings looks heights columns (rows_of texts lengths counts) ≡ Some layout
  pub keep : has_sides_alone looks heights columns ≡ true
      → KeepRowPromises settings layout (rows_of texts lengths counts) bytes
  pub keep_table : is_table_of_rows settings ≡ true
      → 0 < length (rows_of texts lengths counts)
      → KeepTablePromises
      (table_settings (is_set settings.has_header) counts looks heights columns) layout
      (rows_of texts lengths counts) bytes
