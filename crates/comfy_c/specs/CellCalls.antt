-- The table that numbers and texts describe, and its drawing.
-- Source: this library's own.
use Rattle.std.specs.Prelude.{◌≡◌, ◌⊎◌, ◌<◌, ◌∷◌, ◌++◌, [], ℕ, false, List, All, Option, Some, None, IsUtf8, decimal, drop, flat_map, map, slice_get, zip, if◌then◌else◌}
use Rattle.comfy_parts.specs.CellValue.{CellValue, RowValue}
use Rattle.comfy_parts.specs.Text.{Text}
use Rattle.comfy_parts.specs.declared.style.table.ContentArrangement.{ContentArrangement}
use Rattle.comfy_parts.specs.declared.style.table_style.TableStyle.{TableStyle}
use Rattle.comfy_table.specs.Drawing.{terminated_text_of, trimmed_text_of}
use Rattle.comfy_table.specs.Headline.{IsTableDrawing}
use Rattle.comfy_table.specs.TableValue.{TableValue, max_content_widths, no_terminal}
use Rattle.csv_records.specs.CutLists.{cut_by}
use Rattle.comfy_c.specs.Calls.{is_set, width_of}
use Rattle.comfy_c.specs.Frames.{style_for}
use Rattle.comfy_c.specs.Numbers.{arrangements, cell_with, char_of, columns_with, row_with}
use Rattle.comfy_c.specs.Texts.{AddUp}
use Rattle.comfy_c.specs.declared.cells_columns.ColumnNumbers.{ColumnNumbers}
use Rattle.comfy_c.specs.declared.cells_rows.CellNumbers.{CellNumbers}
use Rattle.comfy_c.specs.declared.cells_rows.RowNumbers.{RowNumbers}
use Rattle.comfy_c.specs.declared.cells_settings.CellsSettings.{CellsSettings}
use Rattle.comfy_c.specs.declared.refusal.DrawRefusal.{DrawRefusal}
use Rattle.comfy_c.specs.declared.refusal.DrawRefusal.TheVariants.{Lengths, NotUtf8, OutOfMemory, Settings}

-- ---- rows

-- the number of bytes of each cell's text
abbrev pub lengths_of : List CellNumbers → List ℕ
lengths_of cells = map (λ (cell : CellNumbers). cell.length) cells

-- the number of cells of each row
abbrev pub counts_of : List RowNumbers → List ℕ
counts_of rows = map (λ (row : RowNumbers). row.cells) rows

-- cells with these texts
abbrev pub cells_by : List CellNumbers → List Text → List CellValue
cells_by cells texts = map (λ (p : CellNumbers × Text). cell_with p.0 p.1) (zip cells texts)

-- cells with texts that are cut from one block
abbrev pub cells_with : List CellNumbers → Text → List CellValue
cells_with cells texts = cells_by cells (cut_by (lengths_of cells) texts)

-- rows with these cells
abbrev pub rows_with : List RowNumbers → List CellValue → List RowValue
rows_with rows cells =
    map (λ (p : RowNumbers × List CellValue). row_with p.0 p.1)
    (zip rows (cut_by (counts_of rows) cells))

-- ---- the table

-- the first row, if it is the header
abbrev pub header_among : CellsSettings → List RowValue → Option RowValue
header_among settings rows = if is_set settings.has_header then slice_get rows 0 else None

-- the rows below the header
abbrev pub below_header : CellsSettings → List RowValue → List RowValue
below_header settings rows = if is_set settings.has_header then drop 1 rows else rows

-- the table of these arguments, with the width and the styling that the caller sets; no terminal is
-- consulted
abbrev pub table_by : Option RowValue → List RowValue → List ColumnNumbers → Text → CellsSettings
    → TableStyle → ContentArrangement → TableValue
table_by header rows columns indicator settings style arrangement =
    record {
      columns = columns_with columns;
      header = header;
      rows = rows;
      style = style;
      arrangement = arrangement;
      delimiter = char_of settings.delimiter;
      indicator = indicator;
      set_width = width_of settings.width;
      terminal = no_terminal;
      no_tty = false;
      use_stderr = false;
      enforce_styling = is_set settings.enforce_styling;
      style_text_only = is_set settings.style_text_only;
      custom_styling = is_set settings.custom_styling;
    }

-- the table of rows of which the first may be the header, with the caller's settings
abbrev pub table_with : List RowValue → List ColumnNumbers → Text → CellsSettings → TableStyle
    → ContentArrangement → TableValue
table_with rows columns indicator settings =
    table_by (header_among settings rows) (below_header settings rows) columns indicator settings

-- numbers and texts describe this table: lengths and counts add up, and the numbers of style and
-- arrangement have a meaning
pub record IsDescribed (texts : Text) (cells : List CellNumbers) (rows : List RowNumbers)
    (columns : List ColumnNumbers) (indicator : Text) (settings : CellsSettings)
    (table : TableValue) : Type 0 where
  pub add_up : AddUp texts (lengths_of cells) (counts_of rows)
  pub style : TableStyle
  pub is_style : style_for settings.style settings.frame ≡ Some style
  pub arrangement : ContentArrangement
  pub is_arrangement : slice_get arrangements settings.arrangement ≡ Some arrangement
  pub value : table
      ≡ table_with (rows_with rows (cells_with cells texts)) columns indicator settings style
      arrangement

-- ---- drawings

-- numbers in decimal, each with a line feed after it
abbrev pub listed : List ℕ → Text
listed numbers = flat_map (λ number. decimal number ++ 0x0A ∷ []) numbers

-- lines in one of two forms: each with a line feed after it, or with line feeds between them and
-- without the white space at their ends
abbrev pub AreWritten : ℕ → List Text → Text → Type 0
AreWritten form lines drawing =
    (form ≡ 0) × (drawing ≡ terminated_text_of lines)
    ⊎ (form ≡ 1) × (drawing ≡ trimmed_text_of lines)

-- the requested form of a table: its lines in one of two forms, or the widths of its contents
abbrev pub IsInForm : ℕ → TableValue → Text → Type 0
IsInForm form table drawing =
    ((lines : List Text) × IsTableDrawing table lines × AreWritten form lines drawing)
    ⊎ (form ≡ 2) × (drawing ≡ listed (max_content_widths table))

-- `drawing` is the requested form of the table that numbers and texts describe
pub record IsCellsDrawing (texts : Text) (cells : List CellNumbers) (rows : List RowNumbers)
    (columns : List ColumnNumbers) (indicator : Text) (settings : CellsSettings)
    (drawing : Text) : Type 0 where
  pub is_text : IsUtf8 drawing
  pub table : TableValue
  pub described : IsDescribed texts cells rows columns indicator settings table
  pub drawn : IsInForm settings.form table drawing

-- ---- refusals

-- the lengths don't add up to the length of all texts, or the counts to the number of cells
abbrev pub DoNotAddUp : Text → List CellNumbers → List RowNumbers → Type 0
DoNotAddUp texts cells rows = ¬ (AddUp texts (lengths_of cells) (counts_of rows))

-- lengths and counts add up, but a cell's text or the indicator isn't UTF-8
abbrev pub AreNotTexts : Text → List CellNumbers → List RowNumbers → Text → Type 0
AreNotTexts texts cells rows indicator =
    AddUp texts (lengths_of cells) (counts_of rows)
    × (¬ (All IsUtf8 (cut_by (lengths_of cells) texts)) ⊎ ¬ (IsUtf8 indicator))

-- the form, the style or the arrangement has no meaning
abbrev pub IsUnknown : CellsSettings → Type 0
IsUnknown settings =
    (2 < settings.form) ⊎ (style_for settings.style settings.frame ≡ None)
    ⊎ (slice_get arrangements settings.arrangement ≡ None)

-- the error for an indicator: it isn't UTF-8, or memory ran out
abbrev pub IsIndicatorRefusal : Text → DrawRefusal → Type 0
IsIndicatorRefusal indicator refusal =
    (refusal ≡ OutOfMemory) ⊎ (refusal ≡ NotUtf8) × ¬ (IsUtf8 indicator)

-- the reason for a missing drawing
abbrev pub IsCellsRefusal : Text → List CellNumbers → List RowNumbers → Text → CellsSettings
    → DrawRefusal → Type 0
IsCellsRefusal texts cells rows indicator settings Lengths = DoNotAddUp texts cells rows
IsCellsRefusal texts cells rows indicator settings NotUtf8 =
    AreNotTexts texts cells rows indicator
IsCellsRefusal texts cells rows indicator settings Settings = IsUnknown settings
IsCellsRefusal texts cells rows indicator settings OutOfMemory = Unit {0}
