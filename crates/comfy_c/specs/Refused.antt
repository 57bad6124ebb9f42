-- The number of the setting that is refused.
-- Source: this library's own.
use Rattle.std.specs.Prelude.{ℕ, Bool, true, false, List, Option, Some, None, nat_le, slice_get}
use Rattle.comfy_parts.specs.declared.style.table.ContentArrangement.{ContentArrangement}
use Rattle.comfy_parts.specs.declared.style.table_style.TableStyle.{TableStyle}
use Rattle.comfy_c.specs.Frames.{style_for}
use Rattle.comfy_c.specs.Numbers.{arrangements}
use Rattle.comfy_c.specs.RowCalls.{can_have, expansions, separators}
use Rattle.comfy_c.specs.RowColumns.{have_sides}
use Rattle.comfy_c.specs.declared.cells_numbers.LookNumbers.{LookNumbers}
use Rattle.comfy_c.specs.declared.cells_settings.CellsSettings.{CellsSettings}
use Rattle.comfy_c.specs.declared.rows_columns.RowsColumn.{RowsColumn}
use Rattle.comfy_c.specs.declared.rows_settings.RowsSettings.{RowsSettings}
use Rattle.csv_tables.specs.declared.options.Expansion.{Expansion}
use Rattle.csv_tables.specs.declared.options.RowSeparators.{RowSeparators}

-- the position of the first argument that is missing or false, counted from 1, or 0 if there is
-- none
abbrev pub first_missing : Option TableStyle → Option RowSeparators → Option Expansion → Bool
    → Bool → ℕ
first_missing None lines expansion sides settings = 1
first_missing (Some style) None expansion sides settings = 2
first_missing (Some style) (Some lines) None sides settings = 3
first_missing (Some style) (Some lines) (Some expansion) false settings = 4
first_missing (Some style) (Some lines) (Some expansion) true false = 5
first_missing (Some style) (Some lines) (Some expansion) true true = 0

-- the first wrong setting of a table of rows: a style, lines between rows, an expansion, the sides
-- of columns, or settings that Markdown and expanded rows can't have
abbrev pub refused_of_rows : RowsSettings → List LookNumbers → List ℕ → List RowsColumn → ℕ
refused_of_rows settings looks heights columns =
    first_missing (style_for settings.style settings.frame)
    (slice_get separators settings.row_lines) (slice_get expansions settings.expansion)
    (have_sides columns) (can_have settings looks heights columns)

-- the first wrong setting of a table of cells, a form, a style or an arrangement: 6, 1 or 7, or 0
-- for none
abbrev pub missing_of_cells : Bool → Option TableStyle → Option ContentArrangement → ℕ
missing_of_cells false style arrangement = 6
missing_of_cells true None arrangement = 1
missing_of_cells true (Some style) None = 7
missing_of_cells true (Some style) (Some arrangement) = 0

abbrev pub refused_of_cells : CellsSettings → ℕ
refused_of_cells settings =
    missing_of_cells (nat_le settings.form 2) (style_for settings.style settings.frame)
    (slice_get arrangements settings.arrangement)
