-- The settings of columns, rows and cells in a table of rows.
-- Source: this library's own.
use Rattle.std.specs.Prelude.{ℕ, ◌++◌, List, [], ◌∷◌, Option, Some, None}
use Rattle.std.specs.Option.{option_or}
use Rattle.comfy_parts.specs.CellValue.{CellValue}
use Rattle.comfy_parts.specs.declared.style.attribute.Attribute.{Attribute}
use Rattle.comfy_parts.specs.declared.style.cell.CellAlignment.{CellAlignment}
use Rattle.comfy_parts.specs.declared.style.color.Color.{Color}
use Rattle.csv_tables.specs.declared.options.Look.{Look}
use Rattle.csv_tables.specs.declared.settings.ColumnSettings.{ColumnSettings}

-- the settings of a cell
pub record CellSettingsValue : Type 0 where
  pub alignment : Option CellAlignment
  pub foreground : Option Color
  pub background : Option Color
  pub attributes : List Attribute

-- the settings of a row, and of its cells, which are listed by the positions of fields in the
-- record
pub record RowSettingsValue : Type 0 where
  pub max_height : Option ℕ
  pub cells : List CellSettingsValue

-- the settings of a table: of columns, which are listed by the positions of fields, of the header,
-- and of each record
pub record SettingsValue : Type 0 where
  pub columns : List ColumnSettings
  pub rows : List RowSettingsValue

-- the settings of a table for which nothing is set
abbrev pub no_settings : SettingsValue
no_settings = record { columns = []; rows = [] }

-- a cell with its settings, if it has any: their attributes come after the cell's own
abbrev pub dressed : Option CellSettingsValue → CellValue → CellValue
dressed None cell = cell
dressed (Some own) cell =
    record cell {
      alignment = option_or own.alignment cell.alignment;
      foreground = option_or own.foreground cell.foreground;
      background = option_or own.background cell.background;
      attributes = cell.attributes ++ own.attributes;
    }

-- cells, each with the settings at its place
abbrev pub dressed_cells : List (Option CellSettingsValue) → List CellValue → List CellValue
dressed_cells settings [] = []
dressed_cells [] (cell ∷ cells) = cell ∷ cells
dressed_cells (own ∷ settings) (cell ∷ cells) = dressed own cell ∷ dressed_cells settings cells

-- the settings of the cells of a row, or none if the row has no settings
abbrev pub cell_settings : Option RowSettingsValue → List CellSettingsValue
cell_settings None = []
cell_settings (Some own) = own.cells

-- the greatest height of a row, by its settings if they have one, or else by the look
abbrev pub limit_by : Option RowSettingsValue → Look → Option ℕ
limit_by None look = look.max_height
limit_by (Some own) look = option_or own.max_height look.max_height
