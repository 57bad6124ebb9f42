-- Promises to a caller in C about a table of cells.
-- Source: this library's own.
use Rattle.std.specs.Prelude.{List, IsUtf8}
use Rattle.comfy_parts.specs.Text.{Text}
use Rattle.comfy_table.specs.TableValue.{TableValue}
use Rattle.promises.specs.Promises.{KeepsPromises}
use Rattle.comfy_c.specs.CellCalls.{AreWritten, IsDescribed}
use Rattle.comfy_c.specs.declared.cells_columns.ColumnNumbers.{ColumnNumbers}
use Rattle.comfy_c.specs.declared.cells_rows.CellNumbers.{CellNumbers}
use Rattle.comfy_c.specs.declared.cells_rows.RowNumbers.{RowNumbers}
use Rattle.comfy_c.specs.declared.cells_settings.CellsSettings.{CellsSettings}

-- The bytes are UTF-8. Their lines keep each promise on the lines of the table that numbers and
-- texts describe.
pub record ShowTable (texts : Text) (cells : List CellNumbers) (rows : List RowNumbers)
    (columns : List ColumnNumbers) (indicator : Text) (settings : CellsSettings)
    (bytes : Text) : Type 0 where
  pub are_text : IsUtf8 bytes
  pub table : TableValue
  pub described : IsDescribed texts cells rows columns indicator settings table
  pub lines : List Text
  pub keep : KeepsPromises table lines
  pub written : AreWritten settings.form lines bytes
