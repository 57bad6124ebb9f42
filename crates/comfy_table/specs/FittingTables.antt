-- Tables in which each character fits its column.
-- Source: this library's own.
use Rattle.std.specs.Prelude.{◌≡◌, ◌⊎◌, List, None, All}
use Rattle.comfy_parts.specs.CellValue.{CellValue, ColumnInfo, RowValue}
use Rattle.comfy_parts.specs.Columns.{AddsOneColumn, CharactersFit, IsApart, IsOneColumnStyle}
use Rattle.comfy_parts.specs.Text.{Text}
use Rattle.comfy_table.specs.Headline.{IsTableDrawing}
use Rattle.comfy_table.specs.Lines.{cell_delimiter}
use Rattle.comfy_table.specs.Straight.{EachCell, IsStraightTable, TextsAreApart}
use Rattle.comfy_table.specs.TableValue.{TableValue}

-- each character of the cell's text lines fits its column
abbrev pub CharactersFitColumn : RowValue → ColumnInfo → CellValue → Type 0
CharactersFitColumn row info cell = All (CharactersFit info.content_width) cell.text_lines

-- each character of the cell's text lines fits its column, and its delimiter adds one terminal
-- column. If its row has a greatest height, no text joins the indicator.
pub record FitsByCharacters (table : TableValue) (row : RowValue) (info : ColumnInfo)
    (cell : CellValue) : Type 0 where
  pub characters : CharactersFitColumn row info cell
  pub delimiter : AddsOneColumn (cell_delimiter table info.delimiter cell)
  pub indicator : (row.max_height ≡ None) ⊎ IsApart table.indicator

-- the table is straight, if each character of the style adds one terminal column and no texts touch
abbrev pub FittingTablesAreStraight : TableValue → List Text → Type 0
FittingTablesAreStraight table lines =
    (drawing : IsTableDrawing table lines) → IsOneColumnStyle table.style → TextsAreApart table
    → EachCell (FitsByCharacters table) table drawing.widths
    → IsStraightTable table drawing.widths
