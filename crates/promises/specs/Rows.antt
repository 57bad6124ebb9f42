-- New tables of a header and rows, and the promises of their drawings.
-- Source: this library's own.
use Rattle.std.specs.Prelude.{◌≡◌, ℕ, ◌+◌, ◌*◌, ◌<◌, ◌≤◌, List, ◌∷◌, Option, Some, None, All, length, max}
use Rattle.comfy_parts.specs.CellValue.{CellValue, RowValue}
use Rattle.comfy_parts.specs.Columns.{CharactersFit}
use Rattle.comfy_parts.specs.Text.{Text, measure}
use Rattle.comfy_parts.specs.declared.style.table.ContentArrangement.{ContentArrangement}
use Rattle.comfy_parts.specs.declared.style.table.ContentArrangement.TheVariants.{Disabled, Dynamic, DynamicFullWidth}
use Rattle.comfy_parts.specs.declared.style.table_style.TableStyle.{TableStyle}
use Rattle.comfy_table.specs.NewTables.{AreEquallyWide, IsShortRow}
use Rattle.comfy_table.specs.TableValue.{TableValue, new_table, with_header, with_rows}
use Rattle.promises.specs.Kept.{AreShown, ShowsRow, ShowsWholeRow}

-- a new table of this style, arrangement and width, with a header and rows
abbrev pub table_of : TableStyle → ContentArrangement → Option ℕ → RowValue → List RowValue
    → TableValue
table_of style arrangement width header rows =
    with_rows rows (with_header header
    (record (new_table style) { arrangement = arrangement; set_width = width }))

-- ---- rows

-- the cell breaks at spaces, and each character of its texts fits one terminal column
pub record IsNarrowCell (cell : CellValue) : Type 0 where
  pub delimiter : cell.delimiter ≡ None
  pub characters : All (CharactersFit 1) cell.text_lines

abbrev pub IsNarrowRow : RowValue → Type 0
IsNarrowRow row = All IsNarrowCell row.cells

-- no row has more than n cells
abbrev pub HaveCells : ℕ → List RowValue → Type 0
HaveCells n rows = All (λ (row : RowValue). length row.cells ≤ n) rows

-- ---- promises

-- The promises on the lines of a new table with a header and rows. The lines are equally wide, if
-- each character fits one terminal column, or if the table is as wide as its texts. They keep to a
-- width, or fill a width that has room for borders, paddings and one terminal column for each of n
-- columns. All texts are in the lines, each in its row and column, and unchanged if the table is as
-- wide as its texts.
pub record KeepsRows (style : TableStyle) (arrangement : ContentArrangement) (width : Option ℕ)
    (header : RowValue) (rows : List RowValue) (lines : List Text) : Type 0 where
  pub straight : All IsNarrowRow (header ∷ rows) → AreEquallyWide lines
  pub straight_whole :
      arrangement ≡ Disabled → All IsShortRow (header ∷ rows) → AreEquallyWide lines
  pub within : (w n : ℕ) → width ≡ Some w → arrangement ≡ Dynamic
      → All IsNarrowRow (header ∷ rows) → HaveCells n (header ∷ rows) → 0 < length header.cells
      → All (λ line. measure line ≤ max w (1 + 4 * n)) lines
  pub over : (w n : ℕ) → width ≡ Some w → arrangement ≡ DynamicFullWidth
      → All IsNarrowRow (header ∷ rows) → HaveCells n (header ∷ rows) → 0 < length header.cells
      → 1 + 4 * n ≤ w → All (λ line. measure line ≡ w) lines
  pub all_texts : AreShown (ShowsRow (table_of style arrangement width header rows))
      (table_of style arrangement width header rows) lines
  pub whole_texts : arrangement ≡ Disabled → All IsShortRow (header ∷ rows)
      → AreShown (ShowsWholeRow (table_of style arrangement width header rows))
      (table_of style arrangement width header rows) lines
