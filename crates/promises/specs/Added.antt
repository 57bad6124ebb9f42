-- Two tables: one with a further row, and one with other hidden columns.
-- Source: this library's own.
use Rattle.std.specs.Prelude.{◌≡◌, ℕ, ◌≤◌, false, List, ◌++◌, Contains, Some, length, slice_get}
use Rattle.comfy_parts.specs.CellValue.{CellValue, RowValue}
use Rattle.comfy_parts.specs.Text.{Text}
use Rattle.comfy_parts.specs.declared.style.table.ContentArrangement.TheVariants.{Disabled}
use Rattle.comfy_table.specs.Frame.{optional_frame_line}
use Rattle.comfy_table.specs.HiddenColumns.{without_hidden}
use Rattle.comfy_table.specs.TableValue.{TableValue, cell_content_width, header_and_rows}

-- the cell is below a cell of the same column that is at least as wide
abbrev pub IsBelowAsWide : TableValue → ℕ → CellValue → Type 0
IsBelowAsWide table i cell =
    (above : RowValue) × (other : CellValue) × Contains (header_and_rows table) above
    × (slice_get above.cells i ≡ Some other) × (cell_content_width cell ≤ cell_content_width other)

-- the row has at most as many cells as there are columns, and each cell is below a cell that is at
-- least as wide
pub record HasRoomFor (table : TableValue) (row : RowValue) : Type 0 where
  pub columns : length row.cells ≤ length table.columns
  pub widths : (i : ℕ) (cell : CellValue) → slice_get row.cells i ≡ Some cell
      → IsBelowAsWide table i cell

-- all lines are unchanged, and new lines are above the bottom border, or at the end if there is no
-- bottom border
abbrev pub Stay : TableValue → List Text → List Text → Type 0
Stay table lines others =
    (above : List Text) × (added : List Text) × (widths : List ℕ)
    × (lines ≡ above ++ optional_frame_line table.style table.style.bottom_border widths)
    × (others
    ≡ above ++ (added ++ optional_frame_line table.style table.style.bottom_border widths))

-- the lines are unchanged if a row with room in the columns is added to a `Disabled` table
abbrev pub StayWithRow : TableValue → RowValue → List Text → List Text → Type 0
StayWithRow table row lines others =
    table.arrangement ≡ Disabled → table.custom_styling ≡ false → HasRoomFor table row
    → Stay table lines others

-- tables that differ only in hidden columns have the same lines
abbrev pub AreSameButForHidden : TableValue → TableValue → List Text → List Text → Type 0
AreSameButForHidden table other lines others =
    without_hidden table ≡ without_hidden other → lines ≡ others
