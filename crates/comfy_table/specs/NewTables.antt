-- New tables with nothing but a style, a header and rows: the widths of their lines, and the SGR
-- sequences in the lines.
-- Source: this library's own.
use Rattle.std.specs.Prelude.{◌≡◌, ℕ, ◌≤◌, List, None, All, true}
use Rattle.comfy_parts.specs.CellValue.{CellValue, RowValue}
use Rattle.comfy_parts.specs.Columns.{IsOneColumnStyle}
use Rattle.comfy_parts.specs.Text.{Text, measure}
use Rattle.comfy_parts.specs.declared.style.table_style.TableStyle.{TableStyle}
use Rattle.comfy_table.specs.Headline.{IsTableDrawing}
use Rattle.comfy_table.specs.Laws.{IsStyleWithout, LeavesNoneOpen}
use Rattle.comfy_table.specs.TableValue.{new_table, with_header, with_rows}

-- a row without a greatest height, whose text lines measure at most 65535 terminal columns
pub record IsShortRow (row : RowValue) : Type 0 where
  pub uncut : row.max_height ≡ None
  pub short :
      All (λ (cell : CellValue). All (λ line. measure line ≤ 65535) cell.text_lines) row.cells

-- all lines have the same number of terminal columns
abbrev pub AreEquallyWide : List Text → Type 0
AreEquallyWide lines = (n : ℕ) × All (λ line. measure line ≡ n) lines

-- all lines of a new table of such rows have the same number of terminal columns, in every script
abbrev pub NewTablesAreStraight : TableStyle → RowValue → List RowValue → List Text → Type 0
NewTablesAreStraight style header rows lines =
    IsOneColumnStyle style → IsShortRow header → All IsShortRow rows
    → IsTableDrawing (with_rows rows (with_header header (new_table style))) lines
    → AreEquallyWide lines

-- with custom styling and in a style without ESC, no line of a new table leaves a sequence open,
-- for any rows
abbrev pub NewTablesLeaveNoneOpen : TableStyle → RowValue → List RowValue → List Text → Type 0
NewTablesLeaveNoneOpen style header rows lines =
    IsStyleWithout 0x1B style
    → IsTableDrawing (record (with_rows rows (with_header header (new_table style)))
    { custom_styling = true }) lines
    → All LeavesNoneOpen lines
