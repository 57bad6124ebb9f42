-- Tables with straight edges in terminal columns. Rows and cells are as they are measured.
-- Source: this library's own.
use Rattle.std.specs.Prelude.{◌≡◌, ◌⊎◌, ℕ, ◌≤◌, ◌<◌, true, length, List, Some, None, slice_get, All}
use Rattle.comfy_parts.specs.CellValue.{CellValue, RowValue, ColumnInfo, ColumnValue}
use Rattle.comfy_parts.specs.Columns.{IsApart, IsOneColumnStyle, SelectorsAgree, TextFits}
use Rattle.comfy_parts.specs.Text.{measure}
use Rattle.comfy_parts.specs.VisibleLines.{CellLine}
use Rattle.comfy_table.specs.Arrangement.{width_kept}
use Rattle.comfy_table.specs.Drawing.{infos_of}
use Rattle.comfy_table.specs.Frame.{draws_vertical_lines}
use Rattle.comfy_table.specs.Laws.{NoConstraints, unstyled}
use Rattle.comfy_table.specs.Lines.{cell_delimiter, cell_lines}
use Rattle.comfy_table.specs.Pieces.{row_cell_lines, shown_infos}
use Rattle.comfy_table.specs.TableValue.{TableValue, measured_rows, table_width, shown_columns}

-- no texts of two columns touch: vertical lines are drawn, or each shown column has a padding at
-- its left, or each has one at its right
abbrev pub TextsAreApart : TableValue → Type 0
TextsAreApart table =
    (draws_vertical_lines table.style ≡ true)
    ⊎ (All (λ (p : ℕ × ColumnValue). 1 ≤ p.1.padding.0) (shown_columns table)
    ⊎ All (λ (p : ℕ × ColumnValue). 1 ≤ p.1.padding.1) (shown_columns table))

-- P holds of each cell of these rows in a shown column
abbrev pub EachShownCell :
    (RowValue → ColumnInfo → CellValue → Type 0) → List RowValue → TableValue → List ℕ → Type 0
EachShownCell P rows table widths =
    All (λ (row : RowValue). All (λ (p : ℕ × ColumnInfo).
    (cell : CellValue) → slice_get row.cells p.0 ≡ Some cell → P row p.1 cell)
    (shown_infos (infos_of table widths))) rows

-- P holds of each cell in a shown column, as it is measured
abbrev pub EachCell :
    (RowValue → ColumnInfo → CellValue → Type 0) → TableValue → List ℕ → Type 0
EachCell P table widths = EachShownCell P (measured_rows table) table widths

-- no line of the cell is wider than its column
abbrev pub CellLinesFit : TableValue → RowValue → ColumnInfo → CellValue → Type 0
CellLinesFit table row info cell =
    All (λ (line : CellLine). measure line.measured ≤ info.content_width)
    (row_cell_lines (unstyled table) row info cell)

-- the text lines of the cell fit its column. If the row cuts the cell, its selectors agree, and no
-- text joins the indicator.
pub record TextsFit (table : TableValue) (row : RowValue) (info : ColumnInfo)
    (cell : CellValue) : Type 0 where
  pub fit : All (TextFits info.content_width (cell_delimiter table info.delimiter cell))
      cell.text_lines
  pub cut : (h : ℕ) → row.max_height ≡ Some h
      → h < length (cell_lines info.content_width (cell_delimiter table info.delimiter cell) cell)
      → All SelectorsAgree cell.text_lines × IsApart table.indicator

-- the table is as wide as its texts: it keeps to no width, no column has a constraint, no row is
-- cut, and no text line measures more than 65535 terminal columns
pub record IsShownWhole (table : TableValue) : Type 0 where
  pub no_width : width_kept table.arrangement (table_width table) ≡ None
  pub no_constraints : NoConstraints table
  pub uncut : All (λ (row : RowValue). row.max_height ≡ None) (measured_rows table)
  pub short : All (λ (row : RowValue). All (λ (cell : CellValue).
      All (λ line. measure line ≤ 65535) cell.text_lines) row.cells) (measured_rows table)

-- each character of the style adds one terminal column, no texts touch, and no line of a cell is
-- wider than its column. Lines aren't wider if the texts fit, or if the table is as wide as its
-- texts.
pub record IsStraightTable (table : TableValue) (widths : List ℕ) : Type 0 where
  pub characters : IsOneColumnStyle table.style
  pub apart : TextsAreApart table
  pub fits : EachCell (CellLinesFit table) table widths
      ⊎ (EachCell (TextsFit table) table widths ⊎ IsShownWhole table)
