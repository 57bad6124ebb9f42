-- Tables as callers make them, and the widths of their characters and texts.
-- Source: this library's own.
use Rattle.std.specs.Prelude.{◌≡◌, ◌==◌, ◌&&◌, ℕ, ◌≤◌, true, false, not, None, Some, List, All, chars, encode_utf8, filter, nat_le, slice_get}
use Rattle.std.specs.List.{list_all}
use Rattle.comfy_parts.specs.CellValue.{CellValue, ColumnInfo, ColumnValue, RowValue, is_hidden_column}
use Rattle.comfy_parts.specs.Columns.{CharactersFit, IsApart, IsOneColumn, IsOneColumnStyle}
use Rattle.comfy_parts.specs.Text.{Text, measure}
use Rattle.comfy_table.specs.TableValue.{TableValue, header_and_rows, should_style, shown_columns}

-- ---- the parts of a table

-- P holds of each cell, also in the header
abbrev pub EachCell : (CellValue → Type 0) → TableValue → Type 0
EachCell P table = All (λ (row : RowValue). All P row.cells) (header_and_rows table)

-- P holds of each text line of each cell
abbrev pub EachText : (Text → Type 0) → TableValue → Type 0
EachText P table = EachCell (λ (cell : CellValue). All P cell.text_lines) table

-- P holds of each text line of each cell in a shown column
abbrev pub EachShownText : (Text → Type 0) → TableValue → Type 0
EachShownText P table =
    All (λ (p : ℕ × ColumnValue). All (λ (row : RowValue). (cell : CellValue)
    → slice_get row.cells p.0 ≡ Some cell → All P cell.text_lines) (header_and_rows table))
    (shown_columns table)

-- the columns that aren't hidden
abbrev pub shown : TableValue → List ColumnValue
shown table = filter (λ (column : ColumnValue). not (is_hidden_column column)) table.columns

-- no shown column has a constraint
abbrev pub IsUnconstrained : TableValue → Type 0
IsUnconstrained table = All (λ (column : ColumnValue). column.constraint ≡ None) (shown table)

-- neither colours nor attributes are written, and texts aren't searched for sequences
pub record IsPlain (table : TableValue) : Type 0 where
  pub no_styles : should_style table ≡ false
  pub no_sequences : table.custom_styling ≡ false

-- ---- terminal columns

-- each character takes at most n terminal columns, and no character is U+FE01, which can make
-- another character wider
abbrev pub HasCharactersWithin : ℕ → Text → Type 0
HasCharactersWithin n text =
    list_all (λ c. nat_le (measure (encode_utf8 c)) n && not (c == 0xFE01)) (chars text) ≡ true

-- each character of the style and each delimiter adds one terminal column between any two texts.
-- The indicator adds its own width to any text before it, and each shown column has a padding on
-- its left.
pub record HasPlainFrame (table : TableValue) : Type 0 where
  pub style : IsOneColumnStyle table.style
  pub delimiter : IsOneColumn table.delimiter
  pub column_delimiters : All (λ (column : ColumnValue). IsOneColumn column.delimiter) table.columns
  pub cell_delimiters : EachCell (λ (cell : CellValue). IsOneColumn cell.delimiter) table
  pub indicator : IsApart table.indicator
  pub paddings : All (λ (column : ColumnValue). 1 ≤ column.padding.0) (shown table)

-- the table is as wide as its texts: no column has a constraint, no row is cut, and no text line
-- measures more than 65535 terminal columns
pub record IsShownWhole (table : TableValue) : Type 0 where
  pub no_constraint : IsUnconstrained table
  pub uncut : All (λ (row : RowValue). row.max_height ≡ None) (header_and_rows table)
  pub short : EachText (λ text. measure text ≤ 65535) table

-- the characters of a cell's texts fit its column, if the column is shown
abbrev pub CharactersFitColumns : TableValue → List ColumnInfo → Type 0
CharactersFitColumns table columns =
    All (λ (row : RowValue). (i : ℕ) (column : ColumnInfo) → slice_get columns i ≡ Some column
    → column.is_hidden ≡ false → (cell : CellValue) → slice_get row.cells i ≡ Some cell
    → All (CharactersFit column.content_width) cell.text_lines) (header_and_rows table)
