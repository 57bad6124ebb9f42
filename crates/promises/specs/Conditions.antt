-- Tables as callers build them, and parts of them.
-- Source: this library's own.
use Rattle.std.specs.Prelude.{◌≡◌, ◌<◌, ◌≤◌, List, [], ◌∷◌, ◌++◌, None, Some, All, flat_map, length}
use Rattle.std.specs.List.{join_by}
use Rattle.comfy_parts.specs.CellValue.{CellValue, ColumnInfo, ColumnValue, RowValue}
use Rattle.comfy_parts.specs.Columns.{IsOneColumnStyle}
use Rattle.comfy_parts.specs.Text.{Text}
use Rattle.comfy_table.specs.Drawing.{drawing_of_infos, drawn_header, drawn_rows, outer_widths}
use Rattle.comfy_table.specs.Frame.{optional_frame_line}
use Rattle.comfy_table.specs.TableValue.{TableValue, ellipsis, with_other_rows}
use Rattle.promises.specs.Tables.{EachCell}

-- the column has default settings
pub record IsNewColumn (column : ColumnValue) : Type 0 where
  pub padding : column.padding ≡ (1, 1)
  pub no_constraint : column.constraint ≡ None
  pub no_delimiter : column.delimiter ≡ None

-- columns, delimiters and indicator are those of a new table, and each character of the style adds
-- one terminal column
pub record HasNewFrame (table : TableValue) : Type 0 where
  pub style : IsOneColumnStyle table.style
  pub delimiter : table.delimiter ≡ None
  pub columns : All IsNewColumn table.columns
  pub cells : EachCell (λ (cell : CellValue). cell.delimiter ≡ None) table
  pub indicator : table.indicator ≡ ellipsis

-- the table has neither columns nor rows
pub record IsEmpty (base : TableValue) : Type 0 where
  pub no_columns : base.columns ≡ []
  pub no_rows : base.rows ≡ []

-- the table has this header and these rows, a new column for each of their cells, and the settings
-- of the base
pub record IsOfRows (base : TableValue) (header : RowValue) (rows : List RowValue)
    (table : TableValue) : Type 0 where
  pub is : table ≡ record base { columns = table.columns; header = Some header; rows = rows }
  pub columns : All IsNewColumn table.columns
  pub room :
      All (λ (row : RowValue). length row.cells ≤ length table.columns) (header ∷ rows)

-- ---- parts

-- the header and these lines, between the top and the bottom border
abbrev pub framed : TableValue → List ColumnInfo → List Text → List Text
framed table infos lines =
    optional_frame_line table.style table.style.top_border (outer_widths infos)
    ++ (drawn_header table infos table.header
    ++ (lines ++ optional_frame_line table.style table.style.bottom_border (outer_widths infos)))

-- the drawing of other rows over the same columns consists of these rows in the frame
abbrev pub RowsAreFramed : TableValue → List ColumnInfo → List RowValue → Type 0
RowsAreFramed table infos rows =
    drawing_of_infos (with_other_rows rows table) infos
    ≡ framed table infos (drawn_rows table infos rows)

-- parts that have all rows in order, and each at least one, make the whole drawing
abbrev pub PartsMakeTheWhole : TableValue → List ColumnInfo → List (List RowValue) → Type 0
PartsMakeTheWhole table infos parts =
    flat_map (λ (part : List RowValue). part) parts ≡ table.rows
    → All (λ (part : List RowValue). 0 < length part) parts
    → drawing_of_infos table infos
    ≡ framed table infos (join_by (drawn_rows table infos)
    (optional_frame_line table.style table.style.row_separator (outer_widths infos)) parts)
