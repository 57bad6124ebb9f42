-- Private: rows whose cells are made or lent when they are drawn.
-- Source: this library's own.
use Rattle.std.specs.Prelude.{◌≡◌, ◌≤◌, ◌<◌, ◌*◌, ℕ, All, IfSome, List, [], None, Some, filter, length, map, nat_lt, slice_get, slice_index_or, unwrap_or}
use Rattle.comfy_parts.specs.CellValue.{CellValue, ColumnInfo, RowValue}
use Rattle.comfy_parts.specs.Text.{Text, greatest}
use Rattle.comfy_table.specs.TableValue.{TableValue, cell_content_width, measured_cell}
use Rattle.csv_tables.specs.Cells.{cell_for, pair_for, with_weight}
use Rattle.csv_tables.specs.Columns.{name_at}
use Rattle.csv_tables.specs.declared.options.ColumnPlan.{ColumnPlan}
use Rattle.csv_tables.specs.declared.rows.RecordRows.{RecordRows}

-- the cell for the name of a column, in the row of its field
abbrev pub name_cell : RecordRows → ColumnPlan → CellValue
name_cell rows column =
    with_weight rows.look.has_bold_header
    (cell_for rows.look None (name_at (unwrap_or rows.selected.names []) column.position))

-- the row of a field of a column, for an expanded record
abbrev pub pair_in : RecordRows → ColumnPlan → Text → RowValue
pair_in rows column field =
    pair_for rows.look (name_at (unwrap_or rows.selected.names []) column.position) field

-- the width of the widest name of the columns before position `count`, as cells are measured in a
-- table
abbrev pub names_width : TableValue → RecordRows → ℕ → ℕ
names_width table rows count =
    greatest (map (λ column. cell_content_width (measured_cell table (name_cell rows column)))
    (filter (λ (column : ColumnPlan). nat_lt column.position count) rows.selected.columns))

-- `cells` are the cells of an expanded record's rows: a name and a field for each of the first
-- columns
pub record AreNamed (rows : RecordRows) (cells : List CellValue) : Type 0 where
  pub columns : ℕ
  pub count : length cells ≡ 2 * columns
  pub names :
      (k : ℕ) (column : ColumnPlan) → k < columns
      → slice_get rows.selected.columns k ≡ Some column
      → slice_get cells (2 * k) ≡ Some (name_cell rows column)

-- no cell has more than one text line, and the greatest height is at least 1
pub record IsFlat (row : RowValue) : Type 0 where
  pub lines : All (λ (cell : CellValue). length cell.text_lines ≤ 1) row.cells
  pub some_height : IfSome row.max_height (λ h. 1 ≤ h)

-- each column has room for its width, which is at most 65534
abbrev pub AreWithin : List ℕ → List ColumnInfo → Type 0
AreWithin widths infos =
    (i : ℕ) (info : ColumnInfo) → slice_get infos i ≡ Some info
    → (slice_index_or widths i 0 ≤ info.content_width) × (slice_index_or widths i 0 < 65535)
